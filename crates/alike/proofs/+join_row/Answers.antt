-- `alike::join_row` meets its contract, by recursion over the subterms: the count of remaining tokens falls at each call.
use Rattle.std.proofs.Common.{◌∙◌, ℕ, ◌<◌, List, length, arith}
use Rattle.alike.specs.Sides.{SideGiven, RowGiven}
use Rattle.alike.specs.declared.Arguments.{Arguments}
use Rattle.alike.proofs.Sides.{written_inside, inner_given, first_given, others_given, row_done, row_more}
use Rattle.alike.proofs.+join_row.Goals as goal

-- Where a row stands that is not empty, a term does.
module _ {arities tokens : List ℕ} {x : ℕ} {here : Arguments} {at : ℕ} (given : RowGiven arities tokens x here at) (some : 0 < here.left) where
  first_here : SideGiven arities tokens x at
  first_here = first_given arities tokens arities arities x here at some given

  within : at < length tokens
  within = written_inside arities tokens at first_here.term

pub returns-then-here-eq0 : goal.returns-then-here-eq0
returns-then-here-eq0 t c = let a = c.args in row_done a.delta.arities.now a.tokens.now a.delta.words.now a.delta.heads.now a.x a.here a.at _ c.if-here-eq0.true

pub bounds-tokens-at : goal.bounds-tokens-at
bounds-tokens-at t c = within c.requires.0 (omega (arith, c.if-here-eq0.false))

pub overflow_add-at : goal.overflow_add-at
overflow_add-at t c = omega (arith, within c.requires.0 (omega (arith, c.if-here-eq0.false)))

pub join_row-next-requires : goal.join_row-next-requires
join_row-next-requires t c =
    let a = c.args in
    let some : 0 < a.here.left = omega (arith, c.if-here-eq0.false) in
    let inside = inner_given a.delta.arities.now a.tokens.now a.delta.words.now a.delta.heads.now a.x a.delta.ready.ranks a.at c.called.result (first_here c.requires.0 some) in
    (omega (arith, c.decreases, within c.requires.0 some), (rw c.rank_of.ensures inside, c.join_token.ensures.long ∙ c.requires.1))

pub join_row-requires : goal.join_row-requires
join_row-requires t c =
    let a = c.args in
    let some : 0 < a.here.left = omega (arith, c.if-here-eq0.false) in
    let sub = c.join_row-next in
    let inside = rw c.rank_of.ensures at sub.ensures in (
      omega (arith, c.decreases, sub.ensures.forward, within c.requires.0 some),
      (
        others_given a.delta.arities.now a.tokens.now a.delta.words.now a.delta.heads.now a.x a.here a.at some c.called.result _ _ sub.result inside c.requires.0,
        sub.ensures.long ∙ (c.join_token.ensures.long ∙ c.requires.1),
      ),
    )

pub returns : goal.returns
returns t c =
    let a = c.args in
    let some : 0 < a.here.left = omega (arith, c.if-here-eq0.false) in
    let inside = rw c.rank_of.ensures at c.join_row-next.ensures in
    row_more a.delta.arities.now a.tokens.now a.delta.words.now a.delta.heads.now a.x a.here a.at some c.called.result _ _ _ inside a.same.now _ _
    c.join_token.ensures
    (c.called.ensures a.delta.arities.now)
    c.join_row.ensures
