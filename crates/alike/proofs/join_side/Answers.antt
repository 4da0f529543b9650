-- `alike::join_side` meets its contract: the walk over the arguments of the term's first token.
use Rattle.sets.specs.Sets.{all_mask}
use Rattle.alike.proofs.Sides.{written_inside, inner_given, side_done}
use native.Mathlib.Omega.{arith}
use Rattle.alike.proofs.join_side.Goals as goal

pub bounds-tokens-at : goal.bounds-tokens-at
bounds-tokens-at c = written_inside c.args.delta.arities.now c.args.tokens.now c.args.at c.requires.0.term

pub overflow_add-at : goal.overflow_add-at
overflow_add-at c =
    omega (arith, written_inside c.args.delta.arities.now c.args.tokens.now c.args.at c.requires.0.term)

pub join_row-requires : goal.join_row-requires
join_row-requires c =
    let a = c.args in
    (rw c.rank_of.ensures (inner_given a.delta.arities.now a.tokens.now a.delta.words.now a.delta.heads.now a.x a.delta.ready.ranks a.at all_mask c.requires.0), c.requires.1)

pub returns : goal.returns
returns c = let a = c.args in
    side_done a.delta.arities.now a.tokens.now a.delta.words.now a.delta.heads.now a.x a.at a.same.now _ c.join_row.result
    (rw c.rank_of.ensures at c.join_row.ensures)
