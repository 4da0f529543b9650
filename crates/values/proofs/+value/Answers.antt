-- `values::value` meets its contract, by recursion over the subterms: the count of remaining tokens falls at each call.
use Rattle.std.proofs.Common.{◌≡◌, ℕ, refl, [], ◌∷◌, ◌+◌, ◌-◌, ◌*◌, ◌<◌, ◌≤◌, get_or, arith}
use mathlib.Core.Path.{sym, ◌∙◌}
use Rattle.values.specs.Standing.{Stands}
use Rattle.values.proofs.Standing.{inside, within_room, variable_valued, row_none, row_more}
use Rattle.values.proofs.Keeping.{kept_valued, kept_more, lacks_variable, lacks_none, lacks_more}
use Rattle.values.proofs.Valuing.{sheet_fits, Behind, Ahead, ahead_first, ahead_stands, ahead_behind, ahead_valuable, after_first, after_second, after_third}
use Rattle.values.proofs.Valuing.{gatherable_leaf, gatherable_three, filled_more, filled_noted}
use Rattle.values.proofs.+value.Goals as goal
use Rattle.values.proofs.+value.Goals.{Else-n-eq0, Else-n-eq1, Else-n-eq2, After-sheet_of, After-sheet_of-2, After-sheet_of-3, After-value-second, After-value-third, After-value-after}

-- How many arguments there are: one, another, a third.
some1 : (t : ℕ) (c : Else-n-eq0 t) → 0 < c.arity-n.result
some1 t c = omega (arith, c.if-n-eq0.false)

some2 : (t : ℕ) (c : Else-n-eq1 t) → 0 < c.arity-n.result - 1
some2 t c = omega (arith, c.if-n-eq0.false, c.if-n-eq1.false)

some3 : (t : ℕ) (c : Else-n-eq2 t) → 0 < c.arity-n.result - 1 - 1
some3 t c = omega (arith, c.if-n-eq0.false, c.if-n-eq1.false, c.if-n-eq2.false)

three_here : (t : ℕ) (c : Else-n-eq2 t) → get_or c.args.delta.arities.now (get_or c.args.tokens.now c.args.at 0) 0 ≡ 3
three_here t c = omega (arith, c.arity-n.ensures, c.args.delta.ready.ranks (get_or c.args.tokens.now c.args.at 0), some3 t c)

-- What is known before the first argument is valued, and after the first, the second and the third.
left0 : (t : ℕ) (c : Else-n-eq0 t)
    → Ahead c.args.delta.arities.now c.args.delta.words.now c.args.delta.heads.now c.args.tokens.now c.args.near c.args.delta.states (c.args.at + 1) c.arity-n.result c.args.ends.now c.args.m.now
left0 t c = ahead_first c.requires c.if-f-ge-VARIABLE.false c.arity-n.ensures

left1 : (t : ℕ) (c : After-value-second t)
    → Ahead c.args.delta.arities.now c.args.delta.words.now c.args.delta.heads.now c.args.tokens.now c.args.near c.args.delta.states c.value-second.result
    (c.arity-n.result - 1) c.value-second.new.ends c.value-second.new.m
left1 t c =
    let v1 = c.value-second.ensures in
    after_first c.requires c.if-f-ge-VARIABLE.false c.arity-n.ensures (omega (arith, c.if-n-eq0.false)) (v1.valued, v1.kept)

left2 : (t : ℕ) (c : After-value-third t)
    → Ahead c.args.delta.arities.now c.args.delta.words.now c.args.delta.heads.now c.args.tokens.now c.args.near c.args.delta.states c.value-third.result
    (c.arity-n.result - 1 - 1) c.value-third.new.ends c.value-third.new.m
left2 t c =
    let v1 = c.value-second.ensures in
    let v2 = c.value-third.ensures in
    after_second c.requires c.if-f-ge-VARIABLE.false c.arity-n.ensures (omega (arith, c.if-n-eq0.false)) (v1.valued, v1.kept)
    (omega (arith, c.if-n-eq0.false, c.if-n-eq1.false)) (v2.valued, v2.kept)

left3 : (t : ℕ) (c : After-value-after t)
    → Ahead c.args.delta.arities.now c.args.delta.words.now c.args.delta.heads.now c.args.tokens.now c.args.near c.args.delta.states c.value-after.result
    (c.arity-n.result - 1 - 1 - 1) c.value-after.new.ends c.value-after.new.m
left3 t c =
    let v1 = c.value-second.ensures in
    let v2 = c.value-third.ensures in
    let v3 = c.value-after.ensures in
    after_third c.requires c.if-f-ge-VARIABLE.false c.arity-n.ensures (omega (arith, c.if-n-eq0.false)) (v1.valued, v1.kept)
    (omega (arith, c.if-n-eq0.false, c.if-n-eq1.false)) (v2.valued, v2.kept)
    (omega (arith, c.if-n-eq0.false, c.if-n-eq1.false, c.if-n-eq2.false)) (v3.valued, v3.kept)

-- An argument that is there stands at its place.
stands1 : (t : ℕ) (c : Else-n-eq0 t) → Stands c.args.delta.arities.now c.args.tokens.now (c.args.at + 1)
stands1 t c = ahead_stands (left0 t c) (some1 t c)

stands2 : (t : ℕ) (c : Else-n-eq1 t) → Stands c.args.delta.arities.now c.args.tokens.now c.value-second.result
stands2 t c =
    let v1 = c.value-second.ensures in
    ahead_stands (after_first c.requires c.if-f-ge-VARIABLE.false c.arity-n.ensures (omega (arith, c.if-n-eq0.false)) (v1.valued, v1.kept)) (some2 t c)

stands3 : (t : ℕ) (c : Else-n-eq2 t) → Stands c.args.delta.arities.now c.args.tokens.now c.value-third.result
stands3 t c =
    let v1 = c.value-second.ensures in
    let v2 = c.value-third.ensures in
    ahead_stands (after_second c.requires c.if-f-ge-VARIABLE.false c.arity-n.ensures (omega (arith, c.if-n-eq0.false)) (v1.valued, v1.kept)
    (omega (arith, c.if-n-eq0.false, c.if-n-eq1.false)) (v2.valued, v2.kept)) (some3 t c)

-- Its sheet lies behind that of the symbol.
behind1 : (t : ℕ) (c : After-sheet_of t) → Behind c.args.at c.sheet_of.result
behind1 t c = ahead_behind (ahead_first c.requires c.if-f-ge-VARIABLE.false c.arity-n.ensures) (omega (arith, c.if-n-eq0.false)) c.sheet_of.ensures c.args.at (omega arith)

behind2 : (t : ℕ) (c : After-sheet_of-2 t) → Behind c.args.at c.sheet_of-2.result
behind2 t c =
    let v1 = c.value-second.ensures in
    ahead_behind (after_first c.requires c.if-f-ge-VARIABLE.false c.arity-n.ensures (omega (arith, c.if-n-eq0.false)) (v1.valued, v1.kept)) (omega (arith, c.if-n-eq0.false, c.if-n-eq1.false))
    c.sheet_of-2.ensures c.args.at (omega (arith, v1.valued.forward))

behind3 : (t : ℕ) (c : After-sheet_of-3 t) → Behind c.args.at c.sheet_of-3.result
behind3 t c =
    let v1 = c.value-second.ensures in
    let v2 = c.value-third.ensures in
    ahead_behind
    (after_second c.requires c.if-f-ge-VARIABLE.false c.arity-n.ensures (omega (arith, c.if-n-eq0.false)) (v1.valued, v1.kept) (omega (arith, c.if-n-eq0.false, c.if-n-eq1.false)) (v2.valued, v2.kept))
    (omega (arith, c.if-n-eq0.false, c.if-n-eq1.false, c.if-n-eq2.false)) c.sheet_of-3.ensures c.args.at (omega (arith, v1.valued.forward, v2.valued.forward))

pub bounds-ends-at : goal.bounds-ends-at
bounds-ends-at t c = within_room c.requires.stands

pub returns-then-end-ne0-clause-valued : goal.returns-then-end-ne0-clause-valued
returns-then-end-ne0-clause-valued t c = kept_valued c.requires.stands c.requires.kept refl (omega (arith, c.if-end-ne0.true))

pub bounds-tokens-at : goal.bounds-tokens-at
bounds-tokens-at t c = inside c.requires.stands

pub returns-then-not-is_near-clause-valued : goal.returns-then-not-is_near-clause-valued
returns-then-not-is_near-clause-valued t c = variable_valued c.requires.stands c.if-f-ge-VARIABLE.true

pub returns-then-not-is_near-clause-kept : goal.returns-then-not-is_near-clause-kept
returns-then-not-is_near-clause-kept t c =
    let v = variable_valued c.requires.stands c.if-f-ge-VARIABLE.true in
    kept_more c.requires.stands v (lacks_variable c.requires.stands c.if-f-ge-VARIABLE.true (c.is_near.ensures.other c.if-not-is_near.true)) c.requires.kept

pub returns-else-not-is_near-clause-valued : goal.returns-else-not-is_near-clause-valued
returns-else-not-is_near-clause-valued t c = variable_valued c.requires.stands c.if-f-ge-VARIABLE.true

pub gather-requires : goal.gather-requires
gather-requires t c =
    let n : get_or c.args.delta.arities.now (get_or c.args.tokens.now c.args.at 0) 0 ≡ 0 = sym c.arity-n.ensures ∙ c.if-n-eq0.true in
    gatherable_leaf c.args.delta.ready c.requires c.if-f-ge-VARIABLE.false n c.requires.room _ refl

pub bounds-ends-at-then-n-eq0 : goal.bounds-ends-at-then-n-eq0
bounds-ends-at-then-n-eq0 t c = within_room c.requires.stands

pub returns-then-n-eq0 : goal.returns-then-n-eq0
returns-then-n-eq0 t c =
    let n : get_or c.args.delta.arities.now (get_or c.args.tokens.now c.args.at 0) 0 ≡ 0 = sym c.arity-n.ensures ∙ c.if-n-eq0.true in
    let next : c.args.at + 1 ≤ 48 = omega (arith, within_room c.requires.stands) in
    let e = filled_more c.requires.stands c.if-f-ge-VARIABLE.false n (λ g. refl) (row_none next) (c.gather.ensures c.args.delta.arities.now) c.requires.kept lacks_none in
    record { valued = e.0; kept = e.1 }

pub sheet_of-requires : goal.sheet_of-requires
sheet_of-requires t c = inside (stands1 t ((goal.at.sheet_of-requires t c).Else-n-eq0))

pub overflow_mul-a : goal.overflow_mul-a
overflow_mul-a t c = omega (arith, sheet_fits c.sheet_of.result c.args.delta.states (behind1 t ((goal.at.overflow_mul-a t c).After-sheet_of)).1 c.args.delta.ready.most)

pub value-second-requires : goal.value-second-requires
value-second-requires t c =
    let here = ((goal.at.value-second-requires t c).Else-n-eq0) in
    (omega (arith, c.decreases, inside c.requires.stands), ahead_valuable (left0 t here) (some1 t here) c.requires)

pub gather-requires-then-n-eq1 : goal.gather-requires-then-n-eq1
gather-requires-then-n-eq1 t c =
    let one_here : get_or c.args.delta.arities.now (get_or c.args.tokens.now c.args.at 0) 0 ≡ 1 = sym c.arity-n.ensures ∙ c.if-n-eq1.true in
    let b1 = behind1 t ((goal.at.gather-requires-then-n-eq1 t c).After-sheet_of) in
    gatherable_three c.args.delta.ready c.requires c.if-f-ge-VARIABLE.false one_here (left1 t ((goal.at.gather-requires-then-n-eq1 t c).After-value-second)).room _ _ _ b1 b1 b1

pub keep-requires : goal.keep-requires
keep-requires t c =
    let left = left1 t ((goal.at.keep-requires t c).After-value-second) in
    let p1 = within_room (stands1 t ((goal.at.keep-requires t c).Else-n-eq0)) in
    record { place = within_room c.requires.stands; first = omega arith; second = omega arith; third = omega arith; byte = omega (arith, left.row.room) }

pub returns-then-n-eq1 : goal.returns-then-n-eq1
returns-then-n-eq1 t c =
    let v1 = c.value-second.ensures in
    let p1 = within_room (stands1 t ((goal.at.returns-then-n-eq1 t c).Else-n-eq0)) in
    let one_here : get_or c.args.delta.arities.now (get_or c.args.tokens.now c.args.at 0) 0 ≡ 1 = sym c.arity-n.ensures ∙ c.if-n-eq1.true in
    let next : c.value-second.result ≤ 48 = omega (arith, (left1 t ((goal.at.returns-then-n-eq1 t c).After-value-second)).row.room) in
    let e1 = c.sheet_of.ensures in
    let e =
    filled_noted c.requires.stands c.if-f-ge-VARIABLE.false one_here (λ g i. g (e1 i * c.args.delta.states) ∷ []) (row_more v1.valued (row_none next))
    (c.gather-then-n-eq1.ensures c.args.delta.arities.now) v1.kept
    (λ ha hb hc. lacks_more v1.valued (v1.kept.without (c.args.at + 1) p1 ha) lacks_none)
    c.keep.ensures in
    record { valued = e.0; kept = e.1 }

pub sheet_of-requires-2 : goal.sheet_of-requires-2
sheet_of-requires-2 t c = inside (stands2 t ((goal.at.sheet_of-requires-2 t c).Else-n-eq1))

pub overflow_mul-b : goal.overflow_mul-b
overflow_mul-b t c = omega (arith, sheet_fits c.sheet_of-2.result c.args.delta.states (behind2 t ((goal.at.overflow_mul-b t c).After-sheet_of-2)).1 c.args.delta.ready.most)

pub value-third-requires : goal.value-third-requires
value-third-requires t c =
    let v1 = c.value-second.ensures in
    let left = left1 t ((goal.at.value-third-requires t c).After-value-second) in
    (omega (arith, c.decreases, inside c.requires.stands, v1.valued.forward), ahead_valuable left (some2 t ((goal.at.value-third-requires t c).Else-n-eq1)) c.requires)

pub gather-requires-then-n-eq2 : goal.gather-requires-then-n-eq2
gather-requires-then-n-eq2 t c =
    let two_here : get_or c.args.delta.arities.now (get_or c.args.tokens.now c.args.at 0) 0 ≡ 2 = sym c.arity-n.ensures ∙ c.if-n-eq2.true in
    let b2 = behind2 t ((goal.at.gather-requires-then-n-eq2 t c).After-sheet_of-2) in
    gatherable_three c.args.delta.ready c.requires c.if-f-ge-VARIABLE.false two_here (left2 t ((goal.at.gather-requires-then-n-eq2 t c).After-value-third)).room _ _ _
    (behind1 t ((goal.at.gather-requires-then-n-eq2 t c).After-sheet_of)) b2 b2

pub keep-requires-then-n-eq2 : goal.keep-requires-then-n-eq2
keep-requires-then-n-eq2 t c =
    let left = left2 t ((goal.at.keep-requires-then-n-eq2 t c).After-value-third) in
    let p1 = within_room (stands1 t ((goal.at.keep-requires-then-n-eq2 t c).Else-n-eq0)) in
    let p2 = within_room (stands2 t ((goal.at.keep-requires-then-n-eq2 t c).Else-n-eq1)) in
    record { place = within_room c.requires.stands; first = omega arith; second = omega arith; third = omega arith; byte = omega (arith, left.row.room) }

pub returns-then-n-eq2 : goal.returns-then-n-eq2
returns-then-n-eq2 t c =
    let v1 = c.value-second.ensures in
    let v2 = c.value-third.ensures in
    let p1 = within_room (stands1 t ((goal.at.returns-then-n-eq2 t c).Else-n-eq0)) in
    let p2 = within_room (stands2 t ((goal.at.returns-then-n-eq2 t c).Else-n-eq1)) in
    let two_here : get_or c.args.delta.arities.now (get_or c.args.tokens.now c.args.at 0) 0 ≡ 2 = sym c.arity-n.ensures ∙ c.if-n-eq2.true in
    let next : c.value-third.result ≤ 48 = omega (arith, (left2 t ((goal.at.returns-then-n-eq2 t c).After-value-third)).row.room) in
    let e1 = c.sheet_of.ensures in
    let e2 = c.sheet_of-2.ensures in
    let e =
    filled_noted c.requires.stands c.if-f-ge-VARIABLE.false two_here (λ g i. g (e1 i * c.args.delta.states) ∷ (g (e2 i * c.args.delta.states) ∷ []))
    (row_more v1.valued (row_more v2.valued (row_none next))) (c.gather-then-n-eq2.ensures c.args.delta.arities.now) v2.kept
    (λ ha hb hc. lacks_more v1.valued (v2.kept.without (c.args.at + 1) p1 ha) (lacks_more v2.valued (v2.kept.without c.value-second.result p2 hb) lacks_none))
    c.keep-then-n-eq2.ensures in
    record { valued = e.0; kept = e.1 }

pub sheet_of-requires-3 : goal.sheet_of-requires-3
sheet_of-requires-3 t c = inside (stands3 t ((goal.at.sheet_of-requires-3 t c).Else-n-eq2))

pub overflow_mul-c : goal.overflow_mul-c
overflow_mul-c t c = omega (arith, sheet_fits c.sheet_of-3.result c.args.delta.states (behind3 t ((goal.at.overflow_mul-c t c).After-sheet_of-3)).1 c.args.delta.ready.most)

pub value-after-requires : goal.value-after-requires
value-after-requires t c =
    let v1 = c.value-second.ensures in
    let v2 = c.value-third.ensures in
    let left = left2 t ((goal.at.value-after-requires t c).After-value-third) in
    (omega (arith, c.decreases, inside c.requires.stands, v1.valued.forward, v2.valued.forward), ahead_valuable left (some3 t ((goal.at.value-after-requires t c).Else-n-eq2)) c.requires)

pub gather-requires-2 : goal.gather-requires-2
gather-requires-2 t c =
    gatherable_three c.args.delta.ready c.requires c.if-f-ge-VARIABLE.false (three_here t ((goal.at.gather-requires-2 t c).Else-n-eq2)) (left3 t
    ((goal.at.gather-requires-2 t c).After-value-after)).room _ _ _
    (behind1 t ((goal.at.gather-requires-2 t c).After-sheet_of)) (behind2 t ((goal.at.gather-requires-2 t c).After-sheet_of-2)) (behind3 t ((goal.at.gather-requires-2 t c).After-sheet_of-3))

pub keep-requires-2 : goal.keep-requires-2
keep-requires-2 t c =
    let left = left3 t ((goal.at.keep-requires-2 t c).After-value-after) in
    let p1 = within_room (stands1 t ((goal.at.keep-requires-2 t c).Else-n-eq0)) in
    let p2 = within_room (stands2 t ((goal.at.keep-requires-2 t c).Else-n-eq1)) in
    let p3 = within_room (stands3 t ((goal.at.keep-requires-2 t c).Else-n-eq2)) in
    record { place = within_room c.requires.stands; first = omega arith; second = omega arith; third = omega arith; byte = omega (arith, left.row.room) }

pub returns : goal.returns
returns t c =
    let v1 = c.value-second.ensures in
    let v2 = c.value-third.ensures in
    let v3 = c.value-after.ensures in
    let p1 = within_room (stands1 t ((goal.at.returns t c).Else-n-eq0)) in
    let p2 = within_room (stands2 t ((goal.at.returns t c).Else-n-eq1)) in
    let p3 = within_room (stands3 t ((goal.at.returns t c).Else-n-eq2)) in
    let next : c.value-after.result ≤ 48 = omega (arith, (left3 t ((goal.at.returns t c).After-value-after)).row.room) in
    let e1 = c.sheet_of.ensures in
    let e2 = c.sheet_of-2.ensures in
    let e3 = c.sheet_of-3.ensures in
    let e =
    filled_noted c.requires.stands c.if-f-ge-VARIABLE.false (three_here t ((goal.at.returns t c).Else-n-eq2)) (λ g i. g (e1 i * c.args.delta.states) ∷ (g (e2 i * c.args.delta.states) ∷
    (g (e3 i * c.args.delta.states) ∷ [])))
    (row_more v1.valued (row_more v2.valued (row_more v3.valued (row_none next)))) (c.gather-2.ensures c.args.delta.arities.now) v3.kept
    (λ ha hb hc.
    lacks_more v1.valued (v3.kept.without (c.args.at + 1) p1 ha)
    (lacks_more v2.valued (v3.kept.without c.value-second.result p2 hb) (lacks_more v3.valued (v3.kept.without c.value-third.result p3 hc) lacks_none)))
    c.keep-2.ensures in
    record { valued = e.0; kept = e.1 }
