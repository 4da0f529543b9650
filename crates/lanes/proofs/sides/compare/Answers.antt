-- `lanes::sides::compare` meets its contract: both sides are valued, or the left side has no class in any lane.
use mathlib.Core.Path.{ap}
use Prim.Native.Nat.{ℕ, ◌*◌}
use native.Mathlib.Omega.{arith}
use Rattle.lanes.proofs.Comparing.{right_room, right_low, both_untouched, compared_empty, compared_both}
use Rattle.lanes.proofs.sides.compare.Goals as goal

pub returns-then-left_empty-clause-compared : goal.returns-then-left_empty-clause-compared
returns-then-left_empty-clause-compared c = compared_empty c.requires.judgeable c.value.ensures.valued (c.left_empty.ensures c.if-left_empty.true)

pub overflow_mul-right : goal.overflow_mul-right
overflow_mul-right c = omega (arith, ap (λ (b : ℕ). b * c.args.delta.states) c.sheet_of.ensures, right_low c.requires.judgeable c.args.delta.ready.most)

pub left_within-requires : goal.left_within-requires
left_within-requires c =
    let j = c.requires.judgeable in
    let long = (both_untouched j c.value.ensures.valued c.value-2.ensures.valued).long in
    (omega (arith, j.room), omega (arith, ap (λ (b : ℕ). b * c.args.delta.states) c.sheet_of.ensures, right_room j))

pub returns-clause-compared : goal.returns-clause-compared
returns-clause-compared c = compared_both c.requires.judgeable c.value.ensures.valued c.value-2.ensures.valued c.sheet_of.ensures c.left_within.result c.left_within.ensures
