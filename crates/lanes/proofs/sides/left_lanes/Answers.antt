-- `lanes::sides::left_lanes` meets its contract: what is missing in `all` is missing in the first word of each row so far.
use mathlib.Core.Path.{◌∙◌}
use mathlib.Core.List.{List, []}
use Prim.Native.Nat.{ℕ}
use native.Mathlib.Omega.{arith}
use lib.ListN.{get_or, length-take}
use lib.Seq.{get_or-take}
use Rattle.lanes.proofs.SideRows.{missed_more, lit_low, left_dark}
use Rattle.lanes.proofs.sides.left_lanes.Goals as goal

pub loop-row-preserved : goal.loop-row-preserved
loop-row-preserved c =
    let m = c.args.m.now in
    let at = c.loop-row in
    rw (get_or-take c.args.k m at.row-index [] (omega (arith, length-take {A = List ℕ}))) (missed_more (λ p. get_or (get_or m p []) 0 0) at.row-index at.all at.invariant)

pub returns : goal.returns
returns c = λ j q h e.
    let m = c.args.m.now in
    left_dark _ m j q (λ low. lit_low (get_or m q []) j h ∙ c.loop-row.invariant q (omega (arith, length-take {A = List ℕ})) j e)
