-- `alike::leaders` meets its contract. The invariant: each class before d that is not in the mask has a smaller one in its own.
use mathlib.Core.Path.{ap, ◌∙◌}
use Prim.Native.Nat.{◌^◌, ◌<◌}
use native.Mathlib.Omega.{arith}
use lib.Bits.{bit_and, and_le_r}
use lib.ListN.{get_or}
use Rattle.sets.specs.Sets.{mem}
use Rattle.alike.proofs.Lowest.{lowest_in, lowest_out}
use Rattle.alike.proofs.leaders.Goals.{then-alike-below-eq0, else-alike-below-eq0}
use Rattle.alike.proofs.leaders.Goals as goal

pub loop-d-preserved : goal.loop-d-preserved
loop-d-preserved c =
    let same = c.args.same.now in
    let at = c.loop-d in
    let low = c.below in
    elim c.if-alike-below-eq0.branch [
      | then-alike-below-eq0 w ↦ lowest_in same at.d at.mask at.invariant c.if-alike-below-eq0.mask (ap mem w.mask-is ∙ w.with-mask.ensures.0)
      | else-alike-below-eq0 w ↦
          let fits : bit_and (get_or same at.d 0) low.result < 2 ^ 64 = omega (arith, low.type_inv, and_le_r (get_or same at.d 0) low.result) in
          rw w.mask-is (lowest_out same at.d at.mask at.invariant low.result low.ensures fits w.if-alike-below-eq0.false)
    ]
