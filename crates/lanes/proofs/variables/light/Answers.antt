-- `lanes::variables::light` meets its contract: one bit of one word is set.
use Prim.Native.Nat.{◌%◌}
use native.Mathlib.Omega.{arith}
use Rattle.sets.proofs.Laws.{one_shl}
use Rattle.lanes.proofs.VariableRows.{lighted}
use Rattle.lanes.proofs.variables.light.Goals as goal

pub returns : goal.returns
returns c =
    let a = c.args in
    let (inside, wide, low) = c.requires in
    rw (one_shl (a.l % 64) (omega arith)) (lighted a.m.now a.i a.l inside wide low)
