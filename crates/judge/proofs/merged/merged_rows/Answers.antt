-- `judge::merged::merged_rows` meets its contract. The invariant: the bytes before `at` are merged, the rest is 0.
use native.Mathlib.Omega.{arith}
use Prim.Native.Nat.{◌*◌}
use mathlib.Core.Path.{◌≡◌}
use Rattle.judge.proofs.Merge.{merged_start, merged_more}
use Rattle.judge.proofs.merged.merged_rows.Goals as goal

pub loop-at-init : goal.loop-at-init
loop-at-init c = merged_start _ _

pub loop-at-preserved : goal.loop-at-preserved
loop-at-preserved c =
    let byte = c.merged_byte.ensures in
    merged_more _ _ _ _ _ (omega (arith, c.requires.0)) c.loop-at.invariant byte.0 byte.1

pub returns : goal.returns
returns c =
    let all : c.args.count * 5 ≡ c.loop-at.at = omega arith in
    rw all c.loop-at.invariant
