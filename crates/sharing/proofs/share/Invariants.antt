-- `sharing::share` meets its contract. The invariant: the pairs hold only pairs that share a tree, and a row that has more to add has a dirty argument.
use mathlib.Core.Path.{◌≡◌}
use Prim.Native.Nat.{◌+◌, ◌-◌, ◌*◌, ◌^◌}
use lib.ListN.{length}
use Rattle.sharing.specs.Share.{OnlyShared, Words, AllRest, sum}
use Rattle.sharing.proofs.Sharing.{flag}
use Rattle.sharing.proofs.share.Given as goal

abbrev pub invariant-loop-dirty : goal.invariant-loop-dirty
invariant-loop-dirty l = (length l.pairs ≡ 64) × Words l.pairs × OnlyShared l.merged l.bad l.ar l.pairs × AllRest l.merged l.bad l.ar l.pairs l.dirty

abbrev pub decreases-loop-dirty : goal.decreases-loop-dirty
decreases-loop-dirty l = 64 * 2 ^ 64 - sum l.pairs + flag l.dirty
