-- `lanes::sides::without` meets its contract: each word before y is the difference of the two.
use mathlib.Core.Path.{◌≡◌}
use Prim.Native.Nat.{ℕ, ◌<◌}
use lib.ListN.{get_or}
use Rattle.sets.specs.Sets.{mem, less}
use Rattle.lanes.proofs.sides.without.Given as goal

abbrev pub invariant-loop-y : goal.invariant-loop-y
invariant-loop-y l = (x : ℕ) → x < l.y → mem (get_or l.word-items x 0) ≡ less (mem (get_or l.a x 0)) (mem (get_or l.b x 0))
