-- `alike::leaders` meets its contract. The invariant: each class before d that is not in the mask has a smaller one in its own.
use Rattle.alike.specs.Needed.{Lowest}
use Rattle.alike.proofs.leaders.Given as goal

abbrev pub invariant-loop-d : goal.invariant-loop-d
invariant-loop-d l = Lowest l.same l.d l.mask
