-- `alike::narrow_all` meets its contract. The invariant: the masks before d are narrowed.
use Rattle.alike.specs.Words.{NarrowedTo}
use Rattle.alike.proofs.narrow_all.Given as goal

abbrev pub invariant-loop-d : goal.invariant-loop-d
invariant-loop-d l = NarrowedTo l.set l.initial.same l.d l.same
