-- `alike::narrow_place` meets its contract. The invariant: the masks are narrowed by the words so far with a wanted target.
use Rattle.alike.proofs.Words.{NarrowedBy}
use Rattle.alike.proofs.narrow_place.Given as goal

abbrev pub invariant-loop-w : goal.invariant-loop-w
invariant-loop-w l = NarrowedBy l.run l.p l.wanted l.w-index l.initial.same l.same
