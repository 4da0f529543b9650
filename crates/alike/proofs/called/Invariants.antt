-- `alike::called` meets its contract. The invariant: the set has the classes of the words so far with a wanted target.
use Rattle.alike.proofs.Words.{EachLive, HasClass}
use Rattle.alike.proofs.called.Given as goal

abbrev pub invariant-loop-w : goal.invariant-loop-w
invariant-loop-w l = EachLive l.w-items l.wanted l.w-index (HasClass l.w-items l.p l.set)
