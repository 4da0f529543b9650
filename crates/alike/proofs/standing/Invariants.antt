-- `alike::standing` meets its contract. The invariant: the classes of the words so far are sorted.
use Rattle.alike.specs.Words.{Standing}
use Rattle.alike.proofs.standing.Given as goal

abbrev pub invariant-loop-w : goal.invariant-loop-w
invariant-loop-w l = Standing l.words l.w-index l.p l.rest l.set
