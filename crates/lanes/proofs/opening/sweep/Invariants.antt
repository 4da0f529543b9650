-- `lanes::opening::sweep` meets its contract: with the classes of `live` that are not found, the pairs of the last two variables' classes below `start` have no critical pair.
use Rattle.lanes.specs.Batches.{Fixed}
use Rattle.lanes.proofs.Judging.{PassedEach}
use Rattle.lanes.proofs.opening.sweep.Given as goal

abbrev pub invariant-loop-start : goal.invariant-loop-start
invariant-loop-start l = Fixed l.delta.states l.m l.xs × PassedEach l.delta.arities.now l.delta.words.now l.delta.heads.now l.tokens l.delta.states l.xs l.live l.found l.start
