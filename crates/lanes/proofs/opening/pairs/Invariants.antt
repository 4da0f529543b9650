-- `lanes::opening::pairs` meets its contract: the pairs of classes whose number is below `start` have no critical pair.
use Prim.Native.Nat.{◌+◌}
use lib.ListN.{length}
use Rattle.lanes.specs.Batches.{Fixed}
use Rattle.lanes.proofs.Judging.{Passed}
use Rattle.lanes.proofs.opening.pairs.Given as goal

abbrev pub invariant-loop-start : goal.invariant-loop-start
invariant-loop-start l = Fixed l.delta.states l.m l.xs × Passed l.delta.arities.now l.delta.words.now l.delta.heads.now l.tokens l.delta.states l.xs (length l.xs + 2) l.start
