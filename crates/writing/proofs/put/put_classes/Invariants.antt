-- `put_classes`: after the first class each stands behind its comma.
-- The invariant: the classes from the turn's on are still to be put.
use lib.ListN.{drop}
use Rattle.paper.specs.Answer.{decimals}
use Rattle.verdicts.specs.Said.{classes_of}
use Rattle.writing.proofs.Laws.{Putting, commaed, before_none}
use Rattle.writing.proofs.put.put_classes.Given as goal

abbrev pub invariant-loop-x : goal.invariant-loop-x
invariant-loop-x l = Putting l.fn.out l.fn.at (decimals (classes_of l.fn.pair)) l.end l.out (commaed (before_none (drop l.x-index l.x-items)))
