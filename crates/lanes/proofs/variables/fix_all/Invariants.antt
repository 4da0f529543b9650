-- `lanes::variables::fix_all` meets its contract: the variables before x have their classes, and only their sheets are changed.
use lib.ListN.{get_or}
use Rattle.sets.specs.Sets.{none, plus}
use Rattle.lanes.proofs.VariableRows.{Upto}
use Rattle.lanes.proofs.variables.fix_all.Given as goal

abbrev pub invariant-loop-x : goal.invariant-loop-x
invariant-loop-x l = Upto l.k 0 (λ y. plus none (get_or l.xs y 0)) l.initial.m l.m l.x
