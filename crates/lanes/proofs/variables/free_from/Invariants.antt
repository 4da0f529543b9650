-- `lanes::variables::free_from` meets its contract: the variables before y are free, and only their sheets are changed.
use Rattle.sets.specs.Sets.{under}
use Rattle.lanes.proofs.VariableRows.{Upto}
use Rattle.lanes.proofs.variables.free_from.Given as goal

abbrev pub invariant-loop-y : goal.invariant-loop-y
invariant-loop-y l = Upto l.k l.x (λ z. under l.k) l.initial.m l.m l.y
