-- `lanes::variables::pair_up` meets its contract: y and z are lane l's digits, the lanes before l have theirs, the later ones no class.
use Rattle.lanes.proofs.VariableRows.{Digits, Written}
use Rattle.lanes.proofs.variables.pair_up.Given as goal

abbrev pub invariant-loop-l : goal.invariant-loop-l
invariant-loop-l l = Digits l.k l.start l.y l.z l.l × Written l.k l.hi l.lo l.start l.initial.m l.m l.l l.l
