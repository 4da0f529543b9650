-- `lanes::variables::fix_all` meets its contract: each turn gives one variable more its class.
use native.Mathlib.Omega.{arith}
use Rattle.lanes.proofs.VariableRows.{upto_more}
use Rattle.lanes.proofs.variables.fix_all.Goals as goal

pub loop-x-preserved : goal.loop-x-preserved
loop-x-preserved c = upto_more _ _ _ _ _ _ _ (omega arith) c.loop-x.invariant c.fix.ensures.0 c.fix.ensures.1
