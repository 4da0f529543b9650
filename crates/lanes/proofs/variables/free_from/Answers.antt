-- `lanes::variables::free_from` meets its contract: each turn frees one variable more.
use Rattle.lanes.proofs.VariableRows.{upto_more}
use Rattle.lanes.proofs.variables.free_from.Goals as goal

pub loop-y-preserved : goal.loop-y-preserved
loop-y-preserved c = upto_more _ _ _ _ _ _ _ c.loop-y.auto.y c.loop-y.invariant c.free.ensures.0 c.free.ensures.1
