-- `sets::only` meets its contract, by the law of a power.
use Rattle.sets.proofs.Laws.{one_shl, mem_only}
use Rattle.sets.proofs.only.Goals as goal

pub returns : goal.returns
returns c = rw (one_shl c.args.q c.requires) (mem_only c.args.q)
