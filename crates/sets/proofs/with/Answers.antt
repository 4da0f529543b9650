-- `sets::with` meets its contract, by the law of a union with a power.
use Rattle.sets.proofs.Laws.{one_shl, mem_with, or_le}
use Rattle.sets.proofs.with.Goals as goal

pub returns : goal.returns
returns c = rw (one_shl c.args.q c.requires) (mem_with c.args.set c.args.q, or_le c.args.set _)
