-- `sets::minus` meets its contract, by the law of a difference.
use Rattle.sets.proofs.Laws.{mem_minus}
use Rattle.sets.proofs.minus.Goals as goal

pub returns : goal.returns
returns c = mem_minus c.args.a c.args.b
