-- `sets::below` meets its contract, by the law of the k low digits.
use Rattle.std.proofs.Common.{arith}
use lib.Pow.{pow_pos}
use Rattle.sets.proofs.Laws.{one_shl, mem_below}
use Rattle.sets.proofs.below.Goals as goal

pub overflow_sub-result : goal.overflow_sub-result
overflow_sub-result c = omega (arith, one_shl c.args.k c.requires, pow_pos c.args.k)

pub returns : goal.returns
returns c = rw (one_shl c.args.k c.requires) (mem_below c.args.k)
