-- `sets::has` meets its contract, by computation: digit q of the mask is 1.
use Rattle.std.proofs.Common.{rules}
use Rattle.sets.specs.Sets.{mem}
use Rattle.sets.proofs.has.Goals as goal

pub returns : goal.returns
unfolding mem
returns c = search rules
