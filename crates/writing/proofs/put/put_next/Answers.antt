-- `put_next`: the comma is stored, and the number put after it.
use lib.ListN.{length-set}
use Rattle.writing.proofs.Laws.{◌then◌, stored}
use mathlib.Core.Path.{◌∙◌}
use native.Mathlib.Omega.{arith}
use Rattle.writing.proofs.put.put_next.Goals as goal

pub put_decimal-requires : goal.put_decimal-requires
put_decimal-requires c = record { fits = simp length-set (omega arith) }

pub shape_of-out : goal.shape_of-out
shape_of-out c = c.put_decimal.auto.out ∙ simp length-set

pub returns : goal.returns
returns c = stored c.args.out.now c.args.at 44 then c.put_decimal.ensures
