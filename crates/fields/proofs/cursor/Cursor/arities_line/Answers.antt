-- `arities_line`: a list up to the row's limits, of no more entries than it allows.
use Rattle.paper.specs.Certificate.{row}
use Rattle.fields.specs.Line.{code_row}
use Rattle.fields.proofs.SaidLaws.{arities_told}
use Rattle.fields.proofs.cursor.Cursor.arities_line.Goals as goal

pub returns : goal.returns
unfolding row code_row
returns c = rw (c.few_line.ensures, c.row-most.ensures) (arities_told _ _ c.requires)
