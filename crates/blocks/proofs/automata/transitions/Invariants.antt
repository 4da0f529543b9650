-- The transitions, one line each, fill the rows from the front.
use Rattle.paper.specs.Tables.{transition}
use Rattle.paper.specs.Format.{line_of}
use Rattle.fields.specs.Line.{line_row}
use Rattle.blocks.specs.Packed.{packed_rows}
use Rattle.blocks.proofs.Blocks.{Filling}
use Rattle.blocks.proofs.automata.transitions.Given as goal

abbrev pub invariant-loop-i : goal.invariant-loop-i
invariant-loop-i l = Filling (line_of (line_row l.kind).key (transition l.signature.arities.now l.states)) packed_rows l.file l.n l.initial.c l.i l.c l.rows
