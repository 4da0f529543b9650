-- `put_seven`: it puts the lines one after the other.
use mathlib.Core.List.{append-nil}
use Rattle.paper.specs.Bytes.{bytes}
use Rattle.paper.specs.Answer.{line_with}
use Rattle.writing.proofs.Laws.{begun, ended, room, go_on}
use Rattle.answer.specs.Shown.{seven, seven_with}
use Rattle.answer.proofs.Rows.{rows, a_row, no_row}
use Rattle.answer.proofs.eight.put_seven.Goals as goal

pub loop-key-init : goal.loop-key-init
unfolding seven seven_with line_with bytes rows
loop-key-init c = begun (simp append-nil c.requires)

pub put_line-end-requires : goal.put_line-end-requires
put_line-end-requires c = room c.loop-key.invariant _ (a_row _ _ _ _ c.loop-key-test.true)

pub loop-key-preserved : goal.loop-key-preserved
loop-key-preserved c = go_on c.loop-key.invariant _ (a_row _ _ _ _ c.loop-key-test.true) c.put_line-end.ensures

pub returns : goal.returns
unfolding seven seven_with line_with bytes rows
returns c = simp append-nil at (ended c.loop-key.invariant (no_row _ _ c.loop-key-test.false))
