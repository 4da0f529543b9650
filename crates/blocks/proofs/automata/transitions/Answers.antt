-- The transitions, one line each, fill the rows from the front.
use Rattle.std.proofs.Common.{refl, arith}
use Rattle.fields.specs.Padded.{padded}
use Rattle.blocks.specs.Packed.{packed_rows, flat}
use Rattle.blocks.proofs.Chain.{answer_stopped, answer_read, answer_whole, answer_placed, exits}
use Rattle.blocks.proofs.Blocks.{fill_start, fill_more, fill_stopped, fill_end, row_more}
use Rattle.blocks.proofs.automata.transitions.Goals as goal

pub loop-i-init : goal.loop-i-init
unfolding packed_rows flat padded
loop-i-init c = fill_start c.requires.placed refl

pub returns-in_err-t : goal.returns-in_err-t
returns-in_err-t c = exits _ _ _ c.from_residual.ensures.1 (fill_stopped c.loop-i.invariant c.loop-i-test.true (answer_stopped c.in_err-t.ensures))

pub loop-i-preserved : goal.loop-i-preserved
loop-i-preserved c =
    let l = c.in_ok-t.ensures in
    fill_more c.loop-i.invariant c.loop-i-test.true (answer_read l) (answer_placed l) (row_more _ _ (answer_whole l) _ c.loop-i.i _ _ c.copy_from_slice.ensures.after (omega arith) (omega arith))

pub returns : goal.returns
returns c = fill_end c.loop-i.invariant (omega arith)
