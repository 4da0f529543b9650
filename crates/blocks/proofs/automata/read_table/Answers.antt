-- An automaton's lines, one after another.
use Rattle.blocks.specs.Draft.{automaton}
use Rattle.blocks.proofs.Chain.{answer_stopped, answer_read, exits, first_stopped, next_stopped, next_went}
use Rattle.blocks.proofs.Blocks.{times_length, table_went}
use Rattle.blocks.proofs.automata.read_table.Goals as goal

pub returns-in_err-states : goal.returns-in_err-states
unfolding automaton
returns-in_err-states c = exits _ _ _ c.from_residual.ensures.1 (first_stopped _ _ (answer_stopped c.in_err-states.ensures))

pub returns-in_err-finals : goal.returns-in_err-finals
unfolding automaton
returns-in_err-finals c =
    exits _ _ _ c.from_residual-in_err-finals.ensures.1 (
    next_stopped _ _ (answer_read c.in_ok-states.ensures) (
    first_stopped _ _ (answer_stopped c.in_err-finals.ensures)))

pub returns-in_err-n : goal.returns-in_err-n
unfolding automaton
returns-in_err-n c =
    exits _ _ _ c.from_residual-in_err-n.ensures.1 (
    next_stopped _ _ (answer_read c.in_ok-states.ensures) (
    next_stopped _ _ (answer_read c.in_ok-finals.ensures) (
    first_stopped _ _ (answer_stopped c.in_err-n.ensures))))

pub returns-in_err-rows : goal.returns-in_err-rows
unfolding automaton
returns-in_err-rows c =
    exits _ _ _ c.from_residual-in_err-rows.ensures.1 (
    next_stopped _ _ (answer_read c.in_ok-states.ensures) (
    next_stopped _ _ (answer_read c.in_ok-finals.ensures) (
    next_stopped _ _ (answer_read c.in_ok-n.ensures) (
    first_stopped _ _ c.in_err-rows.ensures))))

pub returns : goal.returns
unfolding automaton
returns c =
    next_went _ _ (answer_read c.in_ok-states.ensures) (
    next_went _ _ (answer_read c.in_ok-finals.ensures) (
    next_went _ _ (answer_read c.in_ok-n.ensures) (
    next_went _ _ c.in_ok-rows.ensures.is (
    table_went _ _ _ _ c.mask_of.ensures c.in_ok-rows.ensures (times_length _ _ _ _ c.in_ok-rows.ensures.is)))))
