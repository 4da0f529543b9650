-- All lines before `merge`, one part after another, and the tables that they fill.
use Rattle.blocks.specs.Draft.{draft}
use Rattle.blocks.proofs.Chain.{answer_stopped, answer_read, answer_whole, exits, first_stopped, next_stopped, next_went}
use Rattle.certificate.proofs.TableLaws.{tables_went}
use Rattle.certificate.proofs.opening.read_tables.Goals as goal

pub returns-in_err-budget : goal.returns-in_err-budget
unfolding draft
returns-in_err-budget c = exits _ _ _ c.from_residual.ensures.1 (first_stopped _ _ (answer_stopped c.in_err-budget.ensures))

pub returns-in_err-listed : goal.returns-in_err-listed
unfolding draft
returns-in_err-listed c =
    exits _ _ _ c.from_residual-in_err-listed.ensures.1 (
    next_stopped _ _ (answer_read c.in_ok-budget.ensures) (
    first_stopped _ _ (answer_stopped c.in_err-listed.ensures)))

pub returns-in_err-initial : goal.returns-in_err-initial
unfolding draft
returns-in_err-initial c =
    exits _ _ _ c.from_residual-in_err-initial.ensures.1 (
    next_stopped _ _ (answer_read c.in_ok-budget.ensures) (
    next_stopped _ _ (answer_read c.in_ok-listed.ensures) (
    first_stopped _ _ c.in_err-initial.ensures)))

pub returns-in_err-bad : goal.returns-in_err-bad
unfolding draft
returns-in_err-bad c =
    exits _ _ _ c.from_residual-in_err-bad.ensures.1 (
    next_stopped _ _ (answer_read c.in_ok-budget.ensures) (
    next_stopped _ _ (answer_read c.in_ok-listed.ensures) (
    next_stopped _ _ c.in_ok-initial.ensures.is (
    first_stopped _ _ c.in_err-bad.ensures))))

pub returns-in_err-n : goal.returns-in_err-n
unfolding draft
returns-in_err-n c =
    exits _ _ _ c.from_residual-in_err-n.ensures.1 (
    next_stopped _ _ (answer_read c.in_ok-budget.ensures) (
    next_stopped _ _ (answer_read c.in_ok-listed.ensures) (
    next_stopped _ _ c.in_ok-initial.ensures.is (
    next_stopped _ _ c.in_ok-bad.ensures.is (
    first_stopped _ _ (answer_stopped c.in_err-n.ensures))))))

pub returns-in_err-rules : goal.returns-in_err-rules
unfolding draft
returns-in_err-rules c =
    exits _ _ _ c.from_residual-in_err-rules.ensures.1 (
    next_stopped _ _ (answer_read c.in_ok-budget.ensures) (
    next_stopped _ _ (answer_read c.in_ok-listed.ensures) (
    next_stopped _ _ c.in_ok-initial.ensures.is (
    next_stopped _ _ c.in_ok-bad.ensures.is (
    next_stopped _ _ (answer_read c.in_ok-n.ensures) (
    first_stopped _ _ c.in_err-rules.ensures))))))

pub returns : goal.returns
unfolding draft
returns c =
    next_went _ _ (answer_read c.in_ok-budget.ensures) (
    next_went _ _ (answer_read c.in_ok-listed.ensures) (
    next_went _ _ c.in_ok-initial.ensures.is (
    next_went _ _ c.in_ok-bad.ensures.is (
    next_went _ _ (answer_read c.in_ok-n.ensures) (
    tables_went _ _ _ _ _ (answer_whole c.in_ok-listed.ensures) c.in_ok-initial.ensures.packs c.in_ok-bad.ensures.packs c.in_ok-rules.ensures)))))
