-- The two lines of a rule.
use Rattle.std.proofs.Common.{refl}
use Rattle.paper.specs.Format.{rule}
use Rattle.blocks.proofs.Chain.{answer_stopped, answer_read, answer_whole, answer_placed, exits, first_stopped, next_stopped, next_went}
use Rattle.blocks.proofs.RuleLaws.{right_answer, rule_went}
use Rattle.blocks.proofs.rules.rule.Goals as goal

pub returns-in_err-left : goal.returns-in_err-left
unfolding rule
returns-in_err-left c = exits _ _ _ c.from_residual.ensures.1 (first_stopped _ _ (answer_stopped c.in_err-left.ensures))

pub returns-in_err-right : goal.returns-in_err-right
unfolding rule
returns-in_err-right c =
    let l = c.in_ok-left.ensures in
    exits _ _ _ c.from_residual-in_err-right.ensures.1 (
    next_stopped _ _ (answer_read l) (
    first_stopped _ _ (answer_stopped (right_answer _ _ _ _ _ (answer_whole l).counted c.in_err-right.ensures))))

pub returns : goal.returns
unfolding rule
returns c =
    let l = c.in_ok-left.ensures in
    let r = right_answer _ _ _ _ _ (answer_whole l).counted c.in_ok-right.ensures in
    next_went _ _ (answer_read l) (
    next_went _ _ (answer_read r) (
    rule_went (answer_whole l) (answer_whole r) (answer_placed r) _ _ _ c.put_side.ensures c.put_side-2.ensures refl refl))
