-- `write_closure`: each answer is its first line and what its seven others say.
use Rattle.paper.specs.Bytes.{bytes}
use Rattle.paper.specs.Answer.{line_with, eight, closure_answer}
use Rattle.verdicts.specs.Refused.{asked}
use Rattle.verdicts.specs.Said.{said_closure}
use Rattle.answer.specs.Shown.{shown, seven_with}
use Rattle.answer.proofs.questions.write_closure.Goals as goal

pub returns-in-Ok-Critical : goal.returns-in-Ok-Critical
unfolding closure_answer eight seven_with line_with bytes asked said_closure
returns-in-Ok-Critical c =
    let is = rw c.in-Ok-Critical.is at c.in-Ok-Critical.field-0-is in
    rw (c.in-Ok-Critical.is, is) (rw c.found.ensures.says at c.put_eight.ensures)

pub returns-in-Ok-Closed : goal.returns-in-Ok-Closed
unfolding closure_answer eight seven_with line_with bytes asked said_closure shown
returns-in-Ok-Closed c =
    let is = rw c.in-Ok-Closed.is at c.in-Ok-Closed.field-0-is in
    rw (c.in-Ok-Closed.is, is) (rw c.only_examined.ensures.says at c.put_eight-in-Ok-Closed.ensures)

pub returns-in-Ok-Stopped : goal.returns-in-Ok-Stopped
unfolding closure_answer eight seven_with line_with bytes asked said_closure shown
returns-in-Ok-Stopped c =
    let is = rw c.in-Ok-Stopped.is at c.in-Ok-Stopped.field-0-is in
    rw (c.in-Ok-Stopped.is, is) (rw c.only_examined-in-Ok-Stopped.ensures.says at c.put_eight-in-Ok-Stopped.ensures)

pub returns-in-Err : goal.returns-in-Err
unfolding closure_answer eight seven_with line_with bytes asked
returns-in-Err c = rw c.in-Err.is (rw c.refused.ensures.says at c.put_eight-in-Err.ensures)
