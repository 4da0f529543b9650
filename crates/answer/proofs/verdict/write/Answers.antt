-- `write`: each answer is its first line and what its seven others say.
use Rattle.paper.specs.Bytes.{bytes}
use Rattle.paper.specs.Answer.{line_with, eight, answer}
use Rattle.verdicts.specs.Said.{said, said_of_file}
use Rattle.answer.specs.Shown.{shown, seven_with}
use Rattle.answer.proofs.verdict.write.Goals as goal

pub returns-in-Ok-Unsuitable : goal.returns-in-Ok-Unsuitable
unfolding answer eight seven_with line_with bytes said_of_file said shown
returns-in-Ok-Unsuitable c =
    let is = rw c.in-Ok-Unsuitable.is at c.in-Ok-Unsuitable.field-0-is in
    rw (c.in-Ok-Unsuitable.is, is) (rw c.final_pair.ensures.says at c.put_eight.ensures)

pub returns-in-Ok-Critical : goal.returns-in-Ok-Critical
unfolding answer eight seven_with line_with bytes said_of_file said
returns-in-Ok-Critical c =
    let is = rw c.in-Ok-Critical.is at c.in-Ok-Critical.field-0-is in
    rw (c.in-Ok-Critical.is, is) (rw c.found.ensures.says at c.put_eight-in-Ok-Critical.ensures)

pub returns-in-Ok-Accepted : goal.returns-in-Ok-Accepted
unfolding answer eight seven_with line_with bytes said_of_file said shown
returns-in-Ok-Accepted c =
    let is = rw c.in-Ok-Accepted.is at c.in-Ok-Accepted.field-0-is in
    rw (c.in-Ok-Accepted.is, is) (rw c.only_examined.ensures.says at c.put_eight-in-Ok-Accepted.ensures)

pub returns-in-Ok-Stopped : goal.returns-in-Ok-Stopped
unfolding answer eight seven_with line_with bytes said_of_file said shown
returns-in-Ok-Stopped c =
    let is = rw c.in-Ok-Stopped.is at c.in-Ok-Stopped.field-0-is in
    rw (c.in-Ok-Stopped.is, is) (rw c.only_examined-in-Ok-Stopped.ensures.says at c.put_eight-in-Ok-Stopped.ensures)

pub returns-in-Err : goal.returns-in-Err
unfolding answer eight seven_with line_with bytes said_of_file
returns-in-Err c = rw c.in-Err.is (rw c.refused.ensures.says at c.put_eight-in-Err.ensures)
