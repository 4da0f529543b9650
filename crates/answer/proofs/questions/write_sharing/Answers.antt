-- `write_sharing`: each answer is its first line and what its seven others say.
use Rattle.paper.specs.Bytes.{bytes}
use Rattle.paper.specs.Answer.{line_with, eight, sharing_answer}
use Rattle.verdicts.specs.Refused.{asked}
use Rattle.verdicts.specs.Said.{said_sharing}
use Rattle.answer.specs.Shown.{shown, seven_with}
use Rattle.answer.proofs.questions.write_sharing.Goals as goal

pub returns-in-Ok-Some : goal.returns-in-Ok-Some
unfolding sharing_answer eight seven_with line_with bytes asked said_sharing shown
returns-in-Ok-Some c =
    let is = rw c.in-Ok-Some.is at c.in-Ok-Some.field-0-is in
    rw (c.in-Ok-Some.is, is) (rw c.final_pair.ensures.says at c.put_eight.ensures)

pub returns-in-Ok-None : goal.returns-in-Ok-None
unfolding sharing_answer eight seven_with line_with bytes asked said_sharing shown
returns-in-Ok-None c =
    let is = rw c.in-Ok-None.is at c.in-Ok-None.field-0-is in
    rw (c.in-Ok-None.is, is) (rw c.only_examined.ensures.says at c.put_eight-in-Ok-None.ensures)

pub returns-in-Err : goal.returns-in-Err
unfolding sharing_answer eight seven_with line_with bytes asked
returns-in-Err c = rw c.in-Err.is (rw c.refused.ensures.says at c.put_eight-in-Err.ensures)
