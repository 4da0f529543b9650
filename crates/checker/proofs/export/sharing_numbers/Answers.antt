-- `checker::export::sharing_numbers` meets its contract: the four numbers of an answer to the first question.
use mathlib.Core.Path.{refl}
use Rattle.verdicts.specs.Refused.{asked}
use Rattle.verdicts.specs.Said.{said_sharing}
use Rattle.checker.specs.Numbers.{sharing_kind, sharing_numbers}
use Rattle.checker.proofs.export.sharing_numbers.Goals as goal

pub returns-in-Ok-None : goal.returns-in-Ok-None
unfolding asked said_sharing sharing_kind sharing_numbers
returns-in-Ok-None c =
    let is = rw c.in-Ok-None.is at c.in-Ok-None.field-0-is in
    rw (c.in-Ok-None.is, is) (refl, refl)

pub returns-in-Ok-Some : goal.returns-in-Ok-Some
unfolding asked said_sharing sharing_kind sharing_numbers
returns-in-Ok-Some c =
    let is = rw c.in-Ok-Some.is at c.in-Ok-Some.field-0-is in
    rw (c.in-Ok-Some.is, is) (refl, refl)

pub returns-in-Err : goal.returns-in-Err
unfolding asked sharing_kind sharing_numbers
returns-in-Err c = rw (c.in-Err.is, ← c.number.ensures, ← c.line.ensures) (refl, refl)
