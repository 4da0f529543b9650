-- `checker::export::closure_numbers` meets its contract: the nine numbers of an answer to the second question.
use mathlib.Core.Path.{refl}
use Rattle.verdicts.specs.Refused.{asked}
use Rattle.verdicts.specs.Said.{said_closure, EndedIn}
use Rattle.checker.specs.Numbers.{closure_kind, closure_numbers}
use Rattle.checker.proofs.Numbers.{critical_numbers}
use Rattle.checker.proofs.export.closure_numbers.Goals as goal

pub returns-in-Ok-Closed : goal.returns-in-Ok-Closed
unfolding asked said_closure closure_kind closure_numbers
returns-in-Ok-Closed c =
    let is = rw c.in-Ok-Closed.is at c.in-Ok-Closed.field-0-is in
    rw (c.in-Ok-Closed.is, is) (refl, refl)

pub returns-in-Ok-Critical : goal.returns-in-Ok-Critical
unfolding asked said_closure closure_kind EndedIn
returns-in-Ok-Critical c =
    let is = rw c.in-Ok-Critical.is at c.in-Ok-Critical.field-0-is in
    let ended = rw (c.in-Ok-Critical.is, is) at c.requires in
    rw (c.in-Ok-Critical.is, is) (refl, critical_numbers _ _ ended)

pub returns-in-Ok-Stopped : goal.returns-in-Ok-Stopped
unfolding asked said_closure closure_kind closure_numbers
returns-in-Ok-Stopped c =
    let is = rw c.in-Ok-Stopped.is at c.in-Ok-Stopped.field-0-is in
    rw (c.in-Ok-Stopped.is, is) (refl, refl)

pub returns-in-Err : goal.returns-in-Err
unfolding asked closure_kind closure_numbers
returns-in-Err c = rw (c.in-Err.is, ← c.number.ensures, ← c.line.ensures) (refl, refl)
