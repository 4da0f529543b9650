-- A left side's line: one term that is no variable, and its variables in order.
use Rattle.std.proofs.Common.{sym, ◌∙◌}
use Rattle.std.proofs.lemmas.Result.{err_from_is_err_and}
use Rattle.sides.proofs.SidesTold.{left_refused, left_bare, left_broken, left_good}
use Rattle.sides.proofs.left_line.Goals as goal

pub returns-in_err-it : goal.returns-in_err-it
returns-in_err-it c =
    let p = err_from_is_err_and c.from_residual.result c.from_residual.ensures.1 in
    rw (p.1, p.2) (left_refused _ _ c.requires.few _ c.in_err-it.ensures)

pub returns-then-it-ge-VARIABLE : goal.returns-then-it-ge-VARIABLE
returns-then-it-ge-VARIABLE c = rw c.refuse.ensures (left_bare _ _ c.requires.few _ c.in_ok-it.ensures c.if-it-ge-VARIABLE.true)

pub returns-in-None : goal.returns-in-None
returns-in-None c =
    rw c.refuse-in-None.ensures
    (left_broken _ _ c.requires.few _ c.in_ok-it.ensures c.if-it-ge-VARIABLE.false (sym (rw c.tokens_of.ensures at c.line_up.ensures) ∙ c.in-None.is))

pub returns-in-Some : goal.returns-in-Some
returns-in-Some c =
    left_good _ _ c.requires.few _ c.in_ok-it.ensures c.if-it-ge-VARIABLE.false _ (sym (rw c.tokens_of.ensures at c.line_up.ensures) ∙ c.in-Some.is)
