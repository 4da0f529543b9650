-- A right side's line: one term, and no variable that the left side lacks.
use Rattle.std.proofs.Common.{sym, ◌∙◌}
use Rattle.std.proofs.lemmas.Result.{err_from_is_err_and}
use Rattle.sides.proofs.SidesTold.{right_refused, right_strange, right_good}
use Rattle.sides.proofs.right_line.Goals as goal

pub returns-in_err-it : goal.returns-in_err-it
returns-in_err-it c =
    let p = err_from_is_err_and c.from_residual.result c.from_residual.ensures.1 in
    rw (p.1, p.2) (right_refused _ _ c.requires.few _ _ c.in_err-it.ensures)

pub returns-then-not-all_known : goal.returns-then-not-all_known
returns-then-not-all_known c =
    rw c.refuse.ensures
    (right_strange _ _ c.requires.few _ _ c.in_ok-it.ensures (sym (rw c.tokens_of.ensures at c.all_known.ensures) ∙ c.if-not-all_known.true))

pub returns : goal.returns
returns c = right_good _ _ c.requires.few _ _ c.in_ok-it.ensures (sym (rw c.tokens_of.ensures at c.all_known.ensures) ∙ c.if-not-all_known.false)
