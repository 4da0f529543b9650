-- A line of tokens, and one term of them.
use Rattle.std.proofs.Common.{sym, ◌∙◌}
use Rattle.std.proofs.lemmas.Result.{err_from_is_err_and}
use Rattle.sides.proofs.TokenLines.{tokens_read}
use Rattle.sides.proofs.SidesTold.{term_refused, few_items, not_one, one}
use Rattle.sides.proofs.term_line.Goals as goal

pub returns-in_err-it : goal.returns-in_err-it
returns-in_err-it c =
    let p = err_from_is_err_and c.from_residual.result c.from_residual.ensures.1 in
    rw (p.1, p.2) (term_refused _ _ c.requires.few _ _ (tokens_read _ _ _ _ c.requires.few c.requires.kind_bound c.requires.placed _ c.in_err-it.ensures))

pub tokens_of-requires : goal.tokens_of-requires
tokens_of-requires c =
    few_items _ _ c.requires.few _ _ (tokens_read _ _ _ _ c.requires.few c.requires.kind_bound c.requires.placed _ c.in_ok-it.ensures)

pub returns-then-not-is_one_term : goal.returns-then-not-is_one_term
returns-then-not-is_one_term c =
    rw c.refuse.ensures
    (not_one _ _ c.requires.few _ _ (tokens_read _ _ _ _ c.requires.few c.requires.kind_bound c.requires.placed _ c.in_ok-it.ensures)
    (sym (rw c.tokens_of.ensures at c.is_one_term.ensures) ∙ c.if-not-is_one_term.true))

pub returns : goal.returns
returns c =
    one _ _ c.requires.few _ _ (tokens_read _ _ _ _ c.requires.few c.requires.kind_bound c.requires.placed _ c.in_ok-it.ensures)
    (sym (rw c.tokens_of.ensures at c.is_one_term.ensures) ∙ c.if-not-is_one_term.false)
