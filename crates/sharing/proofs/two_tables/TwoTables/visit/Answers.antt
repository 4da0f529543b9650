-- `TwoTables::visit` meets its contract: nothing is added where the rows do not join or the pair is there, and else `visit_add` says what is.
use mathlib.Core.Path.{sym, ◌∙◌}
use Rattle.theory.proofs.Bools.{not_both}
use Rattle.sharing.proofs.Sharing.{none_yet, visit_add}
use Rattle.sharing.proofs.two_tables.TwoTables.visit.Goals as goal

pub returns-then-has : goal.returns-then-has
returns-then-has c = none_yet _ _ _ c.args.self.shareable _ _ (λ x. sym c.has.ensures ∙ c.if-has.true)

pub returns-then-rows_join : goal.returns-then-rows_join
returns-then-rows_join c =
    visit_add _ _ _ c.args.self.shareable _ _ _ c.requires
    (sym c.rows_join.ensures ∙ c.if-rows_join.true) (sym c.has.ensures ∙ c.if-has.false)
    c.with.result c.only.result c.with.ensures.0
    c.with.ensures.1 c.with.type_inv c.only.ensures

pub returns : goal.returns
returns c = none_yet _ _ _ c.args.self.shareable _ _ (λ x. not_both _ x (sym c.rows_join.ensures ∙ c.if-rows_join.false))
