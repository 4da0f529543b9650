-- `values::gain` meets its contract: the lanes where all arguments of the word are in their sheets, for none to three arguments.
use mathlib.Core.Path.{sym, ap, ◌∙◌}
use mathlib.Core.Bool.{or-true, ◌||◌}
use native.Mathlib.Omega.{arith}
use Rattle.values.specs.Lanes.{lit}
use Rattle.values.proofs.Rows.{all_lit_lem, no_lit, one_lit, two_lit, three_lit}
use Rattle.values.proofs.gain.Goals as goal

pub returns-then-n-eq0 : goal.returns-then-n-eq0
returns-then-n-eq0 c =
    let a = c.args in
    λ l h.
    all_lit_lem l h
    ∙ sym (ap (◌||◌ (lit a.s l)) (sym (no_lit a.m.now a.w a.kids (omega arith) l a.n c.if-n-eq0.true)) ∙ or-true (lit a.s l))

pub returns-then-n-eq1 : goal.returns-then-n-eq1
returns-then-n-eq1 c =
    let a = c.args in
    λ l h. rw (← one_lit a.m.now a.w a.kids (omega arith) l a.n _ c.if-n-eq1.true c.part_of.ensures.0) (c.join.ensures l h)

pub returns-then-n-eq2 : goal.returns-then-n-eq2
returns-then-n-eq2 c =
    let a = c.args in
    λ l h. rw (← two_lit a.m.now a.w a.kids (omega arith) l a.n _ _ c.if-n-eq2.true c.part_of.ensures.0 c.part_of-2.ensures.0) (c.join-then-n-eq2.ensures l h)

pub returns : goal.returns
returns c =
    let a = c.args in
    λ l h. rw (← three_lit a.m.now a.w a.kids (omega arith) l a.n _ _ _ (omega arith) c.part_of.ensures.0 c.part_of-2.ensures.0 c.part_of-3.ensures.0) (c.join-2.ensures l h)
