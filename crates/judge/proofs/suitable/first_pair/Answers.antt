-- `judge::suitable::first_pair` meets its contract. The invariant: the classes that are left give what all of them give.
use native.Mathlib.Omega.{arith}
use mathlib.Core.Path.{sym, ap, ◌∙◌}
use Rattle.paper.proofs.Smallest.{smallest_some}
use Rattle.verdicts.specs.Said.{said_sharing}
use Rattle.judge.specs.Pairs.{said_first, shared_of}
use Rattle.judge.proofs.Seek.{partner_on, partner_off, shared_here, shared_on, shared_end}
use Rattle.judge.proofs.suitable.first_pair.Goals as goal
use Rattle.judge.proofs.suitable.first_pair.Goals.{then-has+in_default, else-has}

pub loop-q-init : goal.loop-q-init
loop-q-init c = ap (λ n. shared_of c.args.pairs.now c.args.finals c.args.bad 0 n c.args.m) (omega arith)

pub overflow_cast-result-in-Some : goal.overflow_cast-result-in-Some
unfolding said_first
overflow_cast-result-in-Some c = omega (arith, (smallest_some _ 0 _ (sym c.in-Some.ensures)).high, c.requires.1)

pub returns-in-Some : goal.returns-in-Some
unfolding said_first said_sharing
returns-in-Some c =
    sym (shared_here _ _ _ _ _ _ (omega arith) _ (partner_on _ _ _ _ _ 0 (sym c.has.ensures ∙ c.if-has.true) _ c.in-Some.ensures)) ∙ c.loop-q.invariant

pub loop-q-preserved : goal.loop-q-preserved
unfolding said_first
loop-q-preserved c =
    sym (shared_on _ _ _ _ _ _ (omega arith) (elim c.if-has.branch [
      | then-has+in_default w ↦ partner_on _ _ _ _ _ 0 (sym c.has.ensures ∙ w.if-has.true) _ w.in_default.ensures
      | else-has w ↦ partner_off _ _ _ _ _ 0 (sym c.has.ensures ∙ w.if-has.false)
    ])) ∙ c.loop-q.invariant

pub returns : goal.returns
unfolding said_sharing
returns c = sym (shared_end _ _ _ _ _ _ c.loop-q-test.false) ∙ c.loop-q.invariant
