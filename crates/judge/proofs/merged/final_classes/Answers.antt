-- `judge::merged::final_classes` meets its contract. The invariant: the classes of the final states before q.
use native.Mathlib.Omega.{arith}
use mathlib.Core.Path.{◌≡◌, sym, ap, ◌∙◌}
use Rattle.sets.specs.Sets.{mem}
use Rattle.judge.proofs.Merge.{final_start, final_on, final_off}
use Rattle.judge.proofs.merged.final_classes.Goals as goal
use Rattle.judge.proofs.merged.final_classes.Goals.{then-has, else-has}

pub loop-q-init : goal.loop-q-init
loop-q-init c = final_start _ _

pub loop-q-preserved : goal.loop-q-preserved
loop-q-preserved c = elim c.if-has.branch [
  | then-has w ↦ final_on _ _ _ _ _ c.loop-q.invariant (sym c.has.ensures ∙ w.if-has.true) (ap mem w.classes-is ∙ w.with-classes.ensures.0)
  | else-has w ↦ ap mem w.classes-is ∙ final_off _ _ _ _ c.loop-q.invariant (sym c.has.ensures ∙ w.if-has.false)
]

pub returns : goal.returns
returns c =
    let all : c.args.states ≡ c.loop-q.q = omega arith in
    rw all c.loop-q.invariant
