-- `is_numbered`: each number is passed or ends the loop, and none is left at the end.
use Rattle.std.proofs.Common.{sym, ◌∙◌, arith}
use Rattle.fields.proofs.MergeLaws.{class_above, class_new, class_seen, class_none}
use Rattle.fields.proofs.lines.is_numbered.Goals as goal
use Rattle.fields.proofs.lines.is_numbered.Goals.{then-c-classes, else-c-classes}

pub returns-then-classes-c : goal.returns-then-classes-c
returns-then-classes-c c = sym (class_above _ _ _ c.loop-c-test.true c.if-classes-c.true) ∙ c.loop-c.invariant.left

pub loop-c-preserved : goal.loop-c-preserved
loop-c-preserved c = elim c.if-c-classes.branch [
  | then-c-classes w ↦ record {
    few = omega arith;
    left = rw w.classes-is (sym (class_new _ _ _ c.loop-c-test.true w.if-c-classes.true) ∙ c.loop-c.invariant.left);
  }
  | else-c-classes w ↦ record {
    few = omega arith;
    left = rw w.classes-is (sym (class_seen _ _ _ c.loop-c-test.true c.if-classes-c.false w.if-c-classes.false) ∙ c.loop-c.invariant.left);
  }
]

pub returns : goal.returns
returns c = sym (class_none _ _ _ c.loop-c-test.false) ∙ c.loop-c.invariant.left
