-- `judge::merged::final_classes` meets its contract. The invariant: the classes of the final states before q.
use mathlib.Core.Path.{◌≡◌}
use Rattle.sets.specs.Sets.{mem}
use Rattle.judge.specs.Merged.{final_class}
use Rattle.judge.proofs.merged.final_classes.Given as goal

abbrev pub invariant-loop-q : goal.invariant-loop-q
invariant-loop-q l = mem l.classes ≡ final_class l.finals l.merge l.q
