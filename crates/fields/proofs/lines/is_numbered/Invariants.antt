-- `is_numbered`: what is left is numbered after the classes so far, as all is after none.
use Rattle.std.proofs.Common.{◌≡◌, ◌≤◌, drop}
use Rattle.fields.specs.Merge.{numbered}
use Rattle.fields.proofs.lines.is_numbered.Given as goal

abbrev pub invariant-loop-c : goal.invariant-loop-c
invariant-loop-c l = record { few : l.classes ≤ l.c-index; left : numbered l.classes (drop l.c-index l.items) ≡ numbered 0 l.items }
