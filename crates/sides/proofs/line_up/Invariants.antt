-- A pass from the left counts the variables as long as they come in order.
use Rattle.std.proofs.Common.{◌≡◌, ◌≤◌, drop}
use Rattle.sides.specs.Tokens.{lined}
use Rattle.sides.proofs.line_up.Given as goal

abbrev pub invariant-loop-c : goal.invariant-loop-c
invariant-loop-c l = (l.v ≤ l.c-index) × (lined l.v (drop l.c-index l.tokens) ≡ lined 0 l.tokens)
