-- A pass from the right counts the terms that the tokens behind it write.
use Rattle.std.proofs.Common.{◌≡◌, ◌≤◌, ◌-◌, length, drop, Some}
use Rattle.sides.specs.Tokens.{open_terms}
use Rattle.sides.proofs.terms.Given as goal

abbrev pub invariant-loop-c : goal.invariant-loop-c
invariant-loop-c l =
    (l.n ≤ length l.yielded)
    × (open_terms l.arities (drop (length l.tokens - length l.yielded) l.tokens) ≡ Some l.n)
    × (goal.iterator-loop-c).can_next l.c-iterator × (goal.iterator-loop-c).is_finite l.c-iterator
