-- `values::join` meets its contract. The invariant: the words before y are joined.
use Rattle.values.proofs.Rows.{Each, word}
use Rattle.values.proofs.join.Given as goal

abbrev pub invariant-loop-y : goal.invariant-loop-y
invariant-loop-y l = Each (word l.s l.a l.b l.c) l.r l.y
