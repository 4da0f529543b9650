-- `values::run` meets its contract. The invariant: the words before i have the target q, and their lanes are joined.
use Rattle.values.specs.Rows.{Joined}
use Rattle.values.proofs.run.Given as goal

abbrev pub invariant-loop-i : goal.invariant-loop-i
invariant-loop-i l = Joined l.words l.n l.q l.from l.m l.kids l.lanes l.i
