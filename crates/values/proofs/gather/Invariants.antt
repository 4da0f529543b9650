-- `values::gather` meets its contract. The invariant: the rows before q are done, and the words from place i on are those with targets from q on.
use Rattle.values.proofs.Gathering.{RowsDone}
use Rattle.values.proofs.gather.Given as goal

abbrev pub invariant-loop-q : goal.invariant-loop-q
invariant-loop-q l = RowsDone l.delta.words.now l.delta.heads.now l.f l.n l.delta.states l.initial.m l.kids l.out l.end l.m l.i l.q
