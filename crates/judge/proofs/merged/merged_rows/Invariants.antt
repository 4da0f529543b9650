-- `judge::merged::merged_rows` meets its contract. The invariant: the bytes before `at` are merged, the rest is 0.
use Rattle.judge.specs.Merged.{Merged}
use Rattle.judge.proofs.merged.merged_rows.Given as goal

abbrev pub invariant-loop-at : goal.invariant-loop-at
invariant-loop-at l = Merged l.rows l.merge l.at l.bytes
