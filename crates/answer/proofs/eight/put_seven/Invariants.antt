-- `put_seven`: it puts the lines one after the other.
-- The invariant: the lines from the turn's on are still to be put.
use lib.ListN.{drop}
use Rattle.writing.proofs.Laws.{Putting}
use Rattle.answer.proofs.Rows.{rows}
use Rattle.answer.proofs.eight.put_seven.Given as goal

abbrev pub invariant-loop-key : goal.invariant-loop-key
invariant-loop-key l = Putting l.fn.out l.fn.at (rows l.key-items) l.end l.out (rows (drop l.key-index l.key-items))
