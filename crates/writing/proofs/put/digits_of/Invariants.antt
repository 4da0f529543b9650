-- `digits_of`: it stores the number's digits from the right.
-- The invariant: of the number's digits those of `rest` are still to be stored.
use Rattle.writing.proofs.Digits.{Storing}
use Rattle.writing.proofs.put.digits_of.Given as goal

abbrev pub invariant-loop-start : goal.invariant-loop-start
invariant-loop-start l = Storing l.n l.bytes l.start l.rest
