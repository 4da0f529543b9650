-- `lanes::sides::dark` meets its contract: what is missing in `all` is missing in each word so far.
use lib.ListN.{get_or}
use Rattle.lanes.proofs.SideRows.{Missed}
use Rattle.lanes.proofs.sides.dark.Given as goal

abbrev pub invariant-loop-word : goal.invariant-loop-word
invariant-loop-word l = Missed (λ p. get_or l.word-items p 0) l.word-index l.all
