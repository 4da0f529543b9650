-- `lanes::sides::left_lanes` meets its contract: what is missing in `all` is missing in the first word of each row so far.
use mathlib.Core.List.{[]}
use lib.ListN.{get_or}
use Rattle.lanes.proofs.SideRows.{Missed}
use Rattle.lanes.proofs.sides.left_lanes.Given as goal

abbrev pub invariant-loop-row : goal.invariant-loop-row
invariant-loop-row l = Missed (λ p. get_or (get_or l.m p []) 0 0) l.row-index l.all
