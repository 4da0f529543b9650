-- `lanes::opening::tried` meets its contract: of the classes below x, those in `live` that are not found have no lane with a critical pair.
use lib.ListN.{get_or}
use Rattle.woven.specs.Woven.{woven_moves}
use Rattle.lanes.proofs.Trying.{Trying}
use Rattle.lanes.proofs.opening.tried.Given as goal

abbrev pub invariant-loop-x : goal.invariant-loop-x
invariant-loop-x l =
    Trying (woven_moves l.delta.arities.now l.delta.words.now (get_or l.delta.heads.now 64 0)) l.delta.arities.now l.tokens l.delta.states l.own l.live l.found l.initial.m l.near l.m l.ends l.mask l.x
