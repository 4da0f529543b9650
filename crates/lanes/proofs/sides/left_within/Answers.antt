-- `lanes::sides::left_within` meets its contract: in no row has the left side a lane that the other sheet has not.
use mathlib.Core.Path.{◌≡◌}
use mathlib.Core.Bool.{false, not, ◌&&◌}
use Prim.Native.Nat.{ℕ, ◌+◌, ◌-◌, ◌<◌}
use lib.ListN.{take, drop}
use borrow.Author.Rules.{rules}
use borrow.Author.Tests.{tests}
use Rattle.std.proofs.lemmas.Iterator.{cases_from_all, YieldsList-from_slice, YieldsList-from_zip}
use Rattle.values.specs.Lanes.{lit}
use Rattle.lanes.proofs.SideRows.{less_dark}
use Rattle.lanes.proofs.sides.left_within.Goals as goal

pub returns : goal.returns
returns c = λ e.
    let a = c.args in
    let m = a.m.now in
    let all = cases_from_all c.all.new.self _ c.all.result (λ p. (l : ℕ) → l < 512 → (lit p.0 l && not (lit p.1 l)) ≡ false) (λ p. Unit {0}) c.all.ensures.ran
    (YieldsList-from_zip (YieldsList-from_slice (take a.k m) cc) (YieldsList-from_slice (take (a.b + a.k - a.b) (drop a.b m)) cc)) (λ x q k. search (rules, tests)) (λ x q k. tt) in
    less_dark a.k a.b m c.requires.0 c.requires.1 (rw e at all)
