-- `TwoTables::pass` meets its contract. The invariant: the rows so far wait for what was got, and the others for what is live.
use Prim.Native.Nat.{ℕ, ◌/◌, ◌≤◌, ◌<◌}
use lib.ListN.{length}
use Rattle.sharing.specs.Share.{Grown, Rests}
use Rattle.sharing.proofs.two_tables.TwoTables.pass.Given as goal

abbrev pub invariant-loop-j : goal.invariant-loop-j
invariant-loop-j l =
    let t = l.self in
    Grown t.merged.now t.bad.now t.arities.now l.initial.pairs l.pairs l.got
    (((i : ℕ) → i < l.j → Rests t.merged.now t.bad.now t.arities.now l.pairs l.got i)
    × ((i : ℕ) → i < length t.merged.now / 5 → l.j ≤ i → Rests t.merged.now t.bad.now t.arities.now l.pairs l.live i))
