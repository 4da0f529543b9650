-- `TwoTables::sweep` meets its contract. The invariant: the pairs are as after the visits so far.
use Rattle.sharing.specs.Share.{Grown, Still, SweptTo}
use Rattle.sharing.proofs.two_tables.TwoTables.sweep.Given as goal

abbrev pub invariant-loop-m : goal.invariant-loop-m
invariant-loop-m l =
    let t = l.self in
    Grown t.merged.now t.bad.now t.arities.now l.initial.pairs l.pairs l.got
    (Still t.merged.now t.arities.now l.got l.j → SweptTo t.merged.now t.bad.now t.arities.now l.pairs l.j l.m)
