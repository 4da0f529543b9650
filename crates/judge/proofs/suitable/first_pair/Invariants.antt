-- `judge::suitable::first_pair` meets its contract. The invariant: the classes that are left give what all of them give.
use Prim.Native.Nat.{◌-◌}
use mathlib.Core.Path.{◌≡◌}
use Rattle.judge.specs.Pairs.{shared_of}
use Rattle.judge.proofs.suitable.first_pair.Given as goal

abbrev pub invariant-loop-q : goal.invariant-loop-q
invariant-loop-q l = shared_of l.pairs l.finals l.bad l.q (l.k - l.q) l.m ≡ shared_of l.pairs l.finals l.bad 0 l.k l.m
