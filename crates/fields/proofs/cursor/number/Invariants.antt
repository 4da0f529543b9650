-- `number`: n digits of value v, below 10 ^ n, are read, and what is left is read as the definition reads on from them.
use Prim.Native.Nat.{◌≤◌, ◌<◌, ◌^◌}
use mathlib.Core.Path.{◌≡◌}
use lib.ListN.{length, drop}
use Rattle.fields.specs.Number.{number_from}
use Rattle.fields.proofs.cursor.number.Given as goal

abbrev pub invariant-loop-at : goal.invariant-loop-at
invariant-loop-at l =
    record {
      inside : 0 < l.n → l.at ≤ length l.file;
      few : l.n ≤ 8;
      below : l.v < 10 ^ l.n;
      read : number_from l.n l.v l.at (drop l.at l.file) ≡ number_from 0 0 l.from (drop l.from l.file);
    }
