-- `put_bytes`: it stores the bytes one by one.
-- The invariant: what is left to store gives what the whole gives.
use mathlib.Core.Path.{◌≡◌}
use Prim.Native.Nat.{◌+◌}
use lib.ListN.{length, drop}
use lib.Seq.{sets}
use Rattle.writing.proofs.put.put_bytes.Given as goal

abbrev pub invariant-loop-b : goal.invariant-loop-b
invariant-loop-b l = (l.end ≡ l.at + l.b-index) × (length l.out ≡ length l.initial.out) × (sets l.out l.end (drop l.b-index l.bs) ≡ sets l.initial.out l.at l.bs)
