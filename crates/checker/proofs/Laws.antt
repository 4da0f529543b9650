-- What a call returns lies within the buffer, and C can take it apart.
use mathlib.Core.Path.{◌≡◌, ap}
use mathlib.Core.List.{List}
use mathlib.Core.Logic.{inl, inr}
use Prim.Native.Nat.{ℕ, ◌≤◌, ◌<◌, ◌/◌, ◌%◌}
use native.Mathlib.Omega.{arith}
use lib.Dec.{ltb}
use borrow.Author.Tests.{ltb-false}
use lib.ListN.{length}
use Rattle.paper.specs.Limits.{least_buffer}
use Rattle.paper.specs.Contract.{Returned, returned}
use Rattle.paper.proofs.Smallest.{decided}
use Rattle.paper.proofs.Bounds.{answer_short}
use Rattle.paper.proofs.Contract.{same_length}
use Rattle.checker.specs.declared.Answered.{Answered}
use Rattle.checker.specs.Gave.{Answers, packed}

-- The length returned is under 128.
pub written_short : (file buffer : List ℕ) → (returned file buffer).written < least_buffer
unfolding returned
written_short file buffer = elim (decided (ltb (length buffer) least_buffer)) [ inl e ↦ rw (e, returned) (omega arith) | inr e ↦ rw (e, returned) (answer_short file) ]

-- C takes the two numbers apart again.
pub unpacked : (file buffer : List ℕ) → (packed (returned file buffer) / 256 ≡ (returned file buffer).number) × (packed (returned file buffer) % 256 ≡ (returned file buffer).written)
unfolding packed
unpacked file buffer = (omega (arith, written_short file buffer), omega (arith, written_short file buffer))

-- The length returned lies within the buffer.
pub within : (file buffer : List ℕ) (r : Answered) (left : List ℕ) → Answers file buffer r left → r.length ≤ length left
unfolding returned
within file buffer r left e =
    let n : r.length ≡ (returned file buffer).written = ap (λ (x : Returned). x.written) e in
    let m : length left ≡ length (returned file buffer).buffer = ap (λ (x : Returned). length x.buffer) e in
    elim (decided (ltb (length buffer) least_buffer)) [
      | inl d ↦ let z : (returned file buffer).written ≡ 0 = rw (d, returned) in omega arith
      | inr d ↦ omega (arith, written_short file buffer, same_length file buffer, ltb-false (length buffer) least_buffer d)
    ]
