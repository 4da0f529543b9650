-- What stands in the lent buffer after a call.
use mathlib.Core.Path.{◌≡◌, ap}
use mathlib.Core.Logic.{inl, inr}
use mathlib.Core.List.{List, ◌++◌}
use Prim.Native.Nat.{ℕ, ◌≤◌, ◌<◌}
use native.Mathlib.Omega.{arith}
use borrow.Author.Tests.{ltb-false, lt-ltb, le-ltb}
use lib.Dec.{ltb}
use lib.ListN.{length, take, drop, length-append, length-drop}
use lib.Seq.{take-append_seam, drop-append_seam}
use Rattle.paper.specs.Limits.{least_buffer}
use Rattle.paper.specs.Answer.{answer_of}
use Rattle.paper.specs.Computed.{verdict_of}
use Rattle.paper.specs.Contract.{refusal, returned}
use Rattle.paper.proofs.Smallest.{decided}
use Rattle.paper.proofs.Bounds.{answer_short}

module _ (file buffer : List ℕ) where
  -- A short buffer stays untouched, and 1 is returned with length 0.
  pub short_untouched : length buffer < least_buffer → returned file buffer ≡ record { number = 1; written = 0; buffer = buffer }
  unfolding returned
  short_untouched l = rw (lt-ltb (length buffer) least_buffer l, returned)

  module _ (long : least_buffer ≤ length buffer) where
    pub answered : returned file buffer ≡ record { number = refusal (verdict_of file); written = length (answer_of file); buffer = answer_of file ++ drop (length (answer_of file)) buffer }
    unfolding returned
    answered = rw (le-ltb (length buffer) least_buffer long, returned)

    -- Otherwise the answer stands from the start ..
    pub answer_stands : take (length (answer_of file)) (returned file buffer).buffer ≡ answer_of file
    answer_stands = rw answered (take-append_seam (answer_of file) (drop (length (answer_of file)) buffer))

    -- .. the later bytes stay ..
    pub rest_stays : drop (length (answer_of file)) (returned file buffer).buffer ≡ drop (length (answer_of file)) buffer
    rest_stays = rw answered (drop-append_seam (answer_of file) (drop (length (answer_of file)) buffer))

    -- .. and the refusal's number (0 when not malformed) and the answer's length are returned.
    pub number_and_length : ((returned file buffer).number ≡ refusal (verdict_of file)) × ((returned file buffer).written ≡ length (answer_of file))
    number_and_length = (ap (λ r. r.number) answered, ap (λ r. r.written) answered)

-- The buffer keeps its length: the answer fits.
pub same_length : (file buffer : List ℕ) → length (returned file buffer).buffer ≡ length buffer
unfolding returned
same_length file buffer = elim (decided (ltb (length buffer) least_buffer)) [
  | inl e ↦ rw (e, returned)
  | inr e ↦
      let room : least_buffer ≤ length buffer = ltb-false (length buffer) least_buffer e in
      rw (e, returned, length-append, length-drop) (omega (arith, answer_short file))
]
