-- What it is to put bytes into a buffer at a place.
use Rattle.std.specs.Prelude.{◌≡◌, List, ◌++◌, ℕ, ◌+◌, ◌-◌, ◌≤◌, length, replicate}
use Rattle.std.proofs.lemmas.List.Edits.{sets}
use Rattle.paper.specs.Answer.{decimal}
use Rattle.writing.specs.declared.put.Digits.{Digits}

-- There is room for the bytes from the place `at` on.
pub record Room (buffer : List ℕ) (at : ℕ) (bs : List ℕ) : Type 0 where
  pub fits : at + length bs ≤ length buffer

-- The bytes stand in the buffer from the place `at` on, all else is as it was, and `next` is the place after them.
pub record Put (was : List ℕ) (at : ℕ) (bs : List ℕ) (next : ℕ) (is : List ℕ) : Type 0 where
  pub place : next ≡ at + length bs
  pub holds : is ≡ sets was at bs

-- A number's digits at the end of ten bytes, zeros before them.
unfoldable pub digits_of : ℕ → Digits
digits_of n = record { bytes = replicate (10 - length (decimal n)) 0 ++ decimal n; start = 10 - length (decimal n) }
