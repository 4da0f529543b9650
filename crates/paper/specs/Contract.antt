-- What the public function returns and leaves in the lent buffer, on every input.
use Rattle.std.specs.Prelude.{true, false, List, ◌++◌, ℕ, ltb, length, drop}
use Rattle.paper.specs.Limits.{least_buffer}
use Rattle.paper.specs.Meaning.{malformed, unsuitable, critical, accepted, stopped, Verdict}
use Rattle.paper.specs.Computed.{verdict_of}
use Rattle.paper.specs.Answer.{answer_of}

-- The refusal's number, and 0 when not malformed.
unfoldable pub refusal : Verdict → ℕ
refusal (malformed number line) = number
refusal (unsuitable class bad) = 0
refusal (critical rule xs class n) = 0
refusal (accepted n) = 0
refusal (stopped n) = 0

-- The number and the length returned, and the buffer as it is left.
pub record Returned : Type 0 where
  pub number : ℕ
  pub written : ℕ
  pub buffer : List ℕ

-- 1: an answer buffer under 128 bytes, and nothing is written. Otherwise the answer stands from the buffer's start, and the later bytes stay.
unfoldable pub returned : (file buffer : List ℕ) → Returned
returned file buffer = elim (ltb (length buffer) least_buffer) [
  | true ↦ record { number = 1; written = 0; buffer = buffer }
  | false ↦ record { number = refusal (verdict_of file); written = length (answer_of file); buffer = answer_of file ++ drop (length (answer_of file)) buffer }
]
