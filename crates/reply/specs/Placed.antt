-- What a program prints: the answer to the question that a letter names, in a lent buffer.
use Rattle.std.specs.Prelude.{◌≡◌, cond, List, ℕ, ◌≤◌, ◌<◌, eqb, length, take}
use Rattle.paper.specs.Limits.{least_buffer}
use Rattle.paper.specs.Computed.{sharing_of, closure_of}
use Rattle.paper.specs.Answer.{answer_of, sharing_answer, closure_answer}
use Rattle.answer.specs.Shown.{Wrote}
use Rattle.reply.specs.declared.Question.{Question}
use Rattle.reply.specs.declared.Question.TheVariants.{Sharing, Closure, Verdict}

-- The answer to a question.
unfoldable pub answer_to : Question → List ℕ → List ℕ
answer_to Sharing file = sharing_answer (sharing_of file)
answer_to Closure file = closure_answer (closure_of file)
answer_to Verdict file = answer_of file

-- `s` asks the first question, `c` the second, and any other byte for the whole verdict.
unfoldable pub asked_by : ℕ → Question
asked_by letter = cond (eqb letter 115) Sharing (cond (eqb letter 99) Closure Verdict)

-- `&xs[..n]` is in bounds and has n bytes.
abbrev pub IsPrefixLen : ℕ → List ℕ → Type 0
IsPrefixLen n xs = (n ≤ length xs) × (n ≡ length (take n xs))

-- A text in a buffer: nothing is written into one under 128 bytes; otherwise it stands from the start, n bytes long, and the later bytes stay.
pub record Placed (text was : List ℕ) (n : ℕ) (is : List ℕ) : Type 0 where
  pub counts : IsPrefixLen n is
  pub short : length was < least_buffer → (n ≡ 0) × (is ≡ was)
  pub room : least_buffer ≤ length was → Wrote text was n is
