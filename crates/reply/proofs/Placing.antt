-- A text that was written, or for which there was no room, is placed; and so is what the public operation leaves.
use mathlib.Core.Path.{◌≡◌, refl, sym, ap, ◌∙◌}
use mathlib.Core.List.{List}
use Prim.Native.Nat.{ℕ, ◌+◌, ◌-◌, ◌≤◌, ◌<◌}
use native.Mathlib.Omega.{arith}
use lib.ListN.{length, drop, length-append, length-drop}
use lib.Seq.{length-take-le}
use Rattle.reply.specs.Placed.{IsPrefixLen}
use Rattle.paper.specs.Limits.{least_buffer}
use Rattle.paper.specs.Answer.{answer_of}
use Rattle.paper.specs.Contract.{Returned}
use Rattle.paper.proofs.Contract.{short_untouched, answered}
use Rattle.answer.specs.Shown.{Wrote}
use Rattle.checker.specs.declared.Answered.{Answered}
use Rattle.checker.specs.Gave.{Answers}
use Rattle.checker.proofs.Laws.{within}
use Rattle.reply.specs.Placed.{Placed}

counted : (n : ℕ) (is : List ℕ) → n ≤ length is → IsPrefixLen n is
counted n is h = (h, sym (length-take-le n is h))

-- Nothing is written into a short buffer.
pub placed_short : (text was : List ℕ) → length was < least_buffer → Placed text was 0 was
placed_short text was h = record { counts = counted 0 was (omega arith); short = λ l. (refl, refl); room = λ l. absurd (omega arith) }

-- What is written stands within the buffer; `other` is the text as the writer names it.
pub placed_written : (text other was : List ℕ) (n : ℕ) (is : List ℕ) → other ≡ text → least_buffer ≤ length was → Wrote other was n is → Placed text was n is
placed_written text other was n is e h v =
    let w : Wrote text was n is = rw e at v in
    let parts = length-append text (drop (length text) was) ∙ ap (λ k. length text + k) (length-drop (length text) was) in
    let long : length is ≡ length text + (length was - length text) = ap length w.buffer ∙ parts in
    record { counts = counted n is (omega (arith, w.count)); short = λ l. absurd (omega arith); room = λ l. w }

-- What the public operation returns and leaves.
pub placed_answer : (file was : List ℕ) (r : Answered) (is : List ℕ) → Answers file was r is → Placed (answer_of file) was r.length is
placed_answer file was r is e = record {
  counts = counted r.length is (within file was r is e);
  short = λ l. let did = e ∙ short_untouched file was l in (ap (λ (x : Returned). x.written) did, ap (λ (x : Returned). x.buffer) did);
  room = λ l. let did = e ∙ answered file was l in record { count = ap (λ (x : Returned). x.written) did; buffer = ap (λ (x : Returned). x.buffer) did };
}
