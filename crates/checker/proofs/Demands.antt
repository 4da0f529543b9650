-- The three demands, of whatever the public operation may give back: `Answers` is its contract. And what the two questions' answers say.
use mathlib.Core.Path.{◌≡◌, refl, sym, ap, ap₂, ◌∙◌}
use mathlib.Core.Logic.{inl, inr, ◌↔◌}
use mathlib.Core.List.{List, [], Memᴰ}
use mathlib.Core.Option.{Option, none, some}
use Prim.Native.Nat.{ℕ, zero, suc, ◌≤◌, ◌<◌}
use native.Mathlib.Omega.{arith}
use borrow.Author.Tests.{ltb-true, ltb-false}
use lib.Dec.{ltb}
use lib.ListN.{length, take, drop, get_or}
use Rattle.theory.specs.Term.{Tree}
use Rattle.theory.specs.Rewriting.{Rewrites, Safe}
use Rattle.theory.specs.Automaton.{Accepts, classes, merged}
use Rattle.theory.specs.Critical.{Acritical, Suitable}
use Rattle.paper.specs.Bytes.{bytes}
use Rattle.paper.specs.Limits.{most_bytes, least_buffer}
use Rattle.paper.specs.Certificate.{Certificate}
use Rattle.paper.specs.Format.{File, unreadable, holds, read_file}
use Rattle.paper.specs.Meaning as Paper
use Rattle.paper.specs.Meaning.{malformed, unsuitable, critical, accepted, stopped, Verdict, Asked, together, total, Means, Given, SharingGiven, ClosureGiven}
use Rattle.paper.specs.Computed.{verdict_on, verdict_of, sharing_of, closure_of}
use Rattle.paper.specs.Answer.{line_with, eight, answer, answer_of}
use Rattle.paper.specs.Contract.{Returned, refusal, returned}
use Rattle.paper.specs.Layout.{First, laid_certificate}
use Rattle.paper.specs.Known.{Worked, table, lines}
use Rattle.paper.proofs.Smallest.{decided}
use Rattle.paper.proofs.Known.{known}
use Rattle.paper.proofs.Refused.{refused_exact, too_long_exact}
use Rattle.paper.proofs.Demands.{given_exactly, accepted_exactly, malformed_exactly, accepted_is_safe}
use Rattle.paper.proofs.Questions.{sharing_exactly, closure_exactly, sharing_refused, closure_refused, closure_answers, closed_closes, put_together}
use Rattle.paper.proofs.Contract.{short_untouched, answer_stands, rest_stays, number_and_length}
use Rattle.paper.proofs.Distinct.{answer_tells}
use Rattle.std.specs.Prelude.{IfOk}
use Rattle.std.specs.declared.option.Option.{Option as RustOption}
use Rattle.std.specs.declared.option.Option.TheVariants.{None, Some}
use Rattle.std.specs.declared.result.Result.{Result}
use Rattle.std.specs.declared.result.Result.TheVariants.{Ok}
use Rattle.verdicts.specs.declared.refusals.Reason.{Reason}
use Rattle.verdicts.specs.declared.refusals.Reason.TheVariants.{TooLong}
use Rattle.verdicts.specs.declared.refusals.Refusal.{Refusal}
use Rattle.verdicts.specs.declared.FinalPair.{FinalPair}
use Rattle.verdicts.specs.declared.Closure.{Closure}
use Rattle.verdicts.specs.declared.Closure.TheVariants.{Closed}
use Rattle.verdicts.specs.Refused.{number, reason_of, numbered, asked}
use Rattle.verdicts.specs.Said.{said_sharing, said_closure, EndedIn}
use Rattle.verdicts.proofs.Told.{reason_back, one_sharing_of_file, one_closure_of_file}
use Rattle.checker.specs.declared.Answered.{Answered}
use Rattle.checker.specs.Gave.{gave, Answers, Begins}

-- The reason that has this number, and none for 0.
abbrev reason_for : ℕ → RustOption Reason
reason_for zero = None
reason_for (suc n) = Some (reason_of (suc n))

reason_above : (r : Reason) → number r ≡ 0 → ⊥
unfolding number reason_of
reason_above r e =
    let is : TooLong ≡ r = ap reason_of (sym e) ∙ reason_back r in
    let two : ◌≡◌ {A = ℕ} 2 0 = ap number is ∙ e in
    omega arith

reason_for_back : (r : RustOption Reason) → reason_for (numbered r) ≡ r
unfolding numbered
reason_for_back None = refl
reason_for_back (Some r) = go (number r) refl
  where
    go : (n : ℕ) → number r ≡ n → reason_for (number r) ≡ Some r
    go zero e = absurd (reason_above r e)
    go (suc n) e = rw e (ap Some (rw e at (reason_back r)))

-- Two results that the contract allows are the same.
pub one_answer : (file buffer : List ℕ) (r s : Answered) (left other : List ℕ) → Answers file buffer r left → Answers file buffer s other → (r ≡ s) × (left ≡ other)
one_answer file buffer r s left other p q =
    let e : gave r left ≡ gave s other = p ∙ sym q in
    let reason : r.reason ≡ s.reason = sym (reason_for_back r.reason) ∙ (ap (λ (x : Returned). reason_for x.number) e ∙ reason_for_back s.reason) in
    (λ i. record { reason = reason i; length = ap (λ (x : Returned). x.written) e i }, ap (λ (x : Returned). x.buffer) e)

-- A verdict's answer begins with `verdict=accepted` only where it is accepted: the first letter tells.
accepted_begins : (v : Verdict) → Begins "verdict=accepted" (answer v) → (n : ℕ) × (v ≡ accepted n)
unfolding answer eight line_with bytes
accepted_begins (malformed number line) b = let e : ◌≡◌ {A = ℕ} 109 97 = ap (λ (l : List ℕ). get_or l 8 0) b.split in absurd (omega arith)
accepted_begins (unsuitable class bad) b = let e : ◌≡◌ {A = ℕ} 117 97 = ap (λ (l : List ℕ). get_or l 8 0) b.split in absurd (omega arith)
accepted_begins (critical rule xs class n) b = let e : ◌≡◌ {A = ℕ} 99 97 = ap (λ (l : List ℕ). get_or l 8 0) b.split in absurd (omega arith)
accepted_begins (accepted n) b = (n, refl)
accepted_begins (stopped n) b = let e : ◌≡◌ {A = ℕ} 115 97 = ap (λ (l : List ℕ). get_or l 8 0) b.split in absurd (omega arith)

-- The answer to accepted begins so.
begins_accepted : (n : ℕ) → Begins "verdict=accepted" (answer (accepted n))
unfolding answer eight line_with bytes
begins_accepted n = record { rest = _; split = refl }

nothing_begins : Begins "verdict=accepted" [] → ⊥
unfolding bytes
nothing_begins b = let e : ◌≡◌ {A = ℕ} 0 118 = ap (λ (l : List ℕ). get_or l 0 0) b.split in omega arith

-- An accepted file holds tables.
accepted_holds : (file : List ℕ) (n : ℕ) → verdict_of file ≡ accepted n → (c : Certificate) × (read_file file ≡ holds c)
unfolding verdict_of verdict_on
accepted_holds file n e = go (read_file file) refl
  where
    go : (f : File) → read_file file ≡ f → (c : Certificate) × (read_file file ≡ holds c)
    go (unreadable number line) r = let d : malformed number line ≡ accepted n = rw r at e in let z : ◌≡◌ {A = ℕ} 0 1 = cc in absurd (omega arith)
    go (holds c) r = (c, r)

-- A verdict that is given to tables is no refusal.
not_refused : (c : Certificate) (v : Verdict) → Given c v → refusal v ≡ 0
unfolding Given Means refusal
not_refused c (malformed number line) g = absurd g
not_refused c (unsuitable class bad) g = refl
not_refused c (critical rule xs class n) g = refl
not_refused c (accepted n) g = refl
not_refused c (stopped n) g = refl

module _ (file buffer : List ℕ) (r : Answered) (left : List ℕ) (given : Answers file buffer r left) where
  -- Demand 1. A buffer under 128 bytes: 1, length 0, and nothing is written.
  pub untouched : length buffer < least_buffer → (numbered r.reason ≡ 1) × (r.length ≡ 0) × (left ≡ buffer)
  untouched h =
      let e = given ∙ short_untouched file buffer h in
      (ap (λ (x : Returned). x.number) e, ap (λ (x : Returned). x.written) e, ap (λ (x : Returned). x.buffer) e)

  -- Otherwise the number of the refusal, the length of the answer, the answer's own bytes, and the later bytes as they were.
  pub written : least_buffer ≤ length buffer
      → (numbered r.reason ≡ refusal (verdict_of file)) × (r.length ≡ length (answer_of file)) × (take r.length left ≡ answer_of file) × (drop r.length left ≡ drop r.length buffer)
  written h =
      let (number, count) = number_and_length file buffer h in
      let n : r.length ≡ length (answer_of file) = ap (λ (x : Returned). x.written) given ∙ count in
      let b : left ≡ (returned file buffer).buffer = ap (λ (x : Returned). x.buffer) given in
      (ap (λ (x : Returned). x.number) given ∙ number, n, rw (b, n) (answer_stands file buffer h), rw (b, n) (rest_stays file buffer h))

  -- A refused file: its number and its line.
  pub refused_written : least_buffer ≤ length buffer → (number : ℕ) (line : Option ℕ) → read_file file ≡ unreadable number line
      → (take r.length left ≡ answer (malformed number line)) × (numbered r.reason ≡ number)
  unfolding answer_of refusal
  refused_written h n line e =
      let (number, count, bs, later) = written h in
      let is = (malformed_exactly file n line).1 e in
      (bs ∙ ap answer is, number ∙ ap refusal is)

  -- In the words of the table of refusals: 2 for a file that is too long, and else the first line with a reason and the smallest number on it.
  pub too_long_written : least_buffer ≤ length buffer → most_bytes < length file → (take r.length left ≡ answer (malformed 2 none)) × (numbered r.reason ≡ 2)
  too_long_written h l = refused_written h 2 none ((too_long_exact file 2).1 (refl, l))

  pub reason_written : least_buffer ≤ length buffer → length file ≤ most_bytes → (n L : ℕ) → First (laid_certificate 1 file) n L
      → (take r.length left ≡ answer (malformed n (some L))) × (numbered r.reason ≡ n)
  reason_written h l n L f = refused_written h n (some L) ((refused_exact file n L).1 (l, f))

  -- Demand 2: the row of the table that holds of the file's tables is the answer written, with the number 0 ..
  pub given_written : least_buffer ≤ length buffer → (c : Certificate) → read_file file ≡ holds c → (v : Verdict) → Given c v → (take r.length left ≡ answer v) × (numbered r.reason ≡ 0)
  unfolding answer_of
  given_written h c e v g =
      let (number, count, bs, later) = written h in
      let is = (given_exactly file c e v).1 g in
      (bs ∙ ap answer is, number ∙ ap refusal is ∙ not_refused c v g)

  -- .. and the answer written is a verdict's only where that is the file's verdict.
  pub verdict_told : least_buffer ≤ length buffer → (v : Verdict) → take r.length left ≡ answer v → verdict_of file ≡ v
  verdict_told h v e = let (number, count, bs, later) = written h in answer_tells file v (sym bs ∙ e)

  -- K1 to K12: on a row's file the row's answer is written.
  pub known_written : (row : Worked) → Memᴰ row table → file ≡ lines row.file → least_buffer ≤ length buffer → take r.length left ≡ lines row.answer
  known_written row m e h = let (number, count, bs, later) = written h in bs ∙ ap answer_of e ∙ known row m

  -- Demand 3: if the bytes written begin `verdict=accepted`, the file holds tables, and their system is safe.
  pub accepted_safe : Begins "verdict=accepted" (take r.length left) → (c : Certificate) × (read_file file ≡ holds c) × Safe c.A c.rules c.B
  unfolding answer_of
  accepted_safe b = elim (decided (ltb (length buffer) least_buffer)) [
    | inl e ↦
        let (one, empty, same) = untouched (ltb-true (length buffer) least_buffer e) in
        absurd (nothing_begins (rw empty at b))
    | inr e ↦
        let (number, count, bs, later) = written (ltb-false (length buffer) least_buffer e) in
        let (n, is) = accepted_begins (verdict_of file) (rw bs at b) in
        let (c, h) = accepted_holds file n is in
        (c, h, accepted_is_safe file n is c h)
  ]

  -- Conversely an acritical, suitable merging whose total is within the budget is accepted.
  pub conclusive_accepted : least_buffer ≤ length buffer → (c : Certificate) → read_file file ≡ holds c → Suitable (merged c.merge c.A) c.B
      → Acritical (merged c.merge c.A) c.rules → total (classes c.merge) c.rules ≤ c.budget → Begins "verdict=accepted" (take r.length left)
  unfolding answer_of
  conclusive_accepted h c e s a l =
      let (number, count, bs, later) = written h in
      let is = (accepted_exactly file c e (total (classes c.merge) c.rules)).1 (s, a, l, refl) in
      rw (bs, is) (begins_accepted (total (classes c.merge) c.rules))

-- The first question. Two results that its contract allows are the same ..
pub one_sharing_answer : (file : List ℕ) (r s : Result (RustOption FinalPair) Refusal) → asked said_sharing r ≡ sharing_of file → asked said_sharing s ≡ sharing_of file → r ≡ s
one_sharing_answer file r s d e = one_sharing_of_file r s (d ∙ sym e)

module _ (file : List ℕ) (r : Result (RustOption FinalPair) Refusal) (given : asked said_sharing r ≡ sharing_of file) where
  -- .. it says what there is of final pairs that share a tree, both ways ..
  pub sharing_told : (c : Certificate) → read_file file ≡ holds c → (s : Paper.Sharing) → (asked said_sharing r ≡ Asked.answered s) ↔ SharingGiven c s
  sharing_told c e s = let (to, from) = sharing_exactly file c e s in (λ h. to (sym given ∙ h), λ g. given ∙ from g)

  -- .. or refuses the file as the reading does.
  pub sharing_refusal_told : (number : ℕ) (line : Option ℕ) → (asked said_sharing r ≡ Asked.refused number line) ↔ (read_file file ≡ unreadable number line)
  sharing_refusal_told number line = let (to, from) = sharing_refused file number line in (λ h. to (sym given ∙ h), λ e. given ∙ from e)

-- The second. Two results that its contract allows are the same ..
pub one_closure_answer : (file : List ℕ) (r s : Result Closure Refusal) → asked said_closure r ≡ closure_of file → IfOk r EndedIn
    → asked said_closure s ≡ closure_of file → IfOk s EndedIn → r ≡ s
one_closure_answer file r s d ended e ended_too = one_closure_of_file r s ended ended_too (d ∙ sym e)

module _ (file : List ℕ) (r : Result Closure Refusal) (given : asked said_closure r ≡ closure_of file) where
  -- .. it says what there is of critical pairs within the budget, both ways ..
  pub closure_told : (c : Certificate) → read_file file ≡ holds c → (k : Paper.Closure) → (asked said_closure r ≡ Asked.answered k) ↔ ClosureGiven c k
  closure_told c e k = let (to, from) = closure_exactly file c e k in (λ h. to (sym given ∙ h), λ g. given ∙ from g)

  -- .. or refuses the file as the reading does.
  pub closure_refusal_told : (number : ℕ) (line : Option ℕ) → (asked said_closure r ≡ Asked.refused number line) ↔ (read_file file ≡ unreadable number line)
  closure_refusal_told number line = let (to, from) = closure_refused file number line in (λ h. to (sym given ∙ h), λ e. given ∙ from e)

  -- Where it says closed, the file holds tables, and every tree that A accepts, rewritten any number of times, is accepted by the merged automaton.
  pub closed_told : (n : ℕ) → r ≡ Ok (Closed n) → (c : Certificate) × (read_file file ≡ holds c) × ((s t : Tree) → Accepts c.A s → Rewrites c.rules s t → Accepts (merged c.merge c.A) t)
  unfolding asked said_closure
  closed_told n e =
      let said : closure_of file ≡ Asked.answered (Paper.Closure.closed n) = sym given ∙ ap (asked said_closure) e in
      elim (closure_answers file) [
        | inl (number, line, f, h) ↦ let both : Asked.refused number line ≡ Asked.answered (Paper.Closure.closed n) = sym f ∙ said in let z : ◌≡◌ {A = ℕ} 0 1 = cc in absurd (omega arith)
        | inr (c, h, f) ↦ (c, h, closed_closes file n said c h)
      ]

-- The verdict is what the two say together.
pub told_together : (file : List ℕ) (r : Result (RustOption FinalPair) Refusal) (k : Result Closure Refusal) → asked said_sharing r ≡ sharing_of file → asked said_closure k ≡ closure_of file
    → verdict_of file ≡ together (asked said_sharing r) (asked said_closure k)
told_together file r k d e = put_together file ∙ sym (ap₂ together d e)
