-- Which refusal a file gets: the first line that has a reason, and on it the smallest number that has one.
use mathlib.Core.Path.{◌≡◌, refl}
use mathlib.Core.Logic.{◌⊎◌, inl, inr, ◌↔◌}
use mathlib.Core.List.{List, [], ◌∷◌, ◌++◌}
use mathlib.Core.Option.{Option, none, some}
use Prim.Native.Nat.{ℕ, suc, ◌≤◌, ◌<◌}
use Prim.Native.String.{String}
use native.Mathlib.Omega.{arith}
use lib.Dec.{leb}
use lib.ListN.{length}
use borrow.Author.Tests.{leb-true, leb-false, le-leb}
use Rattle.theory.specs.Term.{Term}
use Rattle.theory.specs.Automaton.{Transition}
use Rattle.paper.specs.Bytes.{LF}
use Rattle.paper.specs.Limits.{most_bytes}
use Rattle.paper.specs.Certificate.{Certificate, Final, BadFinal, row}
use Rattle.paper.specs.Checked.{Checked, fault}
use Rattle.paper.specs.Lines.{line_ends, checked_line}
use Rattle.paper.specs.Tables.{within, single_number, number_list, arity_list, final_list, transition, class_list}
use Rattle.paper.specs.Sides.{left_side, right_side}
use Rattle.paper.specs.Format.{Reading, refused, gave, File, unreadable, holds, Refusal, too_long, on_line, whole_file, read_file}
use Rattle.paper.specs.Format
use Rattle.paper.specs.WellFormed.{WellFormed}
use Rattle.paper.specs.Spelling.{file_of}
use Rattle.paper.specs.Reasons.{Expected, number_line, arity_line, final_line, transition_line, side_line, merge_line, Reason, Faulty}
use Rattle.paper.specs.Layout.{First, laid_certificate, Reasonless}
use Rattle.paper.proofs.Smallest.{decided}
use Rattle.paper.proofs.Admitted.{held}
use Rattle.paper.proofs.Complete.{format_exact}
use Rattle.paper.proofs.LineBound.{certificate_lines}
use Rattle.paper.proofs.ReasonsLaws.{Judges, judges_exact, unsaid}
use Rattle.paper.proofs.Reasons.{number_judges, arities_judges, finals_judges, transition_judges, classes_judges}
use Rattle.paper.proofs.ReasonsSides.{left_judges, right_judges}
use Rattle.paper.proofs.ReasonsFile.{line_judges, fault_number, settled_refused, settled_gave, certificate_laid}

-- What each line says, and how the reader judges its value.
unfoldable pub Content : Expected → Type 0
Content (number_line kind) = ℕ
Content arity_line = List ℕ
Content (final_line states) = List ℕ
Content (transition_line arities states) = Transition
Content (side_line arities left) = Term ℕ
Content (merge_line states) = List ℕ

unfoldable pub judge_as : (expected : Expected) → List ℕ → Checked (Content expected)
unfolding Content
judge_as (number_line kind) = single_number kind
judge_as arity_line = arity_list
judge_as (final_line states) = final_list Final states
judge_as (transition_line arities states) = transition arities states
judge_as (side_line arities none) = left_side arities
judge_as (side_line arities (some l)) = right_side arities l
judge_as (merge_line states) = class_list states

-- `badfinal` is judged as `final` is.
pub final_alike : (states : ℕ) (value : List ℕ) → final_list BadFinal states value ≡ final_list Final states value
unfolding final_list number_list within row
final_alike states value = refl

value_judged : (expected : Expected) (value : List ℕ) → Judges (λ x. Unit {0}) (Reason value expected) (judge_as expected value)
unfolding Content judge_as row
value_judged (number_line kind) value = unsaid (number_judges value kind)
value_judged arity_line value = unsaid (arities_judges value)
value_judged (final_line states) value = unsaid (finals_judges value Final refl refl refl states)
value_judged (transition_line arities states) value = unsaid (transition_judges value arities states)
value_judged (side_line arities none) value = unsaid (left_judges arities value)
value_judged (side_line arities (some l)) value = unsaid (right_judges arities value l)
value_judged (merge_line states) value = unsaid (classes_judges value states)

-- A line is refused by n exactly when n has a reason on it, and no smaller number has one.
pub by_smallest : (key : String) (expected : Expected) (bs : List ℕ) (n : ℕ)
    → (checked_line key (judge_as expected) bs ≡ fault n) ↔ (Faulty key expected bs n × ((m : ℕ) → m < n → Faulty key expected bs m → ⊥))
by_smallest key expected bs = judges_exact _ (line_judges key (judge_as expected) (value_judged expected) bs)

-- A file is refused by n on line L exactly when it is not too long, and n on L is the first of its reasons.
pub refused_exact : (file : List ℕ) (n L : ℕ) → (read_file file ≡ unreadable n (some L)) ↔ ((length file ≤ most_bytes) × First (laid_certificate 1 file) n L)
unfolding read_file whole_file
refused_exact file n L = elim (decided (leb (length file) most_bytes)) [
  | inl h ↦
      let exact = settled_refused (laid_certificate 1 file) (Format.certificate 1 file) (certificate_laid.settles 1 file) n L in
      (λ e. (leb-true (length file) most_bytes h, exact.0 (whole (Format.certificate 1 file) (rw (h, read_file) at e))), λ (l, f). rw (h, read_file) (rw (exact.1 f)))
  | inr h ↦ (λ e. absurd (let f = rw (h, read_file) at e in let z : ◌≡◌ {A = ℕ} 0 1 = cc in omega arith), λ (l, f). absurd (omega (arith, leb-false (length file) most_bytes h)))
]
  where
    whole : (r : Reading Certificate) → whole_file r ≡ unreadable n (some L) → r ≡ refused n L
    whole (refused m l) e = cc
    whole (gave c l bs) e = let z : ◌≡◌ {A = ℕ} 0 1 = cc in absurd (omega arith)

-- It is refused on no line exactly when it is too long, by 2.
pub too_long_exact : (file : List ℕ) (n : ℕ) → (read_file file ≡ unreadable n none) ↔ ((n ≡ 2) × (most_bytes < length file))
unfolding read_file whole_file
too_long_exact file n = elim (decided (leb (length file) most_bytes)) [
  | inl h ↦ (λ e. absurd (whole (Format.certificate 1 file) (rw (h, read_file) at e)), λ (e, l). absurd (omega (arith, leb-true (length file) most_bytes h)))
  | inr h ↦ (λ e. let f = rw (h, read_file) at e in (cc, leb-false (length file) most_bytes h), λ (e, l). rw (h, read_file, e))
]
  where
    whole : (r : Reading Certificate) → whole_file r ≡ unreadable n none → ⊥
    whole (refused m l) e = let z : ◌≡◌ {A = ℕ} 0 1 = cc in omega arith
    whole (gave c l bs) e = let z : ◌≡◌ {A = ℕ} 0 1 = cc in omega arith

-- It holds c exactly when it is not too long, may be read as c, and has no reason on any line.
pub holds_exact : (file : List ℕ) (c : Certificate) → (read_file file ≡ holds c) ↔ Reasonless file c
unfolding read_file whole_file
holds_exact file c = (
  λ e.
      let (L, rest, g, short) = held file c e in
      let (s, free) = (settled_gave certificate_laid 1 file c L rest).0 g in
      record { short = short; says_c = (L, rest, s); no_reason = free },
  λ w.
      let (L, rest, s) = w.says_c in
      rw (le-leb (length file) most_bytes w.short, read_file) (rw ((settled_gave certificate_laid 1 file c L rest).1 (s, w.no_reason))),
)

-- Then it is the one file that says c, and c is well formed; and no other is.
pub no_reason_exact : (file : List ℕ) (c : Certificate) → Reasonless file c ↔ ((file_of c ≡ file) × WellFormed c)
no_reason_exact file c = (λ w. (format_exact file c).0 ((holds_exact file c).1 w), λ w. (holds_exact file c).0 ((format_exact file c).1 w))

-- The line of a refusal is one more than the LFs before it: whole lines stand before it, and the line that begins there has the fault, or bytes follow the last line.
pub line_count : (file : List ℕ) (n L : ℕ) → read_file file ≡ unreadable n (some L) → (before : List ℕ) × (rest : List ℕ) × (before ++ rest ≡ file)
    × ((before ≡ []) ⊎ ((cs : List ℕ) × (cs ++ (LF ∷ []) ≡ before))) × (suc (line_ends before) ≡ L)
    × (((key : String) × (expected : Expected) × Faulty key expected rest n) ⊎ ((n ≡ 3) × (rest ≡ [] → ⊥)))
line_count file n L e =
    let (rest, begin, fault-at) = certificate_laid.refuses ((refused_exact file n L).0 e).1.itself in
    (begin.before, rest, begin.parts, begin.whole, omega (arith, begin.count), fault-at)

-- A file is refused as the scope says, or holds a certificate.
pub refused_or_holds : (file : List ℕ) → ((number : ℕ) × (line : Option ℕ) × (read_file file ≡ unreadable number line) × Refusal number line) ⊎ ((c : Certificate) × (read_file file ≡ holds c))
refused_or_holds file = go (read_file file) refl
  where
    bound : (n L : ℕ) → read_file file ≡ unreadable n (some L) → Refusal n (some L)
    bound n L e =
        let (rest, begin, f) = certificate_laid.refuses ((refused_exact file n L).0 e).1.itself in
        let at = (settled_refused (laid_certificate 1 file) (Format.certificate 1 file) (certificate_laid.settles 1 file) n L).1 ((refused_exact file n L).0 e).1 in
        on_line {line = L} (fault_number f).0 (fault_number f).1 (omega arith) (omega (arith, certificate_lines.refuses 1 file n L at))

    go : (f : File) → read_file file ≡ f → ((number : ℕ) × (line : Option ℕ) × (read_file file ≡ unreadable number line) × Refusal number line) ⊎ ((c : Certificate) × (read_file file ≡ holds c))
    go (unreadable n (some L)) e = inl (n, some L, e, bound n L e)
    go (unreadable n none) e = let (two, l) = (too_long_exact file n).0 e in inl (n, none, e, rw two too_long)
    go (holds c) e = inr (c, e)
