-- The numbers for C say what the code's answers say, and two files with the same numbers have the same answer.
use mathlib.Core.Path.{◌≡◌, refl, sym, ap, ap₂, ◌∙◌}
use mathlib.Core.Logic.{inl, inr}
use mathlib.Core.List.{List, [], ◌∷◌, Memᴰ}
use mathlib.Core.Option.{Option}
use Prim.Native.Nat.{ℕ, zero, suc, ◌≤◌, ◌<◌}
use native.Mathlib.Omega.{arith}
use lib.ListN.{length, get_or}
use Rattle.paper.specs.Format.{line_at, line_number, Refusal, too_long, on_line}
use Rattle.paper.specs.Meaning as Paper
use Rattle.paper.specs.Meaning.{Asked}
use Rattle.paper.specs.Computed.{sharing_in, closure_in, sharing_of, closure_of}
use Rattle.paper.proofs.Admitted.{admitted}
use Rattle.paper.proofs.Exact.{closure_given}
use Rattle.paper.proofs.Bounds.{ClosureRanged, closure_ranged}
use Rattle.paper.proofs.Questions.{sharing_answers, closure_answers}
use Rattle.verdicts.specs.declared.critical_pair.CriticalPair.{CriticalPair}
use Rattle.verdicts.specs.Said.{class_then, classes_of, Ended}
use Rattle.verdicts.proofs.Told.{shown_class, classes_are}
use Rattle.checker.specs.Numbers.{sharing_kind, sharing_numbers, closure_kind, closure_numbers}

-- A critical pair: its class numbers are the classes of its variables, and 255 behind them.
pub critical_numbers : (p : CriticalPair) (n : ℕ) → Ended p
    → 0 ∷ 0 ∷ p.rule ∷ p.x0 ∷ p.x1 ∷ p.x2 ∷ p.x3 ∷ p.class ∷ n ∷ [] ≡ closure_numbers (Asked.answered (Paper.Closure.critical p.rule (classes_of p) p.class n))
unfolding closure_numbers
critical_numbers p n h =
    let is = classes_are p h in
    λ i. 0 ∷ 0 ∷ p.rule ∷ sym is.x0_is i ∷ sym is.x1_is i ∷ sym is.x2_is i ∷ sym is.x3_is i ∷ p.class ∷ n ∷ []

-- What C reads from the numbers.
abbrev sharing_from : ℕ → List ℕ → Asked Paper.Sharing
sharing_from zero ns = Asked.answered Paper.Sharing.nothing
sharing_from (suc zero) ns = Asked.answered (Paper.Sharing.shared (get_or ns 2 0) (get_or ns 3 0))
sharing_from (suc (suc k)) ns = Asked.refused (get_or ns 0 0) (line_at (get_or ns 1 0))

abbrev classes_from : List ℕ → List ℕ
classes_from ns = class_then (get_or ns 3 0) (class_then (get_or ns 4 0) (class_then (get_or ns 5 0) (class_then (get_or ns 6 0) [])))

abbrev closure_from : ℕ → List ℕ → Asked Paper.Closure
closure_from zero ns = Asked.answered (Paper.Closure.closed (get_or ns 8 0))
closure_from (suc zero) ns = Asked.answered (Paper.Closure.critical (get_or ns 2 0) (classes_from ns) (get_or ns 7 0) (get_or ns 8 0))
closure_from (suc (suc zero)) ns = Asked.answered (Paper.Closure.stopped (get_or ns 8 0))
closure_from (suc (suc (suc k))) ns = Asked.refused (get_or ns 0 0) (line_at (get_or ns 1 0))

-- A refusal's line is not 0.
line_there : {number : ℕ} {line : Option ℕ} → Refusal number line → line_at (line_number line) ≡ line
unfolding line_at line_number
line_there too_long = refl
line_there (on_line {line = zero} l h m n) = absurd (omega arith)
line_there (on_line {line = suc line} l h m n) = refl

-- At most four classes, each below 255, are read back.
classes_back : (xs : List ℕ) → length xs ≤ 4 → ((x : ℕ) → Memᴰ x xs → x < 255)
    → class_then (get_or xs 0 255) (class_then (get_or xs 1 255) (class_then (get_or xs 2 255) (class_then (get_or xs 3 255) []))) ≡ xs
unfolding class_then
classes_back [] l h = refl
classes_back (a ∷ []) l h = shown_class a _ _ (h a (Memᴰ.head refl)) refl
classes_back (a ∷ b ∷ []) l h = shown_class a _ _ (h a (Memᴰ.head refl)) (shown_class b _ _ (h b (Memᴰ.tail (Memᴰ.head refl))) refl)
classes_back (a ∷ b ∷ c ∷ []) l h =
    shown_class a _ _ (h a (Memᴰ.head refl))
    (shown_class b _ _ (h b (Memᴰ.tail (Memᴰ.head refl))) (shown_class c _ _ (h c (Memᴰ.tail (Memᴰ.tail (Memᴰ.head refl)))) refl))
classes_back (a ∷ b ∷ c ∷ d ∷ []) l h =
    shown_class a _ _ (h a (Memᴰ.head refl))
    (shown_class b _ _ (h b (Memᴰ.tail (Memᴰ.head refl)))
    (shown_class c _ _ (h c (Memᴰ.tail (Memᴰ.tail (Memᴰ.head refl))))
    (shown_class d _ _ (h d (Memᴰ.tail (Memᴰ.tail (Memᴰ.tail (Memᴰ.head refl))))) refl)))
classes_back (a ∷ b ∷ c ∷ d ∷ e ∷ xs) l h = absurd (omega arith)

sharing_read : (file : List ℕ) → sharing_from (sharing_kind (sharing_of file)) (sharing_numbers (sharing_of file)) ≡ sharing_of file
unfolding sharing_kind sharing_numbers
sharing_read file = elim (sharing_answers file) [
  | inl (number, line, e, r) ↦ rw e (ap (Asked.refused number) (line_there r))
  | inr (c, h, e) ↦ rw e (go (sharing_in c))
]
  where
    go : (s : Paper.Sharing) → sharing_from (sharing_kind (Asked.answered s)) (sharing_numbers (Asked.answered s)) ≡ Asked.answered s
    go (Paper.Sharing.shared class bad) = refl
    go Paper.Sharing.nothing = refl

closure_read : (file : List ℕ) → closure_from (closure_kind (closure_of file)) (closure_numbers (closure_of file)) ≡ closure_of file
unfolding closure_kind closure_numbers ClosureRanged
closure_read file = elim (closure_answers file) [
  | inl (number, line, e, r) ↦ rw e (ap (Asked.refused number) (line_there r))
  | inr (c, h, e) ↦ rw e (go (closure_in c) (closure_ranged c (admitted file c h) (closure_in c) ((closure_given c (admitted file c h) (closure_in c)).0 refl)))
]
  where
    go : (k : Paper.Closure) → ClosureRanged k → closure_from (closure_kind (Asked.answered k)) (closure_numbers (Asked.answered k)) ≡ Asked.answered k
    go (Paper.Closure.critical rule xs class n) r = ap (λ ys. Asked.answered (Paper.Closure.critical rule ys class n)) (classes_back xs r.variables (λ x m. omega (arith, r.classes x m)))
    go (Paper.Closure.closed n) r = refl
    go (Paper.Closure.stopped n) r = refl

-- Two files with the same kind and the same numbers have the same answer: C is told the whole answer.
pub sharing_whole : (file other : List ℕ) → sharing_kind (sharing_of file) ≡ sharing_kind (sharing_of other)
    → sharing_numbers (sharing_of file) ≡ sharing_numbers (sharing_of other) → sharing_of file ≡ sharing_of other
sharing_whole file other k n = sym (sharing_read file) ∙ (ap₂ sharing_from k n ∙ sharing_read other)

pub closure_whole : (file other : List ℕ) → closure_kind (closure_of file) ≡ closure_kind (closure_of other)
    → closure_numbers (closure_of file) ≡ closure_numbers (closure_of other) → closure_of file ≡ closure_of other
closure_whole file other k n = sym (closure_read file) ∙ (ap₂ closure_from k n ∙ closure_read other)
