-- Where the sets of a lane allow every substitution that begins with some classes, and the left side has no class in that lane, none of those has a critical pair.
use mathlib.Core.Path.{◌≡◌, refl, sym, ap, ◌∙◌}
use mathlib.Core.Bool.{Bool, true, false, true≢false}
use mathlib.Core.Logic.{inl}
use mathlib.Core.List.{List, [], ◌∷◌, ◌++◌, append_assoc, Memᴰ}
use Prim.Native.Nat.{ℕ, zero, suc, ◌+◌, ◌-◌, ◌*◌, ◌≤◌, ◌<◌}
use native.Mathlib.Nat.{zero-mul}
use native.Mathlib.Decide.{dec_lt}
use native.Mathlib.Omega.{arith}
use lib.ListN.{length, get_or, get_or-append}
use lib.Seq.{get_or-append-add}
use borrow.Author.Tests.{lt-ltb, eq-eqb}
use Rattle.theory.specs.Rewriting.{Rule}
use Rattle.theory.specs.Critical.{entry}
use Rattle.theory.specs.Value.{value, is_critical}
use Rattle.theory.proofs.Value.{value_exact}
use Rattle.theory.proofs.Bools.{and_off}
use Rattle.sets.specs.Sets.{Set, mem, none, plus, under}
use Rattle.woven.specs.Woven.{woven_moves}
use Rattle.values.specs.Sets.{spanned}
use Rattle.values.specs.Lanes.{lane, sheet_of, given}
use Rattle.values.specs.Standing.{Spelled, Valued}
use Rattle.values.proofs.Spanned.{spanned_more, each_then}
use Rattle.values.proofs.Sheets.{sheet_symbol}
use Rattle.lanes.specs.Batches.{Touched, Fixed, Paired, BothTouched, Alive}
use Rattle.lanes.specs.Automaton.{woven_automaton}
use Rattle.lanes.proofs.Stays.{given_stays, fixed_stays, paired_stays, touched_rows}

-- The first variables have the classes xs, the next one has the lane's number, and the later ones may have any class.
pub record Freed (k : ℕ) (m : List (List ℕ)) (xs : List ℕ) : Type 0 where
  pub fixed : Fixed k m xs
  pub own : (y : ℕ) → y < k → given k m y (length xs) ≡ plus none y
  pub free : (x l : ℕ) → length xs + 1 ≤ x → x < 4 → l < 512 → given k m l x ≡ under k

-- The prefix is fixed, the next variable is paired from 0 on, and the later ones are freed.
pub freed : (k : ℕ) (m fresh after : List (List ℕ)) (xs : List ℕ) → length xs ≤ 1 → 1 ≤ k → Fixed k m xs
    → Paired k fresh (length xs + 1) (length xs) 0 k → BothTouched k (length xs + 1) (length xs) m fresh
    → ((x l : ℕ) → length xs + 1 ≤ x → x < 4 → l < 512 → given k after l x ≡ under k) → Touched k (length xs + 1) 4 fresh after → Freed k after xs
freed k m fresh after xs few some fixed paired both free touched =
    record {
      fixed = fixed_stays k fresh after xs (λ x hx. touched_rows k fresh after (length xs + 1) 4 touched x (inl (omega arith)))
          (paired_stays k m fresh (length xs + 1) (length xs) xs (omega arith) (omega arith) (omega arith) both fixed);
      own = λ y hy. given_stays k fresh after (length xs) y (touched_rows k fresh after (length xs + 1) 4 touched (length xs) (inl (omega arith)))
          ∙ paired.low 0 y y (omega arith) hy hy (omega arith);
      free = free;
    }

class_in : (s : Set) (c d : ℕ) → s ≡ plus none c → d ≡ c → s d ≡ true
class_in s c d e f = ap (λ (t : Set). t d) e ∙ eq-eqb c d (sym f)

class_low : (k : ℕ) (τ : List ℕ) → 1 ≤ k → ((c : ℕ) → Memᴰ c τ → c < k) → (n : ℕ) → get_or τ n 0 < k
class_low k [] some low n = some
class_low k (c ∷ τ) some low zero = low c (Memᴰ.head refl)
class_low k (c ∷ τ) some low (suc n) = class_low k τ some (λ d h. low d (Memᴰ.tail h)) n

off : (a b : Bool) → (a ≡ true → b ≡ true) → b ≡ false → a ≡ false
off true b h e = absurd (true≢false (sym (h refl) ∙ e))
off false b h e = refl

module _ (k : ℕ) (m : List (List ℕ)) (xs : List ℕ) (some : 1 ≤ k) (most : k ≤ 64) (freed : Freed k m xs) where
  allowed : (y : ℕ) → y < k → (τ : List ℕ) → ((c : ℕ) → Memᴰ c τ → c < k) → (x : ℕ) → x < 4 → given k m y x (entry (xs ++ (y ∷ τ)) x) ≡ true
  unfolding entry
  allowed y hy τ low x hx =
      elim (dec_lt x (length xs)) [
        | yes in-front ↦ class_in (given k m y x) (get_or xs x 0) _ (freed.fixed.each x y in-front (omega arith)) (get_or-append xs (y ∷ τ) 0 x in-front)
        | no late ↦ elim (dec_lt (length xs) x) [
          | yes later ↦
              let n = x - (length xs + 1) in
              let e : x ≡ length xs + suc n = omega arith in
              let c = get_or (xs ++ (y ∷ τ)) x 0 in
              let is : c ≡ get_or τ n 0 = ap (λ i. get_or (xs ++ (y ∷ τ)) i 0) e ∙ get_or-append-add xs (y ∷ τ) (suc n) 0 in
              ap (λ (s : Set). s c) (freed.free x y (omega arith) hx (omega arith)) ∙ lt-ltb c k (omega (arith, is, class_low k τ some low n))
          | no last ↦
              let e : x ≡ length xs + 0 = omega arith in
              let f : x ≡ length xs = omega arith in
              class_in (given k m y x) y _ (ap (given k m y) f ∙ freed.own y hy) (ap (λ i. get_or (xs ++ (y ∷ τ)) i 0) e ∙ get_or-append-add xs (y ∷ τ) 0 0)
        ]
      ]

  module _ (arities words heads tokens : List ℕ) (symbol : get_or tokens 0 0 < 64) (after : List (List ℕ)) (next mask : ℕ)
      (valued : Valued (woven_moves arities words (get_or heads 64 0)) arities tokens k m 0 after next)
      (missed : (j q : ℕ) → j < 64 → mem mask j ≡ false → lane k after 0 j q ≡ false) where
    left_sheet : sheet_of tokens 0 * k ≡ 0
    left_sheet = ap (λ b. b * k) (sheet_symbol tokens 0 symbol) ∙ zero-mul k

    pub some_alive : (rule : Rule) → Spelled arities tokens rule → Alive (woven_automaton arities words heads k) rule xs mask
    unfolding woven_automaton is_critical
    some_alive rule s = record {
      dead = λ y hy e v hv τ long low q hq.
          let M = woven_automaton arities words heads k in
          let σ = xs ++ (y ∷ τ) in
          let ρ = given k m y in
          ap (λ (σ : List ℕ). is_critical M rule σ q) (append_assoc xs (y ∷ []) τ)
          ∙ and_off _ _ (off (value M (entry σ) rule.left q) (spanned M.transitions ρ rule.left q)
          (λ w. spanned_more M (entry σ) ρ (each_then (λ x. x < 4) (λ x. ρ x (entry σ x) ≡ true) (allowed y hy τ low) s.left_four) ((value_exact M (entry σ) rule.left q).0 w))
          (ap (λ (t : Set). t q) (sym (valued.value rule.left s.after_left s.left y (omega arith))) ∙ ap (λ a. lane k after a y q) left_sheet ∙ missed y q (omega arith) e));
    }
