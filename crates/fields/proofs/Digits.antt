-- One entry, byte by byte, is what paper's `number` and `token` say of it.
use mathlib.Core.Path.{◌≡◌, refl, sym, ap, ◌∙◌}
use mathlib.Core.Bool.{Bool, true, false, ◌&&◌, not, and-false}
use mathlib.Core.Logic.{inl, inr}
use mathlib.Core.List.{List, [], ◌∷◌}
use Prim.Native.Nat.{ℕ, suc, ◌+◌, ◌*◌, ◌-◌, ◌≤◌}
use native.Mathlib.Omega.{arith}
use borrow.Author.Tests.{ne_eqb, eqb-true, eqb-false, leb-true, leb-false, le-leb, lt-leb}
use lib.Dec.{eqb, leb}
use lib.ListN.{length}
use Rattle.theory.specs.Preorder.{Token, symbol, variable}
use Rattle.paper.specs.Checked.{Checked, fault, says, ◌>>=◌, ◌>>◌, ◌unless◌}
use Rattle.paper.specs.Fields.{all, digit, is_number, from_digits, number, token}
use Rattle.paper.proofs.Smallest.{decided}
use Rattle.fields.specs.Number.{is_digit, full}
use Rattle.fields.specs.Value.{code_of, code}
use Rattle.fields.proofs.NumberLaws.{digit_least}

-- An entry of kind y of which n digits of value v are read, and the bytes e are left.
unfoldable pub read_on : ℕ → ℕ → ℕ → List ℕ → Checked ℕ
read_on y n v [] = elim (eqb n 0) [ true ↦ fault 4 | false ↦ says (code y v) ]
read_on y n v (b ∷ e) = elim (is_digit b) [
  | true ↦ elim (full n v) [ true ↦ fault 4 | false ↦ read_on y (n + 1) (v * 10 + (b - 48)) e ]
  | false ↦ elim (eqb n 0) [ true ↦ elim (eqb y 1 && eqb b 120) [ true ↦ read_on 2 0 0 e | false ↦ fault 4 ] | false ↦ fault 4 ]
]

-- The test of what is left of a number.
abbrev rest : ℕ → ℕ → ℕ → List ℕ → Checked ℕ
rest y n v e = 4 unless (all e digit && leb (n + length e) 8) >> says (code y (from_digits v e))

same_digit : (b : ℕ) → digit b ≡ is_digit b
unfolding digit is_digit
same_digit b = refl

full_eight : (n v : ℕ) → leb 8 n ≡ true → full n v ≡ true
unfolding full
full_eight n v f = rw f

full_not : (n v : ℕ) → leb 8 (suc n) ≡ false → (v ≡ 0 → ⊥) → full (suc n) v ≡ false
unfolding full
full_not n v f z = rw (f, ne_eqb v 0 z, and-false (not (eqb (suc n) 0)))

more_step : (y n v b : ℕ) (e : List ℕ) → is_digit b ≡ true → full n v ≡ false → read_on y n v (b ∷ e) ≡ read_on y (n + 1) (v * 10 + (b - 48)) e
unfolding read_on
more_step y n v b e d f = rw (d, f, read_on)

-- A number that does not begin with 0, after its first digit.
more_digits : (y n v : ℕ) (e : List ℕ) → suc n ≤ 8 → (v ≡ 0 → ⊥) → read_on y (suc n) v e ≡ rest y (suc n) v e
unfolding read_on all from_digits ◌unless◌ ◌>>◌
more_digits y n v [] h z = rw (le-leb (suc n + 0) 8 (omega arith), ne_eqb (suc n) 0 (λ k. omega arith), read_on)
more_digits y n v (b ∷ e) h z = elim (decided (is_digit b)) [
  | inr d ↦ rw (same_digit b, d, ne_eqb (suc n) 0 (λ k. omega arith), read_on)
  | inl d ↦ elim (decided (leb 8 (suc n))) [
    | inl f ↦ rw (d, full_eight (suc n) v f, read_on) (rw (same_digit b, d, lt-leb (suc n + suc (length e)) 8 (omega (arith, leb-true 8 (suc n) f)), and-false (all e digit)))
    | inr f ↦
        let ih = more_digits y (suc n) (v * 10 + (b - 48)) e (omega (arith, leb-false 8 (suc n) f)) (λ k. z (omega arith)) in
        let p : suc n + 1 ≡ suc (suc n) = omega arith in
        let q : suc (suc n) + length e ≡ suc n + suc (length e) = omega arith in
        let r : v * 10 + (b - 48) ≡ 10 * v + (b - 48) = omega arith in
        more_step y (suc n) v b e d (full_not n v f z)
        ∙ ap (λ k. read_on y k (v * 10 + (b - 48)) e) p
        ∙ ih
        ∙ rw (same_digit b, d)
        (ap (λ k. 4 unless (all e digit && leb k 8) >> says (code y (from_digits (v * 10 + (b - 48)) e))) q
        ∙ ap (λ k. 4 unless (all e digit && leb (suc n + suc (length e)) 8) >> says (code y (from_digits k e))) r)
  ]
]

-- A number that begins with 0 has no other digit.
after_zero : (y b : ℕ) (e : List ℕ) → read_on y 1 0 (b ∷ e) ≡ fault 4
unfolding read_on full
after_zero y b e = elim (decided (is_digit b)) [
  | inl d ↦ rw (d, read_on)
  | inr d ↦ rw (d, read_on)
]

-- A number from its first byte, where no `x` can come.
abbrev coded : ℕ → Checked ℕ → Checked ℕ
coded y j = j >>= (λ n. says (code y n))

first_digit : (y b : ℕ) (e : List ℕ) → is_digit b ≡ true → read_on y 1 (0 * 10 + (b - 48)) e ≡ coded y (number (b ∷ e))
unfolding number is_number all from_digits ◌unless◌ ◌>>◌ ◌>>=◌
first_digit y b [] d = unfold read_on in rw (same_digit b, d)
first_digit y b (c ∷ e) d = elim (decided (eqb b 48)) [
  | inl z ↦ let same : b ≡ 48 = eqb-true b 48 z in rw same (after_zero y c e)
  | inr z ↦ let low = digit_least b d in
      let p : 0 * 10 + (b - 48) ≡ 10 * 0 + (b - 48) = omega arith in
      let w : 1 + suc (length e) ≡ suc (suc (length e)) = omega arith in
      more_digits y 0 (0 * 10 + (b - 48)) (c ∷ e) (omega arith) (λ k. eqb-false b 48 z (omega arith))
      ∙ rw (z, p, same_digit b, d, w) (go (digit c && all e digit) (leb (suc (suc (length e))) 8))
]
  where
    go : (s t : Bool) → ◌≡◌ {A = Checked ℕ} (4 unless (s && t) >> says (code y (from_digits (10 * 0 + (b - 48)) (c ∷ e))))
        (coded y (4 unless (s && t) >> says (from_digits (10 * 0 + (b - 48)) (c ∷ e))))
    go true true = refl
    go true false = refl
    go false t = refl

not_digit : (y b : ℕ) → is_digit b ≡ false → (e : List ℕ) → fault 4 ≡ coded y (number (b ∷ e))
unfolding number is_number ◌unless◌ ◌>>◌ ◌>>=◌
not_digit y b d [] = rw (same_digit b, d)
not_digit y b d (c ∷ e) = elim (decided (eqb b 48)) [
  | inl z ↦ unfold all in rw (z)
  | inr z ↦ unfold all in rw (z, same_digit b, d)
]

pub read_number : (y : ℕ) (e : List ℕ) → (y ≡ 1 → ⊥) → read_on y 0 0 e ≡ coded y (number e)
unfolding number is_number ◌unless◌ ◌>>◌ ◌>>=◌
read_number y [] h = unfold read_on in refl
read_number y (b ∷ e) h = elim (decided (is_digit b)) [
  | inl d ↦ unfold read_on full in (rw (d, read_on) (first_digit y b e d))
  | inr d ↦ unfold read_on in (rw (d, read_on) (rw (ne_eqb y 1 h) (not_digit y b d e)))
]

turn : (y : ℕ) (f : ℕ → Token) → ((n : ℕ) → code_of (f n) ≡ code y n) → (j : Checked ℕ) → coded y j ≡ ((j >>= (λ n. says (f n))) >>= (λ t. says (code_of t)))
unfolding ◌>>=◌
turn y f h (fault n) = refl
turn y f h (says n) = ap says (sym (h n))

-- A symbol's token has no `x` in front.
no_x : (b : ℕ) (e : List ℕ) → eqb b 120 ≡ false → read_on 1 0 0 (b ∷ e) ≡ coded 1 (number (b ∷ e))
no_x b e x = elim (decided (is_digit b)) [
  | inl d ↦ unfold read_on full in (rw (d, read_on) (first_digit 1 b e d))
  | inr d ↦ unfold read_on in (rw (d, read_on) (rw (x) (not_digit 1 b d e)))
]

pub read_token : (e : List ℕ) → read_on 1 0 0 e ≡ (token e >>= (λ t. says (code_of t)))
unfolding token ◌>>=◌ code_of
read_token [] = unfold read_on in refl
read_token (b ∷ e) = elim (decided (eqb b 120)) [
  | inl x ↦
      let same : b ≡ 120 = eqb-true b 120 x in
      rw (x, token) (rw same (unfold read_on is_digit in (read_number 2 e (λ z. let k : ◌≡◌ {A = ℕ} 2 1 = z in absurd (omega arith)) ∙ turn 2 variable (λ n. refl) (number e))))
  | inr x ↦ rw (x, token) (no_x b e x ∙ turn 1 symbol (λ n. refl) (number (b ∷ e)))
]
