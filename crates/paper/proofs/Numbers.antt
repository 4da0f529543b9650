-- A number in decimal: digits that read as the number, none of them a leading zero, and no other bytes do.
use mathlib.Core.Path.{◌≡◌, refl, sym, ap, ◌∙◌}
use mathlib.Core.Logic.{inl, inr, ◌↔◌}
use mathlib.Core.Bool.{Bool, true, ◌&&◌, not, false≢true, and-eq-true_iff}
use mathlib.Core.List.{List, [], ◌∷◌, ◌++◌, append_assoc, append-nil}
use Prim.Native.Nat.{ℕ, zero, suc, ◌+◌, ◌*◌, ◌-◌, ◌^◌, ◌/◌, ◌%◌, ◌≤◌, ◌<◌}
use native.Mathlib.Omega.{arith}
use native.Mathlib.Decide.{dec_le}
use native.Mathlib.Nat.{pow-zero, pow-succ', pow-le-pow_right, mul_assoc, mul-le-mul_right}
use lib.Dec.{eqb, leb, ltb}
use lib.ListN.{length, length-append}
use borrow.Author.Tests.{le-leb, leb-true, lt-ltb, le-ltb, ne_eqb, eqb-false, not-true, ltb-false}
use Rattle.theory.proofs.Tests.{equal_iff}
use Rattle.paper.specs.Bytes.{digit0}
use Rattle.paper.specs.Limits.{most_digits}
use Rattle.paper.specs.Checked.{says, ◌>>◌, ◌unless◌}
use Rattle.paper.specs.Fields.{all, digit, is_number, from_digits, number}
use Rattle.paper.specs.Answer.{digits, decimal}
use Rattle.paper.proofs.Smallest.{decided}
use Rattle.paper.proofs.Checked.{passed, says_so}

one_digit : (k n : ℕ) → n < 10 → digits k n ≡ (digit0 + n) ∷ []
unfolding digits
one_digit zero n h = refl
one_digit (suc k) n h = rw (lt-ltb n 10 h, digits)

-- A count that is large enough matters no more.
enough : (k m n : ℕ) → n ≤ k → n ≤ m → digits k n ≡ digits m n
unfolding digits
enough zero m n h i = sym (one_digit m n (omega arith))
enough (suc k) zero n h i = one_digit (suc k) n (omega arith)
enough (suc k) (suc m) n h i = elim (decided (ltb n 10)) [
  | inl e ↦ rw (e, digits)
  | inr e ↦ let large = ltb-false n 10 e in rw (e, digits, enough k m (n / 10) (omega arith) (omega arith))
]

-- The decimal of a number is its only digit, ..
pub decimal_one : (n : ℕ) → n < 10 → decimal n ≡ (digit0 + n) ∷ []
unfolding decimal
decimal_one n h = one_digit _ n h

-- .. or the decimal of its tenth and then its last digit.
pub decimal_more : (n : ℕ) → 10 ≤ n → decimal n ≡ decimal (n / 10) ++ ((digit0 + n % 10) ∷ [])
unfolding decimal digits
decimal_more zero h = absurd (omega arith)
decimal_more (suc n) h = rw (le-ltb (suc n) 10 h, digits, enough n (suc n / 10) (suc n / 10) (omega arith) (omega arith))

-- What holds of one digit, and of a number where it holds of its tenth, holds of every number.
module _ {P : ℕ → Type 0} (one : (n : ℕ) → n < 10 → P n) (more : (n : ℕ) → 10 ≤ n → P (n / 10) → P n) where
  below : (k n : ℕ) → n ≤ k → P n
  below zero n h = one n (omega arith)
  below (suc k) n h = elim (dec_le 10 n) [ yes g ↦ more n g (below k (n / 10) (omega arith)) | no g ↦ one n (omega arith) ]

  by_tens : (n : ℕ) → P n
  by_tens n = below n n (omega arith)

-- The facts behind a digit.
pub digit_facts : (b : ℕ) → digit b ≡ true → (digit0 ≤ b) × (b ≤ digit0 + 9)
unfolding digit
digit_facts b e = let (l, h) = (and-eq-true_iff (leb digit0 b) (leb b (digit0 + 9))).0 e in (leb-true digit0 b l, leb-true b (digit0 + 9) h)

digit_true : (d : ℕ) → d < 10 → digit (digit0 + d) ≡ true
unfolding digit
digit_true d h = (and-eq-true_iff (leb digit0 (digit0 + d)) (leb (digit0 + d) (digit0 + 9))).1 (le-leb digit0 (digit0 + d) (omega arith), le-leb (digit0 + d) (digit0 + 9) (omega arith))

all_append : {Y : Type 0} (test : Y → Bool) (xs ys : List Y) → all xs test ≡ true → all ys test ≡ true → all (xs ++ ys) test ≡ true
unfolding all
all_append test [] ys h g = g
all_append test (x ∷ xs) ys h g =
    let (a, b) = (and-eq-true_iff (test x) (all xs test)).0 h in
    (and-eq-true_iff (test x) (all (xs ++ ys) test)).1 (a, all_append test xs ys b g)

-- Every byte of a decimal is a digit, ..
pub decimal_digits : (n : ℕ) → all (decimal n) digit ≡ true
unfolding all
decimal_digits = by_tens {P = λ n. all (decimal n) digit ≡ true}
    (λ n h. rw (decimal_one n h) ((and-eq-true_iff (digit (digit0 + n)) true).1 (digit_true n h, refl)))
    (λ n h i. rw (decimal_more n h) (all_append digit (decimal (n / 10)) _ i ((and-eq-true_iff (digit (digit0 + n % 10)) true).1 (digit_true (n % 10) (omega arith), refl))))

from_append : (n : ℕ) (bs cs : List ℕ) → from_digits n (bs ++ cs) ≡ from_digits (from_digits n bs) cs
unfolding from_digits
from_append n [] cs = refl
from_append n (b ∷ bs) cs = from_append (10 * n + (b - digit0)) bs cs

-- .. read back they are the number, ..
pub decimal_reads : (n : ℕ) → from_digits 0 (decimal n) ≡ n
unfolding from_digits
decimal_reads = by_tens {P = λ n. from_digits 0 (decimal n) ≡ n} (λ n h. rw (decimal_one n h) (omega arith)) (λ n h i. rw (decimal_more n h, from_append, i) (omega arith))

-- The first digit of a decimal is 0 only where the number is.
pub record FirstDigit (n : ℕ) : Type 0 where
  pub first : ℕ
  pub rest : List ℕ
  pub is : decimal n ≡ first ∷ rest
  pub zero_alone : first ≡ digit0 → n ≡ 0

pub decimal_first : (n : ℕ) → FirstDigit n
decimal_first = by_tens {P = FirstDigit}
    (λ n h. record { first = digit0 + n; rest = []; is = decimal_one n h; zero_alone = λ e. omega arith })
    (λ n h i. record {
      first = i.first;
      rest = i.rest ++ ((digit0 + n % 10) ∷ []);
      is = decimal_more n h ∙ ap (λ ds. ds ++ ((digit0 + n % 10) ∷ [])) i.is;
      zero_alone = λ e. absurd (omega (arith, i.zero_alone e));
    })

-- .. and none is a leading zero.
pub no_leading_zero : (n b : ℕ) (bs : List ℕ) → decimal n ≡ digit0 ∷ b ∷ bs → ⊥
no_leading_zero n b bs e =
    let f = decimal_first n in
    let is = f.is in
    let zero-first : f.first ≡ digit0 = cc in
    let zero-only = decimal_one n (omega (arith, f.zero_alone zero-first)) in
    let z : ◌≡◌ {A = ℕ} 0 1 = cc in
    omega arith

-- Digits behind a number that is not 0 are written behind its decimal.
write_digits : (bs : List ℕ) (m : ℕ) → 0 < m → all bs digit ≡ true → decimal (from_digits m bs) ≡ decimal m ++ bs
unfolding all from_digits
write_digits [] m l h = sym (append-nil (decimal m))
write_digits (b ∷ bs) m l h =
    let (d, ds) = (and-eq-true_iff (digit b) (all bs digit)).0 h in
    let (low, high) = digit_facts b d in
    let front : (10 * m + (b - digit0)) / 10 ≡ m = omega arith in
    let last : digit0 + (10 * m + (b - digit0)) % 10 ≡ b = omega arith in
    write_digits bs (10 * m + (b - digit0)) (omega arith) ds ∙ rw (decimal_more (10 * m + (b - digit0)) (omega arith), front, last) (append_assoc (decimal m) (b ∷ []) bs)

-- Digits without a leading zero are the decimal of the number that they read as.
pub decimal_only : (b : ℕ) (bs : List ℕ) → all (b ∷ bs) digit ≡ true → (b ≡ digit0 → bs ≡ []) → decimal (from_digits 0 (b ∷ bs)) ≡ b ∷ bs
unfolding all from_digits
decimal_only b bs h z =
    let (d, ds) = (and-eq-true_iff (digit b) (all bs digit)).0 h in
    let (low, high) = digit_facts b d in
    let first : decimal (10 * 0 + (b - digit0)) ≡ b ∷ [] = decimal_one (10 * 0 + (b - digit0)) (omega arith) ∙ ap (λ d. d ∷ []) (omega arith) in
    elim (decided (eqb b digit0)) [
      | inl e ↦ rw (z ((equal_iff b digit0).0 e)) first
      | inr e ↦ write_digits bs (10 * 0 + (b - digit0)) (omega (arith, eqb-false b digit0 e)) ds ∙ ap (λ ds. ds ++ bs) first
    ]

-- A number below 10 ^ (k + 1) has at most k + 1 digits.
pub decimal_length : (k n : ℕ) → n < 10 ^ suc k → length (decimal n) ≤ suc k
decimal_length zero n h = rw (decimal_one n (omega arith)) (omega arith)
decimal_length (suc k) n h = elim (dec_le 10 n) [
  | yes g ↦ let p = pow-succ' 10 (suc k) in rw (decimal_more n g) (omega (arith, length-append (decimal (n / 10)) ((digit0 + n % 10) ∷ []), decimal_length k (n / 10) (omega arith)))
  | no g ↦ rw (decimal_one n (omega arith)) (omega arith)
]

is_number_lem : (n : ℕ) (bs : List ℕ) → decimal n ≡ bs → length bs ≤ most_digits → is_number bs ≡ true
unfolding is_number all
is_number_lem n [] e l = let f = (decimal_first n).is in let z : ◌≡◌ {A = ℕ} 0 1 = cc in absurd (omega arith)
is_number_lem n (b ∷ []) e l = ((and-eq-true_iff (digit b) true).0 (sym (ap (λ l. all l digit) e) ∙ decimal_digits n)).0
is_number_lem n (b ∷ c ∷ bs) e l =
    let nonzero = ne_eqb b digit0 (λ z. no_leading_zero n c bs (e ∙ ap (λ d. d ∷ c ∷ bs) z)) in
    (and-eq-true_iff _ _).1 ((and-eq-true_iff _ _).1 (ap not nonzero, sym (ap (λ l. all l digit) e) ∙ decimal_digits n), le-leb (length (b ∷ c ∷ bs)) most_digits l)

-- Numbers of at most that many digits come back as they were.
pub number_decimal : (n : ℕ) → n < 10 ^ most_digits → number (decimal n) ≡ says n
unfolding number ◌>>◌ ◌unless◌
number_decimal n h = rw (is_number_lem n (decimal n) refl (decimal_length (most_digits - 1) n (omega arith))) (ap says (decimal_reads n))

-- What more digits behind m can make.
digits_bound : (bs : List ℕ) (m : ℕ) → all bs digit ≡ true → from_digits m bs < suc m * 10 ^ length bs
unfolding all from_digits
digits_bound [] m h = rw (pow-zero 10) (omega arith)
digits_bound (b ∷ bs) m h =
    let (d, ds) = (and-eq-true_iff (digit b) (all bs digit)).0 h in
    let (low, high) = digit_facts b d in
    let more = mul-le-mul_right {m = suc (10 * m + (b - digit0))} {n = suc m * 10} (10 ^ length bs) (omega arith) in
    rw (pow-succ', ← mul_assoc) (omega (arith, more, digits_bound bs (10 * m + (b - digit0)) ds))

-- What a number must be to be one.
record IsNumber (bs : List ℕ) : Type 0 where
  are_digits : all bs digit ≡ true
  few : length bs ≤ most_digits
  back : decimal (from_digits 0 bs) ≡ bs

number_facts : (bs : List ℕ) → is_number bs ≡ true → IsNumber bs
unfolding is_number all
number_facts [] e = absurd (false≢true e)
number_facts (b ∷ []) e = let ds = (and-eq-true_iff (digit b) true).1 (e, refl) in record { are_digits = ds; few = omega arith; back = decimal_only b [] ds (λ z. refl) }
number_facts (b ∷ c ∷ cs) e =
    let (f, l) = (and-eq-true_iff (not (eqb b digit0) && all (b ∷ c ∷ cs) digit) (leb (length (b ∷ c ∷ cs)) most_digits)).0 e in
    let (z, ds) = (and-eq-true_iff (not (eqb b digit0)) (all (b ∷ c ∷ cs) digit)).0 f in
    record { are_digits = ds; few = leb-true (length (b ∷ c ∷ cs)) most_digits l; back = decimal_only b (c ∷ cs) ds (λ e. absurd (eqb-false b digit0 (not-true (eqb b digit0) z) e)) }

number_small : (bs : List ℕ) → IsNumber bs → from_digits 0 bs < 10 ^ most_digits
number_small bs w = omega (arith, digits_bound bs 0 w.are_digits, pow-le-pow_right {n = 10} (omega arith) w.few)

-- Bytes are the number n exactly when they are n in decimal, of as many digits as a file may have: a number has one spelling.
pub number_exact : (bs : List ℕ) (n : ℕ) → (number bs ≡ says n) ↔ ((decimal n ≡ bs) × (n < 10 ^ most_digits))
unfolding number
number_exact bs n = (
  passed {Q = λ n. (decimal n ≡ bs) × (n < 10 ^ most_digits)} 4 (is_number bs) _ (λ is. let w = number_facts bs is in says_so _ (from_digits 0 bs) (w.back, number_small bs w)) n,
  λ (e, h). rw (← e) (number_decimal n h),
)
