-- How many choices are left, and how many substitutions they make.
use mathlib.Core.Path.{◌≡◌, sym, ap, ◌∙◌}
use mathlib.Core.Bool.{cond}
use Prim.Native.Nat.{ℕ, zero, suc, ◌+◌, ◌-◌, ◌*◌, ◌^◌, ◌≤◌, ◌<◌, max, min}
use native.Mathlib.Nat.{pow-suc, pow-zero, one-mul, mul_comm, mul-le-mul}
use native.Mathlib.Decide.{dec_lt}
use native.Mathlib.Omega.{arith}
use borrow.Author.Tests.{lt-ltb, le-ltb}
use Rattle.lanes.specs.Prefixes.{rest, choices}

module _ (k : ℕ) where
  pub pow_1 : k ^ 1 ≡ k
  pow_1 = pow-suc k 0 ∙ ap (λ n. n * k) (pow-zero k) ∙ one-mul k

  pub pow_2 : k ^ 2 ≡ k * k
  pow_2 = pow-suc k 1 ∙ ap (λ n. n * k) pow_1

  pub pow_3 : k ^ 3 ≡ k * k * k
  pow_3 = pow-suc k 2 ∙ ap (λ n. n * k) pow_2

  pub square_low : k ≤ 64 → k * k ≤ 4096
  square_low h = mul-le-mul h h

  pub cube_low : k ≤ 64 → k * k * k ≤ 262144
  cube_low h = mul-le-mul (square_low h) h

-- The powers of the choices that are left are small.
pub power_low : (k n : ℕ) → k ≤ 64 → n ≤ 3 → k ^ n ≤ 262144
power_low k zero h l = omega (arith, pow-zero k)
power_low k (suc zero) h l = omega (arith, pow_1 k)
power_low k (suc (suc zero)) h l = omega (arith, pow_2 k, square_low k h)
power_low k (suc (suc (suc zero))) h l = omega (arith, pow_3 k, cube_low k h)
power_low k (suc (suc (suc (suc n)))) h l = absurd (omega arith)

pub rest_few : (v i : ℕ) → v ≤ 4 → 0 < i → rest v i ≤ 3
unfolding rest
rest_few v i h l = omega arith

pub rest_all : (v : ℕ) → rest v 0 ≡ v
unfolding rest
rest_all v = omega arith

pub rest_last : (k v : ℕ) → suc v ≤ 4 → k ^ rest (suc v) 3 ≡ k
unfolding rest
rest_last k v h = let one : max (suc v - 3) (min (suc v) 1) ≡ 1 = omega arith in ap (λ n. k ^ n) one ∙ pow_1 k

module _ (k v i : ℕ) where
  -- The variable i is one before the last, or it is not.
  pub choices_in : i + 1 < v → choices k v i ≡ k
  unfolding choices
  choices_in h = ap (λ b. cond b k 1) (lt-ltb (i + 1) v h)

  pub choices_out : v ≤ i + 1 → choices k v i ≡ 1
  unfolding choices
  choices_out h = ap (λ b. cond b k 1) (le-ltb (i + 1) v h)

  pub rest_in : i + 1 < v → rest v i ≡ suc (rest v (i + 1))
  unfolding rest
  rest_in h = omega arith

  pub rest_out : v ≤ i + 1 → rest v i ≡ rest v (i + 1)
  unfolding rest
  rest_out h = omega arith

  -- All choices of the variable i together.
  pub all_choices : choices k v i * k ^ rest v (i + 1) ≡ k ^ rest v i
  all_choices = elim (dec_lt (i + 1) v) [
    | yes h ↦ rw (choices_in h, rest_in h) (mul_comm k (k ^ rest v (i + 1)) ∙ sym (pow-suc k (rest v (i + 1))))
    | no nh ↦ rw (choices_out (omega arith), rest_out (omega arith)) (one-mul (k ^ rest v (i + 1)))
  ]

  pub choices_low : 1 ≤ k → choices k v i ≤ k
  choices_low h = elim (dec_lt (i + 1) v) [
    | yes l ↦ omega (arith, choices_in l)
    | no nl ↦ omega (arith, choices_out (omega arith))
  ]

-- A lane of a batch is a class of the last variable, and 0 where there is no variable.
pub lane_low : (k v j : ℕ) → k ≤ 64 → v ≤ 4 → j < k ^ rest v 3 → (j < 64) × (v ≡ 0 → j ≡ 0)
unfolding rest
lane_low k zero j h l b = (omega (arith, pow-zero k), λ e. omega (arith, pow-zero k))
lane_low k (suc v) j h l b = (omega (arith, rest_last k v l), λ e. absurd (omega arith))
