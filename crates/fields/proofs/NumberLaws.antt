-- What `number_from` says at each kind of byte, over the rest of a file; and the bounds of a number of n digits.
use mathlib.Core.Path.{◌≡◌}
use mathlib.Core.Bool.{true, false}
use mathlib.Core.List.{List}
use Prim.Native.Nat.{ℕ, ◌+◌, ◌*◌, ◌-◌, ◌^◌, ◌≤◌, ◌<◌}
use native.Mathlib.Numerals.{add-one}
use native.Mathlib.Nat.{pow-suc, pow-le-pow_right}
use native.Mathlib.Omega.{arith}
use borrow.Author.Tests.{leb-true, leb-false, eq-eqb}
use native.Mathlib.Decide.{ℕ_discrete}
use lib.Dec.{leb}
use lib.ListN.{length, drop, get_or}
use Rattle.std.specs.Char.{is_ascii_digit}
use Rattle.std.specs.declared.option.Option.TheVariants.{None}
use Rattle.fields.specs.Number.{is_digit, full, ended, number_from}
use Rattle.fields.proofs.Rest.{rest_end, rest_cons}
use Rattle.theory.proofs.Bools.{and_both, neither}

pub digit_least : (b : ℕ) → is_digit b ≡ true → 48 ≤ b
unfolding is_digit
digit_least b h = leb-true _ _ (and_both (leb 48 b) _ h).0

pub not_full : (n v : ℕ) → full n v ≡ false → n < 8
unfolding full
not_full n v h = leb-false _ _ (neither (leb 8 n) _ h).0

-- a number of n digits is below 10 ^ n, and of at most seven it has room for one more
pub room : (n v : ℕ) → n < 8 → v < 10 ^ n → v < 10000000
room n v h l = omega (arith, pow-le-pow_right {n = 10} (omega arith) {i = n} {j = 7} (omega arith))

pub grows : (n v d : ℕ) → v < 10 ^ n → d ≤ 9 → v * 10 + d < 10 ^ (n + 1)
grows n v d l m = rw (add-one, pow-suc) (omega arith)

module _ (file : List ℕ) (n v at : ℕ) where
  -- a number has begun before the file's end, or it is none
  pub number_end : length file ≤ at → (0 < n → at ≤ length file) → ended n v (length file) ≡ number_from n v at (drop at file)
  unfolding number_from ended
  number_end h g = rw (rest_end file at h) (elim (ℕ_discrete n 0) [
    | yes z ↦ rw (eq-eqb n 0 z)
    | no z ↦ let e : length file ≡ at = omega (arith, g (omega arith)) in rw e
  ])

  pub number_stop : at < length file → is_ascii_digit (get_or file at 0) ≡ false → number_from n v at (drop at file) ≡ ended n v at
  unfolding number_from is_digit
  number_stop h d = rw (rest_cons file at h, d, number_from)

  pub number_full : at < length file → is_ascii_digit (get_or file at 0) ≡ true → full n v ≡ true → number_from n v at (drop at file) ≡ None
  unfolding number_from is_digit
  number_full h d f = rw (rest_cons file at h, d, f, number_from)

  pub number_more : at < length file → is_ascii_digit (get_or file at 0) ≡ true → full n v ≡ false
      → number_from n v at (drop at file) ≡ number_from (n + 1) (v * 10 + (get_or file at 0 - 48)) (at + 1) (drop (at + 1) file)
  unfolding number_from is_digit
  number_more h d f = rw (rest_cons file at h, d, f, number_from)
