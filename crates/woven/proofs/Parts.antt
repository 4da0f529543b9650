-- What was packed into a word is read out of it, and of two words the larger has the larger symbol, and then the larger target.
use mathlib.Core.Path.{◌≡◌}
use mathlib.Core.List.{List}
use Prim.Native.Nat.{ℕ, ◌+◌, ◌*◌, ◌≤◌, ◌<◌}
use native.Mathlib.Omega.{arith}
use lib.ListN.{get_or}
use Rattle.woven.specs.Woven.{part, packed, symbol_at, word_at}

-- The five numbers that stand in a word.
pub record Parts (w a b c t f : ℕ) : Type 0 where
  pub first : part w 0 ≡ a
  pub second : part w 1 ≡ b
  pub third : part w 2 ≡ c
  pub target : part w 3 ≡ t
  pub symbol : part w 4 ≡ f

pub unpacked : (a b c t f : ℕ) → a < 64 → b < 64 → c < 64 → t < 64 → f < 64 → Parts (packed a b c t f) a b c t f
unfolding part packed
unpacked a b c t f ha hb hc ht hf = record { first = omega arith; second = omega arith; third = omega arith; target = omega arith; symbol = omega arith }

-- Which numbers are words of the symbol f.
pub symbol_between : (w f : ℕ) → f < 64 → f * 4294967296 ≤ w → w < (f + 1) * 4294967296 → part w 4 ≡ f
unfolding part
symbol_between w f h lo hi = omega arith

module _ (rows : List ℕ) where
  -- The word of a row, taken apart.
  pub word_parts : (i : ℕ) → ((x : ℕ) → get_or rows x 0 < 64) →
      Parts (word_at rows i) (get_or rows (i * 5 + 1) 0) (get_or rows (i * 5 + 2) 0) (get_or rows (i * 5 + 3) 0) (get_or rows (i * 5 + 4) 0) (symbol_at rows i)
  unfolding word_at symbol_at
  word_parts i small = unpacked _ _ _ _ _ (small (i * 5 + 1)) (small (i * 5 + 2)) (small (i * 5 + 3)) (small (i * 5 + 4)) (small (i * 5))

  pub word_below : (i : ℕ) → ((x : ℕ) → get_or rows x 0 < 64) → word_at rows i < 64 * 4294967296
  unfolding word_at symbol_at packed
  word_below i small = omega (arith, small (i * 5 + 1), small (i * 5 + 2), small (i * 5 + 3), small (i * 5 + 4), small (i * 5))

  pub targets_rise : ((x : ℕ) → get_or rows x 0 < 64) → (i j : ℕ) → word_at rows i < word_at rows j
      → part (word_at rows i) 4 ≡ part (word_at rows j) 4 → part (word_at rows i) 3 ≤ part (word_at rows j) 3
  unfolding word_at symbol_at packed
  targets_rise small i j l e =
      let p = word_parts i small in
      let q = word_parts j small in
      omega (arith, p.target, q.target, p.symbol, q.symbol, small (i * 5 + 1), small (i * 5 + 2), small (i * 5 + 3), small (j * 5 + 1), small (j * 5 + 2), small (j * 5 + 3))
