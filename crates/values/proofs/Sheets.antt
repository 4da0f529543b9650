-- Sheets of rows: what a change leaves out keeps its lanes.
use mathlib.Core.Path.{◌≡◌, sym, ap, ◌∙◌, fun_ext}
use mathlib.Core.Bool.{cond, ◌&&◌}
use mathlib.Core.Logic.{◌⊎◌, inl, inr}
use mathlib.Core.List.{List, []}
use Prim.Native.Nat.{ℕ, suc, ◌+◌, ◌-◌, ◌*◌, ◌≤◌, ◌<◌}
use native.Mathlib.Nat.{mul-le-mul_right}
use native.Mathlib.Decide.{dec_lt}
use native.Mathlib.Omega.{arith}
use lib.Dec.{ltb}
use lib.ListN.{get_or}
use borrow.Author.Tests.{lt-ltb, le-ltb}
use Rattle.values.specs.Lanes.{lit, lane, sheet_of, given}
use Rattle.values.specs.Rows.{Apart, Within}

-- Only rows of the sheets from `lo` on and before `hi` are changed.
abbrev pub Same : (k lo hi : ℕ) → (m after : List (List ℕ)) → Type 0
Same k lo hi m after = (i : ℕ) → (i < lo * k) ⊎ (hi * k ≤ i) → get_or after i [] ≡ get_or m i []

module _ (k : ℕ) where
  -- A row of a sheet outside them.
  beyond : (b lo hi q : ℕ) → q < k → (b < lo) ⊎ (hi ≤ b) → (b * k + q < lo * k) ⊎ (hi * k ≤ b * k + q)
  beyond b lo hi q h (inl l) = inl (omega (arith, mul-le-mul_right {m = suc b} {n = lo} k l))
  beyond b lo hi q h (inr l) = inr (omega (arith, mul-le-mul_right {m = hi} {n = b} k l))

  pub same_lane : (m after : List (List ℕ)) (a l : ℕ) → ((q : ℕ) → q < k → get_or after (a + q) [] ≡ get_or m (a + q) []) → lane k after a l ≡ lane k m a l
  same_lane m after a l e = fun_ext (λ q. elim (dec_lt q k) [
    | yes h ↦ ap (λ (row : List ℕ). ltb q k && lit row l) (e q h)
    | no n ↦ ap (λ b. b && lit (get_or after (a + q) []) l) (le-ltb q k (omega arith)) ∙ sym (ap (λ b. b && lit (get_or m (a + q) []) l) (le-ltb q k (omega arith)))
  ])

  module _ (lo hi : ℕ) (m after : List (List ℕ)) (same : Same k lo hi m after) where
    pub sheet_same : (b l : ℕ) → (b < lo) ⊎ (hi ≤ b) → lane k after (b * k) l ≡ lane k m (b * k) l
    sheet_same b l w = same_lane m after (b * k) l (λ q h. same (b * k + q) (beyond b lo hi q h w))

    -- So the variables keep their sets.
    pub given_same : hi ≤ 48 → (l : ℕ) → given k after l ≡ given k m l
    unfolding given
    given_same h l = fun_ext (λ x. sheet_same (48 + x) l (inr (omega arith)))

    pub same_wider : (low high : ℕ) → low ≤ lo → hi ≤ high → Same k low high m after
    same_wider low high hl hh i (inl h) = same i (inl (omega (arith, mul-le-mul_right {m = low} {n = lo} k hl)))
    same_wider low high hl hh i (inr h) = same i (inr (omega (arith, mul-le-mul_right {m = hi} {n = high} k hh)))

  -- Only rows of one sheet.
  pub same_rows : (at : ℕ) (m after : List (List ℕ)) → ((i : ℕ) → (i < at * k) ⊎ (at * k + k ≤ i) → get_or after i [] ≡ get_or m i []) → Same k at (at + 1) m after
  same_rows at m after e i (inl h) = e i (inl h)
  same_rows at m after e i (inr h) = e i (inr (omega arith))

  pub same_within : (at : ℕ) (m after : List (List ℕ)) → Within k m (at * k) after → Same k at (at + 1) m after
  same_within at m after w = same_rows at m after w.same

  pub same_then : (lo hi : ℕ) (m mid after : List (List ℕ)) → Same k lo hi m mid → Same k lo hi mid after → Same k lo hi m after
  same_then lo hi m mid after e f i h = f i h ∙ e i h

  -- Sheets of other places have no row in common.
  pub apart : (b c : ℕ) → (b < c) ⊎ (c < b) → Apart k (b * k) (c * k)
  apart b c (inl h) p q hp hq e = omega (arith, mul-le-mul_right {m = suc b} {n = c} k h)
  apart b c (inr h) p q hp hq e = omega (arith, mul-le-mul_right {m = suc c} {n = b} k h)

  pub room : (b : ℕ) {n : ℕ} → b < 52 → 52 * k ≤ n → b * k + k ≤ n
  room b h long = omega (arith, mul-le-mul_right {m = suc b} {n = 52} k h)

-- The sheet of a symbol is its place's, and that of a variable comes behind all places.
module _ (tokens : List ℕ) (at : ℕ) where
  pub sheet_symbol : get_or tokens at 0 < 64 → sheet_of tokens at ≡ at
  unfolding sheet_of
  sheet_symbol h = ap (λ b. cond b at (get_or tokens at 0 - 16)) (lt-ltb (get_or tokens at 0) 64 h)

  pub sheet_variable : 64 ≤ get_or tokens at 0 → sheet_of tokens at ≡ get_or tokens at 0 - 16
  unfolding sheet_of
  sheet_variable h = ap (λ b. cond b at (get_or tokens at 0 - 16)) (le-ltb (get_or tokens at 0) 64 h)

  pub sheet_where : (sheet_of tokens at ≡ at) ⊎ (48 ≤ sheet_of tokens at)
  sheet_where = elim (dec_lt (get_or tokens at 0) 64) [
    | yes h ↦ inl (sheet_symbol h)
    | no n ↦ inr (omega (arith, sheet_variable (omega arith)))
  ]
