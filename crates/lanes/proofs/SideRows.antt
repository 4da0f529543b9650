-- Rows and sheets of the two sides: words joined one after the other, a row made by a difference, and what a row says of a lane of its sheet.
use mathlib.Core.Path.{◌≡◌, sym, ap, ap₂, ◌∙◌}
use mathlib.Core.Bool.{false, not, ◌&&◌}
use mathlib.Core.List.{List, []}
use Prim.Native.Nat.{ℕ, ◌+◌, ◌-◌, ◌/◌, ◌%◌, ◌≤◌, ◌<◌}
use native.Mathlib.Decide.{dec_lt}
use native.Mathlib.Omega.{arith}
use lib.Bits.{bit_or}
use lib.ListN.{length, get_or, take, drop, length-take, length-drop}
use lib.Seq.{get_or-take}
use borrow.Author.Count.{below_more}
use borrow.Author.Tests.{lt-ltb, le-ltb}
use Rattle.std.specs.List.{AllWithin, zip}
use Rattle.std.proofs.Common.{get_or-drop}
use Rattle.std.proofs.lemmas.Slice.Zip.{length-zip, get_or-zip}
use Rattle.theory.proofs.Bools.{and_off, and_on, neither}
use Rattle.sets.specs.Sets.{mem, less}
use Rattle.sets.proofs.Laws.{mem-or}
use Rattle.values.specs.Lanes.{lit, lane}

-- What is missing in the word is missing in each of the first n words.
abbrev pub Missed : (ℕ → ℕ) → (n all : ℕ) → Type 0
Missed F n all = (p : ℕ) → p < n → (j : ℕ) → mem all j ≡ false → mem (F p) j ≡ false

pub missed_more : (F : ℕ → ℕ) (n all : ℕ) → Missed F n all → Missed F (n + 1) (bit_or all (F n))
missed_more F n all old = below_more _ n (λ p h j e. old p h j (both j e).0) (λ j e. (both j e).1)
  where
    both : (j : ℕ) → mem (bit_or all (F n)) j ≡ false → (mem all j ≡ false) × (mem (F n) j ≡ false)
    both j e = neither (mem all j) (mem (F n) j) (sym (mem-or all (F n) j) ∙ e)

-- A lane of the first 64 is in the row's first word.
pub lit_low : (row : List ℕ) (j : ℕ) → j < 64 → lit row j ≡ mem (get_or row 0 0) j
lit_low row j h =
    let first : j / 64 ≡ 0 = omega arith in
    let place : j % 64 ≡ j = omega arith in
    ap₂ (λ w b. mem (get_or row w 0) b) first place

-- The left side's sheet is the first: its rows are the first k.
module _ (k : ℕ) (m : List (List ℕ)) (l q : ℕ) where
  lane_in : (a : ℕ) → q < k → lane k m a l q ≡ lit (get_or m (a + q) []) l
  lane_in a h = and_on _ _ (lt-ltb q k h)

  lane_out : (a : ℕ) → k ≤ q → lane k m a l q ≡ false
  lane_out a h = and_off _ _ (le-ltb q k h)

  left_in : q < k → lane k m 0 l q ≡ lit (get_or m q []) l
  left_in h = let same : 0 + q ≡ q = omega arith in lane_in 0 h ∙ ap (λ i. lit (get_or m i []) l) same

  -- No row of the left side is lit, so its lane is empty.
  pub left_dark : (q < k → lit (get_or m q []) l ≡ false) → lane k m 0 l q ≡ false
  left_dark dark = elim (dec_lt q k) [
    | yes h ↦ left_in h ∙ dark h
    | no nh ↦ lane_out 0 (omega arith)
  ]

  pub less_in : (b : ℕ) → q < k → less (lane k m 0 l) (lane k m b l) q ≡ (lit (get_or m q []) l && not (lit (get_or m (b + q) []) l))
  less_in b h = ap₂ (λ x y. x && not y) (left_in h) (lane_in b h)

-- In no row has the left side's sheet a lane that the sheet at row b has not.
abbrev pub Beside : (k b : ℕ) → List (List ℕ) → List (List ℕ × List ℕ)
Beside k b m = zip (take k m) (take (b + k - b) (drop b m))

pub less_dark : (k b : ℕ) (m : List (List ℕ)) → k ≤ length m → b + k ≤ length m
    → AllWithin (λ p. (l : ℕ) → l < 512 → (lit p.0 l && not (lit p.1 l)) ≡ false) (Beside k b m) 0 (length (Beside k b m))
    → (l q : ℕ) → l < 512 → less (lane k m 0 l) (lane k m b l) q ≡ false
less_dark k b m left right dark l q h = elim (dec_lt q k) [
  | yes low ↦
      let one : q < length (take k m) = omega (arith, length-take k m) in
      let other : q < length (take (b + k - b) (drop b m)) = omega (arith, length-take (b + k - b) (drop b m), length-drop b m) in
      let inside : q < length (Beside k b m) = omega (arith, length-zip (take k m) (take (b + k - b) (drop b m))) in
      let both = get_or-zip (take k m) (take (b + k - b) (drop b m)) q ([], []) one other in
      less_in k m l q b low ∙ rw (both, get_or-take k m q [] low, get_or-take (b + k - b) (drop b m) q [] (omega arith), get_or-drop b m q []) at (dark q ([], []) (omega arith) inside l h)
  | no past ↦ and_off _ _ (lane_out k m l q 0 (omega arith))
]
