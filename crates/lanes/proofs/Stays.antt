-- What stays where rows are changed: the sets of the variables whose rows are not.
use mathlib.Core.Path.{◌≡◌, ◌∙◌}
use mathlib.Core.Logic.{◌⊎◌, inl, inr}
use mathlib.Core.List.{List, []}
use Prim.Native.Nat.{ℕ, suc, ◌+◌, ◌*◌, ◌≤◌, ◌<◌}
use native.Mathlib.Nat.{mul-le-mul_right}
use native.Mathlib.Decide.{dec_lt}
use native.Mathlib.Omega.{arith}
use lib.ListN.{length, get_or}
use Rattle.values.specs.Lanes.{given}
use Rattle.values.proofs.Sheets.{same_lane}
use Rattle.lanes.specs.Batches.{Touched, Fixed, BothTouched, Untouched}

module _ (k : ℕ) (m after : List (List ℕ)) where
  -- The rows of the variable x are as they were.
  abbrev pub SameRows : ℕ → Type 0
  SameRows x = (q : ℕ) → q < k → get_or after ((48 + x) * k + q) [] ≡ get_or m ((48 + x) * k + q) []

  pub given_stays : (x l : ℕ) → SameRows x → given k after l x ≡ given k m l x
  unfolding given
  given_stays x l same = same_lane k m after ((48 + x) * k) l same

  pub fixed_stays : (xs : List ℕ) → ((x : ℕ) → x < length xs → SameRows x) → Fixed k m xs → Fixed k after xs
  fixed_stays xs same old = record { each = λ x l hx hl. given_stays x l (same x hx) ∙ old.each x l hx hl }

  -- Those of a prefix, where two variables behind it are paired.
  pub paired_stays : (hi lo : ℕ) (xs : List ℕ) → length xs ≤ hi → length xs ≤ lo → length xs ≤ 4 → BothTouched k hi lo m after → Fixed k m xs → Fixed k after xs
  paired_stays hi lo xs below_hi below_lo few both = fixed_stays xs (λ x hx q hq. both.others x q (omega arith) hq (λ e. omega arith) (λ e. omega arith))

  pub touched_rows : (first last : ℕ) → Touched k first last m after → (x : ℕ) → (x < first) ⊎ (last ≤ x) → SameRows x
  touched_rows first last t x (inl h) q hq = t.same ((48 + x) * k + q) (inl (omega (arith, mul-le-mul_right {m = suc x} {n = first} k h)))
  touched_rows first last t x (inr h) q hq = t.same ((48 + x) * k + q) (inr (omega (arith, mul-le-mul_right {m = last} {n = x} k h)))

  -- Rows of another variable.
  pub other_rows : (own : ℕ) → Touched k own (own + 1) m after → (x : ℕ) → (x ≡ own → ⊥) → SameRows x
  other_rows own t x ne = touched_rows own (own + 1) t x (elim (dec_lt x own) [ yes h ↦ inl h | no nh ↦ inr (omega arith) ])

  pub untouched_rows : Untouched k m after → (x : ℕ) → SameRows x
  untouched_rows u x q hq = u.same ((48 + x) * k + q) (omega arith)
