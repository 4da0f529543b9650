-- The merged table is fixed: two results that the contract allows are equal.
use mathlib.Core.Path.{◌≡◌, sym, ◌∙◌}
use mathlib.Core.List.{List}
use Prim.Native.Nat.{ℕ, ◌≤◌}
use native.Mathlib.Decide.{dec_lt}
use native.Mathlib.Omega.{arith}
use lib.ListN.{get_or}
use lib.Seq.{ext_get_or}
use Rattle.judge.specs.Merged.{Merged}

pub one_merged : (rows merge : List ℕ) (n : ℕ) (xs ys : List ℕ) → Merged rows merge n xs → Merged rows merge n ys → xs ≡ ys
one_merged rows merge n xs ys a b = ext_get_or 0 xs ys (a.long ∙ sym b.long) (λ i l. each i)
  where
    each : (i : ℕ) → get_or xs i 0 ≡ get_or ys i 0
    each i = elim (dec_lt i n) [
      | yes l ↦ a.each i l ∙ sym (b.each i l)
      | no l ↦ let p : n ≤ i = omega arith in a.rest i p ∙ sym (b.rest i p)
    ]
