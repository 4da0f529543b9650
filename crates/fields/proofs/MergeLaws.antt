-- The line `merge`, from what the code finds: a pass over the numbers that were read.
use mathlib.Core.Path.{◌≡◌, refl, ap}
use mathlib.Core.Bool.{true, false}
use mathlib.Core.List.{List, [], ◌∷◌}
use Prim.Native.Nat.{ℕ, ◌+◌, ◌≤◌, ◌<◌}
use native.Mathlib.Nat.{le_of_suc-le-suc}
use native.Mathlib.Omega.{arith}
use borrow.Author.Tests.{lt-ltb, le-ltb, eq-eqb, ne_eqb}
use lib.ListN.{length, drop, take, get_or, replicate, length-replicate}
use Rattle.std.specs.declared.option.Option.TheVariants.{Some, None}
use Rattle.verdicts.specs.declared.refusals.Reason.TheVariants.{WrongCount, Misnumbered}
use Rattle.fields.specs.Listed.{laid}
use Rattle.fields.specs.Merge.{bump, numbered, merge_check}
use Rattle.fields.proofs.Rest.{rest_end, rest_cons}

-- the pass at the number at i, where there are k classes before it
module _ (items : List ℕ) (i k : ℕ) (inside : i < length items) where
  pub class_above : k < get_or items i 0 → numbered k (drop i items) ≡ false
  unfolding numbered
  class_above h = rw (rest_cons items i inside, lt-ltb _ _ h, numbered)

  pub class_new : get_or items i 0 ≡ k → numbered k (drop i items) ≡ numbered (k + 1) (drop (i + 1) items)
  unfolding numbered bump
  class_new h = rw (rest_cons items i inside, le-ltb k (get_or items i 0) (omega arith), eq-eqb _ _ h, numbered, bump)

  pub class_seen : get_or items i 0 ≤ k → (get_or items i 0 ≡ k → ⊥) → numbered k (drop i items) ≡ numbered k (drop (i + 1) items)
  unfolding numbered bump
  class_seen h n = rw (rest_cons items i inside, le-ltb _ _ h, ne_eqb _ _ n, numbered, bump)

pub class_none : (items : List ℕ) (i k : ℕ) → length items ≤ i → numbered k (drop i items) ≡ true
unfolding numbered
class_none items i k h = rw (rest_end items i h)

take_laid : (ns zs : List ℕ) → length ns ≤ length zs → take (length ns) (laid ns zs) ≡ ns
unfolding laid
take_laid [] [] h = refl
take_laid [] (z ∷ zs) h = refl
take_laid (v ∷ ns) [] h = absurd (omega arith)
take_laid (v ∷ ns) (z ∷ zs) h = ap (λ (l : List ℕ). v ∷ l) (take_laid ns zs (le_of_suc-le-suc h))

pub take_items : (ns items : List ℕ) (n : ℕ) → n ≡ length ns → n ≤ 64 → items ≡ laid ns (replicate 64 0) → take n items ≡ ns
take_items ns items n e h i = rw (e, i) (take_laid ns (replicate 64 0) (omega (arith, length-replicate {A = ℕ} 64 0)))

pub merge_count : (states : ℕ) (ns : List ℕ) → (length ns ≡ states → ⊥) → merge_check states ns ≡ Some WrongCount
unfolding merge_check
merge_count states ns h = rw (ne_eqb _ _ h, merge_check)

pub merge_ok : (states : ℕ) (ns : List ℕ) → length ns ≡ states → numbered 0 ns ≡ true → merge_check states ns ≡ None
unfolding merge_check
merge_ok states ns h p = rw (eq-eqb _ _ h, p, merge_check)

pub merge_not : (states : ℕ) (ns : List ℕ) → length ns ≡ states → numbered 0 ns ≡ false → merge_check states ns ≡ Some Misnumbered
unfolding merge_check
merge_not states ns h p = rw (eq-eqb _ _ h, p, merge_check)
