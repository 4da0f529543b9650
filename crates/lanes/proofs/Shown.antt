-- The classes that a critical pair shows: class numbers below 64 stand, and 255 ends them, with nothing but 255 behind it.
use mathlib.Core.Path.{◌≡◌, refl}
use mathlib.Core.List.{List, []}
use Prim.Native.Nat.{ℕ, zero, suc, ◌<◌}
use native.Mathlib.Omega.{arith}
use Rattle.verdicts.specs.Said.{class_then, classes_of, Ended}
use Rattle.verdicts.proofs.Told.{shown_class}
use Rattle.lanes.specs.Prefixes.{chosen, pair_of}

no_class : (xs : List ℕ) → class_then 255 xs ≡ []
unfolding class_then
no_class xs = refl

module _ (rule x0 x1 x2 j q : ℕ) (low0 : x0 < 64) (low1 : x1 < 64) (low2 : x2 < 64) (low : j < 64) where
  pub pair_classes : (v : ℕ) → classes_of (pair_of rule v x0 x1 x2 j q) ≡ chosen v x0 x1 x2 j
  unfolding classes_of pair_of chosen
  pair_classes zero = no_class _
  pair_classes (suc zero) = shown_class j _ _ (omega arith) (no_class _)
  pair_classes (suc (suc zero)) = shown_class x0 _ _ (omega arith) (shown_class j _ _ (omega arith) (no_class _))
  pair_classes (suc (suc (suc zero))) = shown_class x0 _ _ (omega arith) (shown_class x1 _ _ (omega arith) (shown_class j _ _ (omega arith) (no_class _)))
  pair_classes (suc (suc (suc (suc v)))) = shown_class x0 _ _ (omega arith) (shown_class x1 _ _ (omega arith) (shown_class x2 _ _ (omega arith) (shown_class j _ _ (omega arith) refl)))

  pub pair_ended : (v : ℕ) → Ended (pair_of rule v x0 x1 x2 j q)
  unfolding pair_of chosen
  pair_ended zero = record { after_x0 = λ e. refl; after_x1 = λ e. refl; after_x2 = λ e. refl }
  pair_ended (suc zero) = record { after_x0 = λ e. refl; after_x1 = λ e. refl; after_x2 = λ e. refl }
  pair_ended (suc (suc zero)) = record { after_x0 = λ e. absurd (omega arith); after_x1 = λ e. refl; after_x2 = λ e. refl }
  pair_ended (suc (suc (suc zero))) = record { after_x0 = λ e. absurd (omega arith); after_x1 = λ e. absurd (omega arith); after_x2 = λ e. refl }
  pair_ended (suc (suc (suc (suc v)))) = record { after_x0 = λ e. absurd (omega arith); after_x1 = λ e. absurd (omega arith); after_x2 = λ e. absurd (omega arith) }
