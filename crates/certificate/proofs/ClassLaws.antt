-- The number of classes: the largest entry plus one.
use Rattle.std.proofs.Common.{◌≡◌, ℕ, ◌+◌, max, List, [], ◌∷◌, refl, ap, ◌∙◌, arith}
use Rattle.std.specs.Option.{unwrap_or}
use Rattle.std.specs.List.{reduce, fold}
use Rattle.theory.specs.Automaton.{largest, classes}

fold_largest : (m : ℕ) (xs : List ℕ) → fold max m xs ≡ max m (largest xs)
unfolding largest
fold_largest m [] = omega arith
fold_largest m (x ∷ xs) = fold_largest (max m x) xs ∙ omega arith

pub classes_are : (xs : List ℕ) → unwrap_or (reduce max xs) 0 + 1 ≡ classes xs
unfolding largest classes
classes_are [] = refl
classes_are (x ∷ xs) = ap (λ n. n + 1) (fold_largest x xs) ∙ omega arith
