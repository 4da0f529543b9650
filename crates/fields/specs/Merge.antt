-- The line `merge`: one class for each state, and each class at most one more than the largest before it.
use Rattle.std.specs.Prelude.{ℕ, ◌+◌, List, [], ◌∷◌, Bool, true, false, eqb, ltb, length, Option, Some, None}
use Rattle.verdicts.specs.declared.refusals.Reason.{Reason}
use Rattle.verdicts.specs.declared.refusals.Reason.TheVariants.{WrongCount, Misnumbered}

-- the number of classes once v is seen, where there were k
unfoldable pub bump : ℕ → ℕ → ℕ
bump k v = elim (eqb v k) [ true ↦ k + 1 | false ↦ k ]

-- each is at most the number of classes before it, k at the start
unfoldable pub numbered : ℕ → List ℕ → Bool
numbered k [] = true
numbered k (v ∷ ns) = elim (ltb k v) [ true ↦ false | false ↦ numbered (bump k v) ns ]

-- one class for each state, numbered in order
unfoldable pub merge_check : ℕ → List ℕ → Option Reason
merge_check states ns = elim (eqb (length ns) states) [ true ↦ elim (numbered 0 ns) [ true ↦ None | false ↦ Some Misnumbered ] | false ↦ Some WrongCount ]
