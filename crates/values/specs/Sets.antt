-- The value of a term where each variable has a set of classes.
use Rattle.std.specs.Prelude.{Bool, true, false, ◌&&◌, List, [], ◌∷◌, ℕ, eqb}
use Rattle.theory.specs.Lists.{any}
use Rattle.theory.specs.Term.{Term, Terms, var, node, none, ◌then◌}
use Rattle.theory.specs.Automaton.{Transition}
use Rattle.sets.specs.Sets.{Set}

-- There are as many classes as sets, each in the set at its place.
unfoldable pub drawn : List Set → List ℕ → Bool
drawn [] [] = true
drawn [] (q ∷ qs) = false
drawn (s ∷ ss) [] = false
drawn (s ∷ ss) (q ∷ qs) = s q && drawn ss qs

-- The transition is one of f to q whose arguments are drawn from the sets.
unfoldable pub fires : ℕ → List Set → ℕ → Transition → Bool
fires f ss q tr = eqb tr.symbol f && eqb tr.target q && drawn ss tr.arguments

-- Every class that some transition of f gives for arguments drawn from the sets.
unfoldable pub gathered : List Transition → ℕ → List Set → Set
gathered Δ f ss q = any Δ (fires f ss q)

unfoldable mutual
  -- The classes that a term has where the variable x may have any class of the set ρ x.
  pub spanned : List Transition → (ℕ → Set) → Term ℕ → Set
  spanned Δ ρ (var x) = ρ x
  spanned Δ ρ (node f ts) = gathered Δ f (spanned_all Δ ρ ts)

  -- The same for each term of a row.
  pub spanned_all : List Transition → (ℕ → Set) → Terms ℕ → List Set
  spanned_all Δ ρ none = []
  spanned_all Δ ρ (t then ts) = spanned Δ ρ t ∷ spanned_all Δ ρ ts
