-- What is said of substitutions as they stand in a list: which classes are critical, and which comes first.
use mathlib.Core.Path.{◌≡◌}
use mathlib.Core.List.{List, ◌∷◌, ◌++◌, Memᴰ}
use Prim.Native.Nat.{ℕ, suc}
use lib.ListN.{length}
use Rattle.theory.specs.Automaton.{Automaton, Gives}
use Rattle.theory.specs.Critical.{entry}
use Rattle.paper.specs.Computed.{Case}
use Rattle.paper.specs.Meaning.{Smallest}

-- The class q is in the left side's value and not in the right side's.
pub record CriticalFor (M : Automaton) (c : Case) (q : ℕ) : Type 0 where
  pub left : Gives M (entry c.σ) c.rule.left q
  pub not_right : Gives M (entry c.σ) c.rule.right q → ⊥

-- None of these substitutions has a critical pair.
abbrev pub Quiet : Automaton → List Case → Type 0
Quiet M cs = (c : Case) → Memᴰ c cs → (q : ℕ) → CriticalFor M c q → ⊥

-- The first of them that has one, with its smallest class: none before it has one, and its place is counted from 1.
pub record FirstListed (M : Automaton) (cs : List Case) (rule : ℕ) (xs : List ℕ) (class examined : ℕ) : Type 0 where
  pub before : List Case
  pub rest : List Case
  pub this : Case
  pub split : before ++ (this ∷ rest) ≡ cs
  pub quiet : Quiet M before
  pub number : this.number ≡ rule
  pub classes : this.σ ≡ xs
  pub smallest : Smallest (CriticalFor M this) class
  pub place : examined ≡ suc (length before)
