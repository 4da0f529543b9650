-- Classes that may stand for each other: at an argument place, for a variable of a term, for a variable of a rule. A transition counts only if its target is wanted.
use Rattle.std.specs.Prelude.{◌≡◌, true, ◌↔◌, ℕ, suc, ◌<◌, length, get_or, set}
use mathlib.Core.List.{List, Memᴰ}
use Rattle.theory.specs.Term.{Term, Terms, var, node, none, ◌then◌}
use Rattle.theory.specs.Rewriting.{Rule}
use Rattle.theory.specs.Automaton.{Automaton, Transition, ◌of◌gives◌, Gives}
use Rattle.theory.specs.Critical.{entry}
use Rattle.sets.specs.Sets.{mem}

-- At argument p of the symbol f, by these transitions: with c there it is a transition to a wanted target exactly when with d, whatever the other arguments.
pub record AlikeAt (Δ : List Transition) (wanted f p c d : ℕ) : Type 0 where
  pub same : (qs : List ℕ) (q : ℕ) → mem wanted q ≡ true → Memᴰ (f of set qs p c gives q) Δ ↔ Memᴰ (f of set qs p d gives q) Δ

-- The mask has every class that is argument p of a transition of the symbol f to a wanted target.
pub record Calls (Δ : List Transition) (wanted f p mask : ℕ) : Type 0 where
  pub all : (qs : List ℕ) (q : ℕ) → mem wanted q ≡ true → Memᴰ (f of qs gives q) Δ → p < length qs → mem mask (get_or qs p 0) ≡ true

mutual
  -- For the variable x in a term of which these classes are wanted: at every argument place that x has there.
  pub data AlikeIn (Δ : List Transition) (x c d : ℕ) : (wanted : ℕ) → Term ℕ → Type 0 where
    leaf : {wanted y : ℕ} → AlikeIn Δ x c d wanted (var y)
    over : {wanted f : ℕ} {ts : Terms ℕ} → AlikeRow Δ x c d wanted f 0 ts → AlikeIn Δ x c d wanted (node f ts)

  -- The same in a row of arguments of the symbol f, whose first is argument n: of each the classes are wanted that f calls there.
  pub data AlikeRow (Δ : List Transition) (x c d : ℕ) : (wanted f n : ℕ) → Terms ℕ → Type 0 where
    end : {wanted f n : ℕ} → AlikeRow Δ x c d wanted f n none
    more : {wanted f n : ℕ} {t : Term ℕ} {ts : Terms ℕ} (below : ℕ) → (t ≡ var x → AlikeAt Δ wanted f n c d) → Calls Δ wanted f n below
        → AlikeIn Δ x c d below t → AlikeRow Δ x c d wanted f (suc n) ts → AlikeRow Δ x c d wanted f n (t then ts)

-- For the variable x in a whole term, which is not x itself: every target of a transition is wanted of it.
pub record AlikeFor (M : Automaton) (x c d : ℕ) (t : Term ℕ) : Type 0 where
  pub not_bare : t ≡ var x → ⊥
  pub wanted : ℕ
  pub targets : (f : ℕ) (qs : List ℕ) (q : ℕ) → Memᴰ (f of qs gives q) M.transitions → mem wanted q ≡ true
  pub places : AlikeIn M.transitions x c d wanted t

-- The term has the same value with c for x as with d, whatever stands for the other variables.
pub record SameValue (M : Automaton) (x c d : ℕ) (t : Term ℕ) : Type 0 where
  pub same : (σ : List ℕ) (q : ℕ) → Gives M (entry (set σ x c)) t q ↔ Gives M (entry (set σ x d)) t q

-- Both sides of the rule have: all that a search has to know.
pub record SameSides (M : Automaton) (rule : Rule) (x c d : ℕ) : Type 0 where
  pub left : SameValue M x c d rule.left
  pub right : SameValue M x c d rule.right
