-- The classes of a rule's variable that have to be looked at.
use Rattle.std.specs.Prelude.{◌≡◌, true, false, List, ℕ, ◌<◌, length, get_or}
use Rattle.theory.specs.Term.{var}
use Rattle.theory.specs.Rewriting.{Rule}
use Rattle.theory.specs.Preorder.{Token}
use Rattle.theory.specs.Automaton.{Automaton}
use Rattle.sets.specs.Sets.{mem}
use Rattle.woven.specs.Woven.{woven_moves}
use Rattle.values.specs.Standing.{Spells}
use Rattle.alike.specs.Alike.{SameSides}
use Rattle.alike.specs.Sides.{Written}

-- A smaller class that gives both sides of the rule the same value.
pub record Before (M : Automaton) (rule : Rule) (x d : ℕ) : Type 0 where
  pub class : ℕ
  pub less : class < d
  pub same : SameSides M rule x class d

-- Every class that is not in the mask has one.
pub record Led (M : Automaton) (rule : Rule) (x mask : ℕ) : Type 0 where
  pub smaller : (d : ℕ) → d < 64 → mem mask d ≡ false → Before M rule x d

-- Each of the first n classes that is not in the mask has a smaller class in its own word.
abbrev pub Lowest : List ℕ → (n mask : ℕ) → Type 0
Lowest same n mask = (d : ℕ) → d < n → mem mask d ≡ false → (c : ℕ) × (c < d) × (mem (get_or same d 0) c ≡ true)

-- The tokens of a rule, the left side from 0 and the right side from 24, and a variable.
pub record RuleGiven (arities tokens : List ℕ) (x : ℕ) : Type 0 where
  pub long : length tokens ≡ 48
  pub left : Written arities tokens 0
  pub right : Written arities tokens 24
  pub variable : x < 4

-- The mask is enough for the rule of these tokens, whose left side is no variable, by the transitions that the words mean.
abbrev pub Enough : (words heads arities tokens : List ℕ) → (x mask : ℕ) → Type 0
Enough words heads arities tokens x mask =
    (M : Automaton) (rule : Rule) (after_left after_right : List Token) → Spells arities tokens 0 rule.left after_left → Spells arities tokens 24 rule.right after_right
    → ((y : ℕ) → rule.left ≡ var y → ⊥) → M.transitions ≡ woven_moves arities words (get_or heads 64 0) → Led M rule x mask
