-- What the search is told: the merged automaton as words, the rules as tokens, and rows for the values; and what it has to find.
use Rattle.std.specs.Prelude.{◌≡◌, false, ◌⊎◌, ℕ, ◌+◌, ◌≤◌, ◌<◌, length, get_or}
use mathlib.Core.List.{List, [], ◌∷◌, ◌++◌}
use Rattle.theory.specs.Term.{var}
use Rattle.theory.specs.Rewriting.{Rule, WellShapedRules}
use Rattle.theory.specs.Automaton.{Automaton}
use Rattle.paper.specs.Limits.{most_rules}
use Rattle.paper.specs.Meaning.{Closure}
use Rattle.paper.specs.Computed.{closure}
use Rattle.tables.specs.Held.{no_rule, rules_of}
use Rattle.tables.specs.Sound.{SoundRule}
use Rattle.tables.specs.declared.Rules.{Rules}
use Rattle.sets.specs.Sets.{mem}
use Rattle.values.specs.Standing.{Each, Spelled}
use Rattle.alike.specs.Needed.{Before}
use Rattle.woven.specs.declared.automaton.Automaton.{Automaton as Woven}
use Rattle.lanes.specs.Automaton.{meant}
use Rattle.lanes.specs.Batches.{Calm}

-- What the search relies on of the rules.
pub record Searchable (arities : List ℕ) (rules : Rules) : Type 0 where
  pub sound : (i : ℕ) → i < rules.count → SoundRule arities (get_or rules.rules i no_rule)
  pub shaped : WellShapedRules (rules_of arities rules)
  pub few : (i : ℕ) → (get_or rules.rules i no_rule).variables ≤ 4
  pub rules_bound : rules.count ≤ most_rules

-- What is known of the rule of these tokens, with v variables.
pub record Told (arities tokens : List ℕ) (v : ℕ) (rule : Rule) : Type 0 where
  pub spelled : Spelled arities tokens rule
  pub left_below : Each (λ x. x < v) rule.left
  pub right_below : Each (λ x. x < v) rule.right
  pub not_bare : (x : ℕ) → rule.left ≡ var x → ⊥

-- The classes of the variable after a prefix that are gone into: with every other one there is no critical pair, or a smaller class gives both sides of the rule the same value.
pub record Opened (M : Automaton) (rule : Rule) (v : ℕ) (xs : List ℕ) (mask : ℕ) : Type 0 where
  pub early : (y : ℕ) → y < M.states → mem mask y ≡ false → length xs + 1 < v
  pub passed : (y : ℕ) → y < M.states → mem mask y ≡ false → Calm M rule v (xs ++ (y ∷ [])) ⊎ Before M rule (length xs) y

-- The answer to the second question, of the automaton that the words are.
abbrev pub searched : Woven → Rules → (budget : ℕ) → Closure
searched delta rules budget = closure (meant delta) (rules_of delta.arities.now rules) budget
