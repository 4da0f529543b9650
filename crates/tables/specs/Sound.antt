-- What every reading leaves and every judgement relies on.
use Rattle.std.specs.Prelude.{◌≡◌, List, ℕ, ◌*◌, ◌≤◌, ◌<◌, length, get_or}
use Rattle.theory.specs.Rewriting.{variable_count}
use Rattle.theory.specs.Automaton.{classes}
use Rattle.paper.specs.Limits.{most_symbols, most_transitions, most_tokens}
use Rattle.paper.specs.Checked.{says}
use Rattle.paper.specs.WellFormed.{WellFormed}
use Rattle.tables.specs.Held.{held, no_rule, side_at, rule_in, arities_of, merge_of}
use Rattle.tables.specs.declared.Rule.{Rule}
use Rattle.tables.specs.declared.Tables.{Tables}
use Rattle.tables.specs.declared.Merging.{Merging}

-- A rule's tokens form its two sides, no more to a side than there may be, and its variables are counted rightly.
pub record SoundRule (arities : List ℕ) (r : Rule) : Type 0 where
  pub left : side_at arities r.tokens 0 r.left ≡ says (rule_in arities r).left
  pub right : side_at arities r.tokens 24 r.right ≡ says (rule_in arities r).right
  pub left_short : r.left ≤ most_tokens
  pub right_short : r.right ≤ most_tokens
  pub variables : r.variables ≡ variable_count (rule_in arities r)

-- The tables and the merging mean a certificate that a file can hold, every byte of a table and of the merging is below 64, and what is counted beside them is right.
pub record Sound (t : Tables) (m : Merging) : Type 0 where
  pub well : WellFormed (held t m)
  pub symbols : t.symbols ≤ most_symbols
  pub initial_small : (i : ℕ) → get_or t.initial.rows i 0 < 64
  pub bad_long : length t.bad.rows ≡ 5 * most_transitions
  pub bad_small : (i : ℕ) → get_or t.bad.rows i 0 < 64
  pub rules : (i : ℕ) → i < t.rules.count → SoundRule (arities_of t) (get_or t.rules.rules i no_rule)
  pub few : (i : ℕ) → (get_or t.rules.rules i no_rule).variables ≤ 4
  pub merge_small : (i : ℕ) → get_or m.merge i 0 < 64
  pub classes : m.classes ≡ classes (merge_of t m)
