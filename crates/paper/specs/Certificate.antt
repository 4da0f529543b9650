-- What a certificate holds, and the table of its fixed lines.
use Rattle.std.specs.Prelude.{Bool, true, false, List, ℕ}
use Prim.Native.String.{String}
use Rattle.theory.specs.Automaton.{Automaton}
use Rattle.theory.specs.Rewriting.{Rule}
use Rattle.paper.specs.Limits.{most_budget, most_symbols, most_arity, most_states, last_state, most_transitions, most_rules}

-- A certificate: a budget, the symbols' arities, the initial automaton A, the bad automaton B, the rules, and each state's class.
pub record Certificate : Type 0 where
  pub budget : ℕ
  pub arities : List ℕ
  pub A : Automaton
  pub B : Automaton
  pub rules : List Rule
  pub merge : List ℕ

-- The ten fixed lines, in their order.
pub data Kind : Type 0 where
  Budget Arities States Final Trans BadStates BadFinal BadTrans Rules Merge : Kind

-- A row of the table: the line's key, the least and the greatest number, the most entries, and whether the value may be empty.
pub record Row : Type 0 where
  pub key : String
  pub least : ℕ
  pub greatest : ℕ
  pub most : ℕ
  pub empty : Bool

infix 30 ◌from◌to◌entries◌empty◌
abbrev pub ◌from◌to◌entries◌empty◌ : String → ℕ → ℕ → ℕ → Bool → Row
key from least to greatest entries most empty e = record { key = key; least = least; greatest = greatest; most = most; empty = e }

-- The ten fixed lines and their ranges form one constant table.
unfoldable pub row : Kind → Row
row Budget = "budget" from 0 to most_budget entries 1 empty false
row Arities = "arities" from 0 to most_arity entries most_symbols empty false
row States = "states" from 1 to most_states entries 1 empty false
row Final = "final" from 0 to last_state entries most_states empty true
row Trans = "trans" from 0 to most_transitions entries 1 empty false
row BadStates = "badstates" from 1 to most_states entries 1 empty false
row BadFinal = "badfinal" from 0 to last_state entries most_states empty true
row BadTrans = "badtrans" from 0 to most_transitions entries 1 empty false
row Rules = "rules" from 0 to most_rules entries 1 empty false
row Merge = "merge" from 0 to last_state entries most_states empty false
