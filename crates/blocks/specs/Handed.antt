-- A reading as the code hands it over: what was read, packed into arrays, with the place behind it; or the refusal.
use Rattle.std.specs.Prelude.{◌≡◌, false, List, ℕ, drop, Some, Result, Ok, Err}
use Rattle.paper.specs.Limits.{most_states, most_transitions}
use Rattle.paper.specs.Certificate.{row}
use Rattle.paper.specs.Format.{Reading, refused, gave}
use Rattle.verdicts.specs.declared.refusals.Refusal.{Refusal}
use Rattle.verdicts.specs.Refused.{number}
use Rattle.fields.specs.Line.{Fixed, kind_of, line_row}
use Rattle.fields.specs.Said.{FinalKind, Placed}
use Rattle.fields.specs.declared.cursor.Cursor.{Cursor}
use Rattle.blocks.specs.declared.automata.TableKinds.{TableKinds}

-- A reading that went on to a line of the file, with what it gave packed.
pub record Went {X T : Type 0} (file : List ℕ) (pack : X → T) (reading : Reading X) (c : Cursor) (packed : T) : Type 0 where
  pub what : X
  pub is : reading ≡ gave what c.line (drop c.at file)
  pub packs : packed ≡ pack what
  pub placed : Placed file c

-- A reading that stopped at a line, which the refusal names.
pub record Stopped {X : Type 0} (reading : Reading X) (r : Refusal) : Type 0 where
  pub line : ℕ
  pub names : r.line ≡ Some line
  pub is : reading ≡ refused (number r.reason) line

-- A reading and what is handed over for it.
abbrev pub Handed : {X T : Type 0} → (file : List ℕ) → (pack : X → T) → Reading X → Result (T × Cursor) Refusal → Type 0
Handed file pack reading (Ok (packed, c)) = Went file pack reading c packed
Handed file pack reading (Err r) = Stopped reading r

-- The kinds of an automaton's lines: a number, a list of final states, a count of transitions; and that of its transitions, where a line has entries.
pub record AutomatonKinds (kinds : TableKinds) : Type 0 where
  pub fixed : Fixed kinds.states × Fixed kinds.finals × Fixed kinds.count
  pub states_bound : ((row (kind_of kinds.states)).least ≡ 1) × ((row (kind_of kinds.states)).greatest ≡ most_states)
  pub final : FinalKind (kind_of kinds.finals)
  pub most_trans : (row (kind_of kinds.count)).greatest ≡ most_transitions
  pub entries : (line_row kinds.row).empty ≡ false
