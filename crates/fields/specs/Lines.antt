-- A whole list line: its entries, or the reason with the smallest number that applies.
use Rattle.std.specs.Prelude.{ℕ, List, [], ◌∷◌, Bool, true, false, leb, length, drop, Option, Some, None, Result, Ok, Err}
use Rattle.paper.specs.Certificate.{Row as PaperRow}
use Rattle.verdicts.specs.declared.refusals.Reason.{Reason}
use Rattle.verdicts.specs.declared.refusals.Reason.TheVariants.{NoLine, NoValue, OutOfRange, WrongCount, Unordered}
use Rattle.verdicts.specs.declared.refusals.Refusal.{Refusal}
use Rattle.fields.specs.declared.cursor.Cursor.{Cursor}
use Rattle.fields.specs.declared.cursor.Sort.{Sort}
use Rattle.fields.specs.declared.lists.Items.{Items}
use Rattle.fields.specs.Value.{Value, numbers, not_numbers, value_of, sort_kind}
use Rattle.fields.specs.Line.{open_at, key_of, refuse}
use Rattle.fields.specs.Listed.{beyond, ascending, listed}

-- a line's entries and the place after it, or the reason of its refusal
pub data Line : Type 0 where
  good : List ℕ → ℕ → Line
  bad : Reason → Line

-- no value where it is not entries, or is empty and may not be; else out of range for an entry past its limit
unfoldable pub numbers_in : Sort → Bool → Value → Line
numbers_in sort empty not_numbers = bad NoValue
numbers_in sort empty (numbers [] at) = elim empty [ true ↦ good [] at | false ↦ bad NoValue ]
numbers_in sort empty (numbers (v ∷ ns) at) = elim (beyond sort (v ∷ ns)) [ true ↦ bad OutOfRange | false ↦ good (v ∷ ns) at ]

-- no line where it is missing
unfoldable pub line_in : Sort → Bool → List ℕ → Option ℕ → Line
line_in sort empty file None = bad NoLine
line_in sort empty file (Some at) = numbers_in sort empty (value_of (sort_kind sort) at (drop at file))

-- a line of entries, with the row's key
abbrev pub entry_line : Sort → PaperRow → List ℕ → ℕ → Line
entry_line sort r file at = line_in sort r.empty file (open_at (key_of r) file at)

-- a further check of the numbers, which finds nothing or a reason
unfoldable pub checked : (List ℕ → Option Reason) → Line → Line
checked k (bad r) = bad r
checked k (good ns at) = elim (k ns) [ None ↦ good ns at | Some r ↦ bad r ]

-- strictly ascending
unfoldable pub final_check : List ℕ → Option Reason
final_check ns = elim (ascending ns) [ true ↦ None | false ↦ Some Unordered ]

-- at most so many entries
unfoldable pub few_check : ℕ → List ℕ → Option Reason
few_check most ns = elim (leb (length ns) most) [ true ↦ None | false ↦ Some WrongCount ]

-- what the reader hands over for a line of this number
unfoldable pub items_of : (line : ℕ) → Line → Result (Items × Cursor) Refusal
items_of line (bad r) = Err (refuse line r)
items_of line (good ns at) = Ok (listed line ns at)
