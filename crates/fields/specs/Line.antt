-- A line: its key, its value and its LF; and the table of lines.
use Rattle.std.specs.Prelude.{ℕ, ◌+◌, ◌-◌, List, [], ◌∷◌, ◌++◌, Bool, true, false, eqb, drop, Option, Some, None}
use Rattle.paper.specs.Bytes.{bytes}
use Rattle.paper.specs.Limits.{most_symbols, most_arity, most_tokens, last_variable}
use Rattle.paper.specs.Certificate.{Kind as PaperKind, row, Row as PaperRow, ◌from◌to◌entries◌empty◌}
use Rattle.verdicts.specs.declared.refusals.Reason.{Reason}
use Rattle.verdicts.specs.declared.refusals.Reason.TheVariants.{NoLine, NoValue}
use Rattle.verdicts.specs.declared.refusals.Refusal.{Refusal}
use Rattle.fields.specs.declared.rows.Kind.{Kind}
use Rattle.fields.specs.declared.rows.Kind.TheVariants.{Arities, States, Final, Trans, BadStates, BadFinal, BadTrans, Rules, Merge, Transition, BadTransition, Left, Right}
use Rattle.fields.specs.declared.rows.Row.{Row}

-- the place after the key, where s, which stands at `at`, starts with it
unfoldable pub after_key : List ℕ → ℕ → List ℕ → Option ℕ
after_key [] at s = Some at
after_key (k ∷ ks) at [] = None
after_key (k ∷ ks) at (b ∷ s) = elim (eqb b k) [ true ↦ after_key ks (at + 1) s | false ↦ None ]

-- an LF stands somewhere in s
unfoldable pub has_end : List ℕ → Bool
has_end [] = false
has_end (b ∷ s) = elim (eqb b 10) [ true ↦ true | false ↦ has_end s ]

-- the place of the value, where the line has its key and its LF
unfoldable pub ending : List ℕ → Option ℕ → Option ℕ
ending file (Some at) = elim (has_end (drop at file)) [ true ↦ Some at | false ↦ None ]
ending file None = None

-- the same for the line at `at` of a file
abbrev pub open_at : List ℕ → List ℕ → ℕ → Option ℕ
open_at key file at = ending file (after_key key at (drop at file))

-- why a value that stands at the front of s is refused: its line is missing where there is no LF, before any fault of the value's form
unfoldable pub unended : Reason → List ℕ → Reason
unended NoValue s = elim (has_end s) [ true ↦ NoValue | false ↦ NoLine ]
unended r s = r

-- the refusal for this reason, on this line
abbrev pub refuse : (line : ℕ) → Reason → Refusal
refuse line r = record { reason = r; line = Some line }

-- the ten fixed lines
abbrev pub Fixed : Kind → Type 0
Fixed Transition = ⊥
Fixed BadTransition = ⊥
Fixed Left = ⊥
Fixed Right = ⊥
Fixed _ = Unit {0}

-- the fixed line of this kind
abbrev pub kind_of : Kind → PaperKind
kind_of Arities = PaperKind.Arities
kind_of States = PaperKind.States
kind_of Final = PaperKind.Final
kind_of Trans = PaperKind.Trans
kind_of BadStates = PaperKind.BadStates
kind_of BadFinal = PaperKind.BadFinal
kind_of BadTrans = PaperKind.BadTrans
kind_of Rules = PaperKind.Rules
kind_of Merge = PaperKind.Merge
kind_of _ = PaperKind.Budget

-- The row of a line. Those that come as often as a count says have rows of the same form: a transition of A or B, a left and a right side. Their
-- numbers are the largest that any certificate allows; those of tokens are the tokens' bytes.
abbrev pub line_row : Kind → PaperRow
line_row Transition = "t" from 0 to (most_symbols - 1) entries (most_arity + 2) empty false
line_row BadTransition = "u" from 0 to (most_symbols - 1) entries (most_arity + 2) empty false
line_row Left = "l" from 0 to (64 + last_variable) entries most_tokens empty false
line_row Right = "r" from 0 to (64 + last_variable) entries most_tokens empty false
line_row kind = row (kind_of kind)

-- a line's key and `=`
unfoldable pub key_of : PaperRow → List ℕ
key_of r = bytes r.key ++ bytes "="

-- the key of a line of this kind
abbrev pub key_at : Kind → List ℕ
key_at kind = key_of (line_row kind)

-- a row as the code's table has it
unfoldable pub code_row : PaperRow → Row
code_row r = record { least = r.least; greatest = r.greatest; entries = r.most; empty = r.empty }

-- the row of a line of this kind
abbrev pub row_at : Kind → Row
row_at kind = code_row (line_row kind)
