-- What the reader's answers say, in paper's words: a value, the next line's number and the bytes that are left, or a refusal on its line.
use Rattle.std.specs.Prelude.{ℕ, ◌+◌, ◌≤◌, ◌≡◌, List, [], ◌∷◌, true, length, drop, take, get_or, Some, Result, Ok, Err}
use Rattle.theory.specs.Automaton.{Transition, ◌of◌gives◌}
use Rattle.paper.specs.Limits.{last_state, most_bytes}
use Rattle.paper.specs.Certificate.{Kind as PaperKind, row}
use Rattle.paper.specs.Tables.{single_number, transition}
use Rattle.paper.specs.Format.{Reading, refused, gave, line_of, fixed}
use Rattle.verdicts.specs.declared.refusals.Refusal.{Refusal}
use Rattle.verdicts.specs.Refused.{number}
use Rattle.fields.specs.declared.rows.Kind.{Kind}
use Rattle.fields.specs.declared.cursor.Cursor.{Cursor}
use Rattle.fields.specs.declared.lists.Items.{Items}
use Rattle.fields.specs.declared.arrows.Trans.{Trans}
use Rattle.fields.specs.Line.{line_row}
use Rattle.fields.specs.Listed.{ascending}
use Rattle.fields.specs.Padded.{padded}

-- A place of a file that is not too long. Each line has a byte at least, so a line's number is at most one above its place.
pub record Placed (file : List ℕ) (c : Cursor) : Type 0 where
  pub inside : c.at ≤ length file
  pub near : c.line ≤ c.at + 1
  pub fits : length file ≤ most_bytes

-- What an answer about a line says: of what was read it says `say`, and it names the next place; or it refuses the line.
unfoldable pub said_by : {A X : Type 0} → (A → X) → (file : List ℕ) (line : ℕ) → Result (A × Cursor) Refusal → Reading X
said_by say file line (Ok (x, c)) = gave (say x) c.line (drop c.at file)
said_by say file line (Err r) = refused (number r.reason) line

-- How it is handed over: what was read is as P says and the next place is in the file; a refusal names this line.
unfoldable pub Whole : {A : Type 0} → (A → Type 0) → (file : List ℕ) (line : ℕ) → Result (A × Cursor) Refusal → Type 0
Whole P file line (Ok (x, c)) = P x × Placed file c
Whole P file line (Err r) = r.line ≡ Some line

-- An answer about a line, which says what its reading is.
pub record Answer {A X : Type 0} (say : A → X) (P : A → Type 0) (file : List ℕ) (line : ℕ) (reading : Reading X) (r : Result (A × Cursor) Refusal) : Type 0 where
  pub said : said_by say file line r ≡ reading
  pub whole : Whole P file line r

-- The line of one number at c, of this kind.
abbrev pub FieldLine : (file : List ℕ) → PaperKind → Cursor → Result (ℕ × Cursor) Refusal → Type 0
FieldLine file K c = Answer (λ (v : ℕ). v) (λ v. Unit {0}) file c.line (fixed K single_number c.line (drop c.at file))

-- The numbers of a list line.
abbrev pub said_items : Items → List ℕ
said_items it = take it.count it.items

-- The numbers of a list line, up to m and at most 64: 0 stands behind them, and the flag says whether they ascend.
pub record WholeList (m : ℕ) (it : Items) : Type 0 where
  pub behind : it.items ≡ padded 64 (said_items it)
  pub low : (k : ℕ) → get_or it.items k 0 ≤ m
  pub few : it.count ≤ 64
  pub order : it.ascending ≡ ascending (said_items it)

-- A list line: what it says, and how its numbers are handed over.
abbrev pub Listing : (file : List ℕ) → (m line : ℕ) → Reading (List ℕ) → Result (Items × Cursor) Refusal → Type 0
Listing file m line = Answer said_items (WholeList m) file line

-- A row of states that may be empty.
pub record FinalKind (K : PaperKind) : Type 0 where
  pub least : (row K).least ≡ 0
  pub greatest : (row K).greatest ≡ last_state
  pub empty : (row K).empty ≡ true

-- The three places for arguments.
abbrev pub places : Trans → List ℕ
places t = t.a ∷ (t.b ∷ (t.c ∷ []))

-- A row of a table of transitions: as many arguments as the symbol's arity.
unfoldable pub moved : List ℕ → Trans → Transition
moved arities t = t.symbol of take (get_or arities t.symbol 0) (places t) gives t.target

-- A transition's unused arguments are 0.
abbrev pub Unused : List ℕ → Trans → Type 0
Unused arities t = padded 3 (take (get_or arities t.symbol 0) (places t)) ≡ places t

-- The line of a transition at c, for the symbols with these arities and so many states.
abbrev pub ArrowLine : (file arities : List ℕ) → Kind → (states : ℕ) → Cursor → Result (Trans × Cursor) Refusal → Type 0
ArrowLine file arities kind states c =
    Answer (moved arities) (Unused arities) file c.line (line_of (line_row kind).key (transition arities states) c.line (drop c.at file))
