-- The sides of rules as the code reads them: tokens as bytes, a symbol below 64 as it is, the variables from 64 on.
use Rattle.std.specs.Prelude.{ℕ, ◌+◌, ◌-◌, ◌≤◌, ◌<◌, ◌≡◌, List, [], ◌∷◌, map, Bool, true, false, eqb, leb, ltb, length, drop, take, get_or, Option, Some, None, Result}
use Rattle.theory.specs.Lists.{count_from}
use Rattle.theory.specs.Term.{Term, variables}
use Rattle.theory.specs.Preorder.{preorder}
use Rattle.paper.specs.Limits.{most_tokens}
use Rattle.paper.specs.Format.{line_of}
use Rattle.paper.specs.Fields.{all}
use Rattle.paper.specs.Sides.{permitted, term_of, term, left_side, right_side}
use Rattle.tables.specs.Held.{token_of, spoken, side_of}
use Rattle.verdicts.specs.declared.refusals.Refusal.{Refusal}
use Rattle.fields.specs.declared.cursor.Cursor.{Cursor}
use Rattle.fields.specs.declared.lists.Items.{Items}
use Rattle.fields.specs.declared.rows.Kind.{Kind}
use Rattle.fields.specs.Padded.{padded}
use Rattle.fields.specs.Line.{line_row}
use Rattle.fields.specs.Said.{said_by, Whole, Answer, said_items}
use Rattle.sides.specs.declared.Side.{Side}

-- The term that tokens write; any term where they write none.
unfoldable pub meant : (arities tokens : List ℕ) → Term ℕ
meant arities tokens = spoken (term_of arities (map token_of tokens))

-- A token before n terms: how many terms then stand there. None where it wants more than there are.
unfoldable pub closes : List ℕ → ℕ → ℕ → Option ℕ
closes arities c n = elim (ltb c 64) [
  | true ↦ elim (leb (get_or arities c 0) n) [ true ↦ Some (n - get_or arities c 0 + 1) | false ↦ None ]
  | false ↦ Some (n + 1)
]

-- How many terms the tokens write.
unfoldable pub open_terms : List ℕ → List ℕ → Option ℕ
open_terms arities [] = Some 0
open_terms arities (c ∷ cs) = elim (open_terms arities cs) [ None ↦ None | Some n ↦ closes arities c n ]

-- The tokens write one term.
unfoldable pub is_one : Option ℕ → Bool
is_one (Some n) = eqb n 1
is_one None = false

-- A token after k variables that came in order: how many there are then. None where it is a variable out of order.
unfoldable pub step_lined : ℕ → ℕ → Option ℕ
step_lined c k = elim (ltb c 64) [ true ↦ Some k | false ↦ elim (eqb c (64 + k)) [ true ↦ Some (k + 1) | false ↦ None ] ]

-- How many variables come in order, from x0 on, after k of them.
unfoldable pub lined : ℕ → List ℕ → Option ℕ
lined k [] = Some k
lined k (c ∷ cs) = elim (step_lined c k) [ Some w ↦ lined w cs | None ↦ None ]

-- The token is a symbol, or a variable below v.
abbrev pub known : ℕ → ℕ → Bool
known v c = ltb c (64 + v)

-- The n tokens of a side: they are the side in preorder, listed symbols and variables below 4, 24 at most, and 0 stands behind them.
pub record WholeTokens (arities tokens : List ℕ) (n : ℕ) : Type 0 where
  pub are : take n tokens ≡ side_of (meant arities (take n tokens))
  pub listed : all (preorder (meant arities (take n tokens))) (permitted arities) ≡ true
  pub many : n ≡ length (preorder (meant arities (take n tokens)))
  pub few : n ≤ most_tokens
  pub low : (k : ℕ) → get_or tokens k 0 < 68
  pub behind : tokens ≡ padded 64 (take n tokens)

-- The term of a line's entries, and that of a side.
abbrev pub term_in : (arities : List ℕ) → Items → Term ℕ
term_in arities it = meant arities (said_items it)

abbrev pub side_term : (arities : List ℕ) → Side → Term ℕ
side_term arities s = meant arities (take s.count s.tokens)

-- A row of tokens: at least one, and no more than a side may have.
abbrev pub TokenKind : Kind → Type 0
TokenKind kind = ((line_row kind).empty ≡ false) × ((line_row kind).most ≡ most_tokens)

-- The line of one term at c, of this kind.
abbrev pub TermLine : (file arities : List ℕ) → Kind → Cursor → Result (Items × Cursor) Refusal → Type 0
TermLine file arities kind c =
    Answer (term_in arities) (λ it. WholeTokens arities it.items it.count) file c.line (line_of (line_row kind).key (term arities) c.line (drop c.at file))

-- The number of variables that goes with a left side: they are x0, x1, .. in this order, four at most.
pub record LeftSide (arities : List ℕ) (s : Side) : Type 0 where
  pub counted : variables (side_term arities s) ≡ count_from 0 s.variables
  pub few : s.variables ≤ 4
  pub whole : WholeTokens arities s.tokens s.count

-- A right side carries the number of variables that the left side has.
pub record RightSide (arities : List ℕ) (v : ℕ) (s : Side) : Type 0 where
  pub carried : s.variables ≡ v
  pub whole : WholeTokens arities s.tokens s.count

-- A left side's line at c: what it says, how many variables the side has, and how its tokens are handed over.
abbrev pub LeftLine : (file arities : List ℕ) → Cursor → Result (Side × Cursor) Refusal → Type 0
LeftLine file arities c = Answer (side_term arities) (LeftSide arities) file c.line (line_of "l" (left_side arities) c.line (drop c.at file))

-- A right side's line at c, the same behind every left side of v variables.
pub record RightLine (file arities : List ℕ) (c : Cursor) (v : ℕ) (r : Result (Side × Cursor) Refusal) : Type 0 where
  pub said : (l : Term ℕ) → variables l ≡ count_from 0 v → said_by (side_term arities) file c.line r ≡ line_of "r" (right_side arities l) c.line (drop c.at file)
  pub whole : Whole (RightSide arities v) file c.line r
