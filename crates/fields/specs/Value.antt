-- The value of a line: its numbers, parted by commas and ended by LF, and the place after the LF.
use Rattle.std.specs.Prelude.{ℕ, zero, suc, ◌+◌, ◌*◌, ◌-◌, List, [], ◌∷◌, true, false, ◌&&◌, cond, eqb, leb, ltb, Option, Some, None}
use Rattle.theory.specs.Preorder.{Token, symbol, variable}
use Rattle.fields.specs.Number.{is_digit, full, read, number_from}
use Rattle.paper.specs.Limits.{last_variable, most_symbols}
use Rattle.fields.specs.declared.cursor.Taken.{Taken}
use Rattle.fields.specs.declared.cursor.Sort.{Sort}
use Rattle.fields.specs.declared.cursor.Sort.TheVariants.{Numbers, Tokens}

-- the entries of a value and the place behind its LF, or none
pub data Value : Type 0 where
  numbers : List ℕ → ℕ → Value
  not_numbers : Value

-- one more entry in front
abbrev pub with_first : ℕ → Value → Value
with_first v (numbers ns at) = numbers (v ∷ ns) at
with_first v not_numbers = not_numbers

-- An entry is a number (kind 0), or a token: a symbol (kind 1) or, after an `x`, a variable (kind 2). A token is read as its byte: a symbol below
-- 64 as it is, the variables from 64 on. What no certificate can have is read as 255, past every limit.
unfoldable pub code : ℕ → ℕ → ℕ
code zero v = v
code (suc zero) v = elim (ltb v most_symbols) [ true ↦ v | false ↦ 255 ]
code (suc (suc y)) v = elim (leb v last_variable) [ true ↦ 64 + v | false ↦ 255 ]

-- the kind at the start of a list's entries
unfoldable pub sort_kind : Sort → ℕ
sort_kind (Numbers f m) = 0
sort_kind (Tokens s) = 1

-- The number that stands for a token while a line is read.
unfoldable pub code_of : Token → ℕ
code_of (symbol f) = code 1 f
code_of (variable x) = code 2 x

-- the kind at the start of the next entry
abbrev pub back : ℕ → ℕ
back zero = 0
back (suc y) = 1

-- the entries from `at` on, where s stands; n digits of value v of the first of them, of kind y, stand before `at`
unfoldable pub entries_from : ℕ → ℕ → ℕ → ℕ → List ℕ → Value
entries_from y n v at [] = not_numbers
entries_from y n v at (b ∷ s) =
    elim (is_digit b) [
      | true ↦ elim (full n v) [ true ↦ not_numbers | false ↦ entries_from y (n + 1) (v * 10 + (b - 48)) (at + 1) s ]
      | false ↦ elim (eqb n 0) [
        | true ↦ elim (eqb y 1 && eqb b 120) [ true ↦ entries_from 2 0 0 (at + 1) s | false ↦ not_numbers ]
        | false ↦ elim (eqb b 10) [
          | true ↦ numbers (code y v ∷ []) (at + 1)
          | false ↦ elim (eqb b 44) [ true ↦ with_first (code y v) (entries_from (back y) 0 0 (at + 1) s) | false ↦ not_numbers ]
        ]
      ]
    ]

-- the value at `at`, where s stands: nothing before the LF, or entries of kind y
unfoldable pub value_of : ℕ → ℕ → List ℕ → Value
value_of y at [] = not_numbers
value_of y at (b ∷ s) = elim (eqb b 10) [ true ↦ numbers [] (at + 1) | false ↦ entries_from y 0 0 at (b ∷ s) ]

-- the value as numbers
abbrev pub value_at : ℕ → List ℕ → Value
value_at at s = value_of 0 at s

-- a number, as an entry of kind y
unfoldable pub coded : ℕ → Option Taken → Option Taken
coded y (Some t) = read (code y t.value) t.end
coded y None = None

-- the same by the bytes of such tokens: `count` of them, from `first` on
unfoldable pub coded_as : (count first : ℕ) → Option Taken → Option Taken
coded_as count first (Some t) = read (cond (ltb t.value count) (first + t.value) 255) t.end
coded_as count first None = None

-- one entry at `at`, where s stands: a number (kind 0) or a token (kind 1)
unfoldable pub entry_at : ℕ → ℕ → List ℕ → Option Taken
entry_at zero at s = number_from 0 0 at s
entry_at (suc y) at [] = None
entry_at (suc y) at (b ∷ s) = elim (eqb b 120) [ true ↦ coded 2 (number_from 0 0 (at + 1) s) | false ↦ coded 1 (number_from 0 0 at (b ∷ s)) ]
