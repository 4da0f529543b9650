-- A number field: 1 to 8 digits with no leading zero, as what stands at the front of the rest of the file.
use Rattle.std.specs.Prelude.{ℕ, ◌+◌, ◌*◌, ◌-◌, List, [], ◌∷◌, Bool, true, false, ◌&&◌, ◌||◌, not, cond, leb, eqb, Option, Some, None}
use Rattle.paper.specs.Limits.{most_digits}
use Rattle.fields.specs.declared.cursor.Taken.{Taken}

-- the byte is a digit
unfoldable pub is_digit : ℕ → Bool
is_digit b = leb 48 b && leb b 57

-- n digits of value v take no further digit: there are eight, or they are the digit 0
unfoldable pub full : ℕ → ℕ → Bool
full n v = leb most_digits n || (not (eqb n 0) && eqb v 0)

-- the number v, which ends at `at`
abbrev pub read : ℕ → ℕ → Option Taken
read v at = Some (record { value = v; end = at })

-- n digits of value v, and no digit at `at`, where they end
unfoldable pub ended : ℕ → ℕ → ℕ → Option Taken
ended n v at = cond (eqb n 0) None (read v at)

-- the number of which n digits, of value v, stand before `at`, and s from there on
unfoldable pub number_from : ℕ → ℕ → ℕ → List ℕ → Option Taken
number_from n v at [] = ended n v at
number_from n v at (b ∷ s) =
    elim (is_digit b) [
      | true ↦ elim (full n v) [ true ↦ None | false ↦ number_from (n + 1) (v * 10 + (b - 48)) (at + 1) s ]
      | false ↦ ended n v at
    ]
