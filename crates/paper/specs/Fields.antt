-- A line's value: numbers and tokens, parted by commas. 4: the value is not numbers (or tokens) and commas.
use Rattle.std.specs.Prelude.{Bool, true, false, ◌&&◌, not, List, [], ◌∷◌, ℕ, ◌+◌, ◌*◌, ◌-◌, eqb, leb, length}
use Rattle.theory.specs.Preorder.{Token, symbol, variable}
use Rattle.paper.specs.Bytes.{comma, digit0, letter_x}
use Rattle.paper.specs.Limits.{most_digits}
use Rattle.paper.specs.Checked.{Checked, fault, says, ◌>>=◌, ◌>>◌, ◌unless◌}

-- Every element of the list passes the test.
unfoldable pub all : {Y : Type 0} → List Y → (Y → Bool) → Bool
all [] test = true
all (y ∷ ys) test = test y && all ys test

-- Every element read by f.
unfoldable pub each : {Y Z : Type 0} → (Y → Checked Z) → List Y → Checked (List Z)
each f [] = says []
each f (y ∷ ys) = do
  z ← f y
  zs ← each f ys
  says (z ∷ zs)

-- The byte is a digit.
unfoldable pub digit : ℕ → Bool
digit b = leb digit0 b && leb b (digit0 + 9)

-- 1 to 8 digits with no leading zero (`0` itself is fine).
unfoldable pub is_number : List ℕ → Bool
is_number [] = false
is_number (b ∷ []) = digit b
is_number (b ∷ c ∷ bs) = not (eqb b digit0) && all (b ∷ c ∷ bs) digit && leb (length (b ∷ c ∷ bs)) most_digits

-- The number n with more digits behind it.
unfoldable pub from_digits : ℕ → List ℕ → ℕ
from_digits n [] = n
from_digits n (b ∷ bs) = from_digits (10 * n + (b - digit0)) bs

-- An entry read as a number.
unfoldable pub number : List ℕ → Checked ℕ
number bs = do
  4 unless is_number bs
  says (from_digits 0 bs)

-- One more byte in front of the first entry.
unfoldable pub lengthen : ℕ → List (List ℕ) → List (List ℕ)
lengthen b [] = (b ∷ []) ∷ []
lengthen b (e ∷ es) = (b ∷ e) ∷ es

-- The entries of a value, parted by one comma.
unfoldable pub entries : List ℕ → List (List ℕ)
entries [] = [] ∷ []
entries (b ∷ bs) = elim (eqb b comma) [ true ↦ [] ∷ entries bs | false ↦ lengthen b (entries bs) ]

-- An entry read as a token: a symbol number, or `x` and a number for a variable.
unfoldable pub token : List ℕ → Checked Token
token [] = fault 4
token (b ∷ bs) = elim (eqb b letter_x) [
  | true ↦ do
    n ← number bs
    says (variable n)
  | false ↦ do
    n ← number (b ∷ bs)
    says (symbol n)
]
