-- Values in 512 lanes at once. A sheet has a row for each class q below k, a row has eight words of 64 lanes, and lane l of row q says whether q is in the value in lane l:
-- so a lane of a sheet is a set of classes. All sheets of a rule lie in one list of rows, k rows to a sheet: those of its 48 tokens, and behind them those of the four variables.
use Rattle.std.specs.Prelude.{Bool, cond, ◌&&◌, List, [], ℕ, ◌+◌, ◌-◌, ◌*◌, ◌/◌, ◌%◌, ltb, get_or}
use Rattle.sets.specs.Sets.{Set, mem}

-- Lane l of a row.
abbrev pub lit : List ℕ → ℕ → Bool
lit row l = mem (get_or row (l / 64) 0) (l % 64)

-- Lane l of the sheet whose first row is a.
abbrev pub lane : (k : ℕ) → List (List ℕ) → (a l : ℕ) → Set
lane k m a l q = ltb q k && lit (get_or m (a + q) []) l

-- Which sheet has the value of the term at a place: the place's own, or its variable's.
unfoldable pub sheet_of : List ℕ → ℕ → ℕ
sheet_of tokens at = cond (ltb (get_or tokens at 0) 64) at (get_or tokens at 0 - 16)

-- The sets that the variables have in lane l.
unfoldable pub given : (k : ℕ) → List (List ℕ) → ℕ → ℕ → Set
given k m l x = lane k m ((48 + x) * k) l
