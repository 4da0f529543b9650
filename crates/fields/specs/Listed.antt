-- What a list's value comes to: how many entries, whether they ascend, and the first 64 of them; or why it is refused.
use Rattle.std.specs.Prelude.{ℕ, ◌+◌, ◌≤◌, ◌<◌, List, [], ◌∷◌, Bool, true, false, ◌&&◌, ◌||◌, not, cond, eqb, ltb, length, set, replicate, Result, Ok, Err}
use Rattle.paper.specs.Limits.{most_symbols, last_variable}
use Rattle.verdicts.specs.declared.refusals.Reason.{Reason}
use Rattle.verdicts.specs.declared.refusals.Reason.TheVariants.{NoValue, OutOfRange}
use Rattle.fields.specs.declared.cursor.Cursor.{Cursor}
use Rattle.fields.specs.declared.cursor.Sort.{Sort}
use Rattle.fields.specs.declared.cursor.Sort.TheVariants.{Numbers, Tokens}
use Rattle.fields.specs.declared.lists.Items.{Items}
use Rattle.fields.specs.declared.lists.Seen.{Seen}
use Rattle.fields.specs.Value.{Value, numbers, not_numbers}

-- an entry, perhaps the first of its line, is past its limit: a number is above it; a token is neither a listed symbol nor a variable
unfoldable pub exceeds : Sort → Bool → ℕ → Bool
exceeds (Numbers first rest) begins v = ltb (cond begins first rest) v
exceeds (Tokens symbols) begins c = not (ltb c symbols) && (ltb c 64 || ltb (64 + last_variable) c)

-- what is within its limit is a byte
unfoldable pub Limited : Sort → Type 0
Limited (Numbers first rest) = (first < 256) × (rest < 256)
Limited (Tokens symbols) = symbols ≤ most_symbols

-- an entry that is not the first is past its limit
unfoldable pub any_over : Sort → List ℕ → Bool
any_over sort [] = false
any_over sort (v ∷ ns) = exceeds sort false v || any_over sort ns

-- an entry is past its limit
unfoldable pub beyond : Sort → List ℕ → Bool
beyond sort [] = false
beyond sort (v ∷ ns) = exceeds sort true v || any_over sort ns

-- each is above the one before it, the first above v
unfoldable pub above : ℕ → List ℕ → Bool
above v [] = true
above v (w ∷ ns) = ltb v w && above w ns

-- each is above the one before it
unfoldable pub ascending : List ℕ → Bool
ascending [] = true
ascending (v ∷ ns) = above v ns

-- the numbers ns laid over the list zs, from its front; those past its end are left out
unfoldable pub laid : List ℕ → List ℕ → List ℕ
laid ns [] = []
laid [] (z ∷ zs) = z ∷ zs
laid (v ∷ ns) (z ∷ zs) = v ∷ laid ns zs

-- the entries as they are handed over, and the line behind this one
unfoldable pub listed : (line : ℕ) → List ℕ → (at : ℕ) → Items × Cursor
listed line ns at =
    (record { items = laid ns (replicate 64 0); count = length ns; ascending = ascending ns }, record { at = at; line = line + 1 })

-- the entries of a value on this line
unfoldable pub list_of : (line : ℕ) → Sort → Value → Result (Items × Cursor) Reason
list_of line sort not_numbers = Err NoValue
list_of line sort (numbers ns at) = elim (beyond sort ns) [ true ↦ Err OutOfRange | false ↦ Ok (listed line ns at) ]

-- The same as the code goes: a state that each entry changes, and the entries beside it.
unfoldable pub seen_none : Seen
seen_none = record { count = 0; last = 0; over = false; ascending = true }

-- the state with one more entry
unfoldable pub seen_with : Sort → Seen → ℕ → Seen
seen_with sort s v =
    record {
      count = s.count + 1;
      last = v;
      over = s.over || exceeds sort (eqb s.count 0) v;
      ascending = s.ascending && (eqb s.count 0 || ltb s.last v);
    }

-- the entries with one more at i, where it is a byte and there is room
unfoldable pub kept : List ℕ → ℕ → ℕ → List ℕ
kept items i v = cond (ltb v 256) (set items i v) items

-- what is handed over at the end of the value
unfoldable pub done : Seen → List ℕ → Cursor → Result (Items × Cursor) Reason
done s items next =
    elim s.over [
      | true ↦ Err OutOfRange
      | false ↦ Ok (record { items = items; count = s.count; ascending = s.ascending }, next)
    ]
