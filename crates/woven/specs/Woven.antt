-- The transitions as the search reads them: one word of 64 bits to a transition, those of one symbol together.
use Rattle.std.specs.Prelude.{◌≡◌, ◌↔◌, ℕ, ◌+◌, ◌*◌, ◌/◌, ◌%◌, ◌^◌, ◌≤◌, ◌<◌, length, get_or, take}
use mathlib.Core.List.{List, [], ◌∷◌, map, Memᴰ}
use Rattle.theory.specs.Lists.{count_from}
use Rattle.theory.specs.Automaton.{Transition, ◌of◌gives◌}
use Rattle.paper.specs.Limits.{most_transitions}
use Rattle.tables.specs.Held.{moves_of}

-- The number in byte i of a word: its six low digits.
unfoldable pub part : ℕ → ℕ → ℕ
part w i = w / 2 ^ (8 * i) % 64

-- The transition that a word means: its symbol over as many of its three arguments as the arity says gives its target.
unfoldable pub move_of : (arities : List ℕ) → ℕ → Transition
move_of arities w = part w 4 of take (get_or arities (part w 4) 0) (part w 0 ∷ (part w 1 ∷ (part w 2 ∷ []))) gives part w 3

-- The transitions of the first n words.
unfoldable pub woven_moves : (arities words : List ℕ) → ℕ → List Transition
woven_moves arities words n = map (λ i. move_of arities (get_or words i 0)) (count_from 0 n)

-- The words of each symbol f below m stand from place `heads f` to place `heads (f + 1)`, there are n such words, and within a symbol their targets rise.
pub record Sorted (m : ℕ) (words heads : List ℕ) (n : ℕ) : Type 0 where
  pub first : get_or heads 0 0 ≡ 0
  pub order : (f : ℕ) → f < m → get_or heads f 0 ≤ get_or heads (f + 1) 0
  pub own : (f i : ℕ) → f < m → get_or heads f 0 ≤ i → i < get_or heads (f + 1) 0 → part (get_or words i 0) 4 ≡ f
  pub last : get_or heads m 0 ≡ n
  pub rising : (f i j : ℕ) → f < m → get_or heads f 0 ≤ i → i ≤ j → j < get_or heads (f + 1) 0 → part (get_or words i 0) 3 ≤ part (get_or words j 0) 3

-- The words of all symbols are sorted so, and there is room for them.
pub record Indexed (words heads : List ℕ) : Type 0 where
  pub sorted : Sorted 64 words heads (get_or heads 64 0)
  pub room : get_or heads 64 0 ≤ most_transitions

-- A number in each of the five low bytes.
unfoldable pub packed : (a b c target symbol : ℕ) → ℕ
packed a b c target symbol = a + b * 256 + c * 65536 + target * 16777216 + symbol * 4294967296

-- Row i of a flat table is a transition of this symbol.
unfoldable pub symbol_at : List ℕ → ℕ → ℕ
symbol_at rows i = get_or rows (i * 5) 0

-- The word of row i of a flat table: symbol, three arguments, target.
unfoldable pub word_at : List ℕ → ℕ → ℕ
word_at rows i = packed (get_or rows (i * 5 + 1) 0) (get_or rows (i * 5 + 2) 0) (get_or rows (i * 5 + 3) 0) (get_or rows (i * 5 + 4) 0) (symbol_at rows i)

-- The words mean the same transitions as the first n rows of the flat table, whatever the arities are.
pub record SameMoves (rows words heads : List ℕ) (n : ℕ) : Type 0 where
  pub same : (arities : List ℕ) (tr : Transition) → Memᴰ tr (woven_moves arities words (get_or heads 64 0)) ↔ Memᴰ tr (moves_of arities rows n)

-- A flat table: at most 128 rows, and every byte is below 64.
pub record Flat (rows : List ℕ) : Type 0 where
  pub most : length rows / 5 ≤ most_transitions
  pub small : (i : ℕ) → get_or rows i 0 < 64
