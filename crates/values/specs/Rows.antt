-- Rows put together, and the words of a symbol gathered into a sheet.
use Rattle.std.specs.Prelude.{◌≡◌, Bool, ◌⊎◌, List, [], ◌∷◌, map, ℕ, ◌+◌, ◌-◌, ◌≤◌, ◌<◌, length, get_or, take}
use Rattle.theory.specs.Lists.{any, count_from}
use Rattle.paper.specs.Limits.{most_arity, most_transitions}
use Rattle.woven.specs.Woven.{part, woven_moves, Indexed}
use Rattle.values.specs.Sets.{drawn, gathered}
use Rattle.values.specs.Lanes.{lit, lane}

-- In lane l each of the first n arguments of the word w is in its sheet.
unfoldable pub all_lit : List (List ℕ) → (n w : ℕ) → List ℕ → ℕ → Bool
all_lit m n w kids l =
    drawn (take n (map (λ a q. lit (get_or m (a + q) []) l) kids)) (take n (part w 0 ∷ (part w 1 ∷ (part w 2 ∷ []))))

-- What a run relies on: the words up to `end` are listed, and the rows of the first n arguments of those from place `from` on are within the list.
pub record Runnable (words : List ℕ) (end n from : ℕ) (m : List (List ℕ)) (kids : List ℕ) : Type 0 where
  pub few : n ≤ most_arity
  pub room : end ≤ most_transitions
  pub begins : from ≤ end
  pub rows : (i j : ℕ) → from ≤ i → i < end → j < n → get_or kids j 0 + part (get_or words i 0) j < length m

-- The words from place `from` to `next` have the target q, and a lane is lit where some of them has each of its first n arguments in its sheet.
pub record Joined (words : List ℕ) (n q from : ℕ) (m : List (List ℕ)) (kids lanes : List ℕ) (next : ℕ) : Type 0 where
  pub low : from ≤ next
  pub own : (i : ℕ) → from ≤ i → i < next → part (get_or words i 0) 3 ≡ q
  pub lanes_lit : (l : ℕ) → l < 512 → lit lanes l ≡ any (count_from from (next - from)) (λ i. all_lit m n (get_or words i 0) kids l)

-- These are all words of that target at the front of those from `from` to `end`.
pub record RunOf (words : List ℕ) (end n q from : ℕ) (m : List (List ℕ)) (kids lanes : List ℕ) (next : ℕ) : Type 0 where
  pub joined : Joined words n q from m kids lanes next
  pub high : next ≤ end
  pub stops : next < end → part (get_or words next 0) 3 ≡ q → ⊥

-- The sheet at row a is within the list.
abbrev pub Room : ℕ → List (List ℕ) → ℕ → Type 0
Room k m a = a + k ≤ length m

-- The sheet at row a and the one at row b have no row in common.
abbrev pub Apart : (k a b : ℕ) → Type 0
Apart k a b = (p q : ℕ) → p < k → q < k → a + p ≡ b + q → ⊥

-- Only rows of the sheet at row a are changed.
pub record Within (k : ℕ) (m : List (List ℕ)) (a : ℕ) (after : List (List ℕ)) : Type 0 where
  pub long : length after ≡ length m
  pub same : (i : ℕ) → (i < a) ⊎ (a + k ≤ i) → get_or after i [] ≡ get_or m i []

-- What gathering relies on: the first n of the arguments' sheets are within the list and apart from the one that is filled.
pub record Gatherable (words heads : List ℕ) (f n k : ℕ) (m : List (List ℕ)) (kids : List ℕ) (out : ℕ) : Type 0 where
  pub indexed : Indexed words heads
  pub symbol : f < 64
  pub few : n ≤ most_arity
  pub target : (i : ℕ) → get_or heads f 0 ≤ i → i < get_or heads (f + 1) 0 → part (get_or words i 0) 3 < k
  pub argument : (i j : ℕ) → get_or heads f 0 ≤ i → i < get_or heads (f + 1) 0 → j < n → part (get_or words i 0) j < k
  pub kids_room : (j : ℕ) → j < n → Room k m (get_or kids j 0)
  pub kids_apart : (j : ℕ) → j < n → Apart k (get_or kids j 0) out
  pub out_room : Room k m out

-- The sheet at `out` has in each lane every class that a word of f gives for arguments from the first n sheets.
pub record Gathered (arities words heads : List ℕ) (f n k : ℕ) (m : List (List ℕ)) (kids : List ℕ) (out : ℕ) (after : List (List ℕ)) : Type 0 where
  pub value : get_or arities f 0 ≡ n → (l : ℕ) → l < 512
      → lane k after out l ≡ gathered (woven_moves arities words (get_or heads 64 0)) f (take n (map (λ a. lane k m a l) kids))
  pub within : Within k m out after
