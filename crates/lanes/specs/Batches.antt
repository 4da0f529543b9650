-- Batches of substitutions: which classes the variables have in the lanes, and what a prefix of classes leaves to be looked at.
use Rattle.std.specs.Prelude.{◌≡◌, Bool, true, false, cond, ◌||◌, eqb, ◌⊎◌, ℕ, ◌+◌, ◌*◌, ◌^◌, ◌≤◌, ◌<◌, length, get_or, replicate}
use mathlib.Core.List.{List, [], ◌∷◌, ◌++◌, Memᴰ}
use Rattle.theory.specs.Rewriting.{Rule}
use Rattle.theory.specs.Automaton.{Automaton, Transition}
use Rattle.theory.specs.Value.{is_critical}
use Rattle.sets.specs.Sets.{Set, mem, none, plus, less}
use Rattle.woven.specs.Woven.{woven_moves}
use Rattle.values.specs.Sets.{spanned}
use Rattle.values.specs.Lanes.{lit, lane, sheet_of, given}
use Rattle.values.specs.Standing.{Stands}
use Rattle.lanes.specs.Prefixes.{rest, chosen}

-- There is room for the 52 sheets.
abbrev pub Roomy : ℕ → List (List ℕ) → Type 0
Roomy k m = 52 * k ≤ length m

-- Only the sheets of the variables from `first` to before `last` are changed.
pub record Touched (k first last : ℕ) (m after : List (List ℕ)) : Type 0 where
  pub long : length after ≡ length m
  pub same : (i : ℕ) → (i < (48 + first) * k) ⊎ ((48 + last) * k ≤ i) → get_or after i [] ≡ get_or m i []

-- What giving a variable a class relies on.
pub record Fixable (k : ℕ) (m : List (List ℕ)) (x class : ℕ) : Type 0 where
  pub room : Roomy k m
  pub variable : x < 4
  pub low : class < k
  pub most : k ≤ 64

-- The first variables have these classes in every lane.
pub record Fixed (k : ℕ) (m : List (List ℕ)) (xs : List ℕ) : Type 0 where
  pub each : (x l : ℕ) → x < length xs → l < 512 → given k m l x ≡ plus none (get_or xs x 0)

-- The variables hi and lo have in each of the first n lanes the two digits of the lane's number, to the base k, counted from `start` on.
pub record Paired (k : ℕ) (m : List (List ℕ)) (hi lo start n : ℕ) : Type 0 where
  pub high : (y z l : ℕ) → y < k → z < k → l < n → y * k + z ≡ start + l → given k m l hi ≡ plus none y
  pub low : (y z l : ℕ) → y < k → z < k → l < n → y * k + z ≡ start + l → given k m l lo ≡ plus none z

-- Each word of the rows of the sheet at row a is w.
abbrev pub Full : ℕ → List (List ℕ) → (a w : ℕ) → Type 0
Full k m a w = (q : ℕ) → q < k → get_or m (a + q) [] ≡ replicate 8 w

-- Lane l of row i is lit, and nothing else is changed.
pub record Lighted (m : List (List ℕ)) (i l : ℕ) (after : List (List ℕ)) : Type 0 where
  pub long : length after ≡ length m
  pub wide : length (get_or after i []) ≡ length (get_or m i [])
  pub lit : (j : ℕ) → j < 512 → lit (get_or after i []) j ≡ (lit (get_or m i []) j || eqb l j)
  pub same : (r : ℕ) → (r ≡ i → ⊥) → get_or after r [] ≡ get_or m r []

-- What pairing two variables relies on.
pub record PairedRoom (k : ℕ) (m : List (List ℕ)) (hi lo start n : ℕ) : Type 0 where
  pub room : Roomy k m
  pub some : 1 ≤ k
  pub most : k ≤ 64
  pub high : hi < 4
  pub low : lo < 4
  pub two : hi ≡ lo → ⊥
  pub start_low : start < 4096
  pub lanes : n ≤ 512

-- Only the sheets of the variables hi and lo are changed.
pub record BothTouched (k hi lo : ℕ) (m after : List (List ℕ)) : Type 0 where
  pub long : length after ≡ length m
  pub tokens : (i : ℕ) → i < 48 * k → get_or after i [] ≡ get_or m i []
  pub others : (x q : ℕ) → x < 4 → q < k → (x ≡ hi → ⊥) → (x ≡ lo → ⊥) → get_or after ((48 + x) * k + q) [] ≡ get_or m ((48 + x) * k + q) []

-- What judging a rule's two sides relies on. The left side is no bare variable, so its sheet is the first.
pub record Judgeable (arities tokens : List ℕ) (k : ℕ) (m : List (List ℕ)) : Type 0 where
  pub tokens_long : length tokens ≡ 48
  pub left : Stands arities tokens 0
  pub right : Stands arities tokens 24
  pub symbol : get_or tokens 0 0 < 64
  pub room : Roomy k m

-- The classes that the left side has and the right side has not, where the variables have these sets.
abbrev pub differ : List Transition → (ℕ → Set) → Rule → Set
differ Δ ρ rule = less (spanned Δ ρ rule.left) (spanned Δ ρ rule.right)

-- Both sides are judged in every lane: no lane has such a class, or the sheets of the sides have their values.
pub record Compared (Δ : List Transition) (tokens : List ℕ) (k : ℕ) (m after : List (List ℕ)) (rule : Rule) (some : Bool) : Type 0 where
  pub clear : some ≡ false → (l : ℕ) → l < 512 → (q : ℕ) → q < k → differ Δ (given k m l) rule q ≡ false
  pub left : some ≡ true → (l : ℕ) → l < 512 → lane k after 0 l ≡ spanned Δ (given k m l) rule.left
  pub right : some ≡ true → (l : ℕ) → l < 512 → lane k after (sheet_of tokens 24 * k) l ≡ spanned Δ (given k m l) rule.right

-- What looking for a class in one lane relies on: the left side's sheet and the one at row b are within the list, and the lane is of the first 64.
pub record Inspectable (k : ℕ) (m : List (List ℕ)) (b q j : ℕ) : Type 0 where
  pub left : k ≤ length m
  pub right : b + k ≤ length m
  pub class : q < k
  pub lane : j < 64

-- The variables' sheets are as they were.
pub record Untouched (k : ℕ) (m after : List (List ℕ)) : Type 0 where
  pub long : length after ≡ length m
  pub same : (i : ℕ) → 48 * k ≤ i → get_or after i [] ≡ get_or m i []

-- The sets in lane l where the variable `own` has the class y.
abbrev pub with_own : (k own : ℕ) → List (List ℕ) → (y l : ℕ) → ℕ → Set
with_own k own m y l x = cond (eqb x own) (plus none y) (given k m l x)

-- No substitution of v classes that begins with these has a critical pair.
abbrev pub Calm : Automaton → Rule → (v : ℕ) → List ℕ → Type 0
Calm M rule v xs =
    (τ : List ℕ) → length xs + length τ ≡ v → ((c : ℕ) → Memᴰ c τ → c < M.states) → (q : ℕ) → q < M.states → is_critical M rule (xs ++ τ) q ≡ false

-- The rows are as many as before.
abbrev pub Long : List (List ℕ) → List (List ℕ) → Type 0
Long m after = length after ≡ length m

-- At most n classes, each below k.
pub record Prefix (k n : ℕ) (xs : List ℕ) : Type 0 where
  pub few : length xs ≤ n
  pub low : (i : ℕ) → i < length xs → get_or xs i 0 < k

-- Where a class y of the variable after the prefix is not in the mask, the left side has no class, whatever the later variables are.
pub record Alive (M : Automaton) (rule : Rule) (xs : List ℕ) (mask : ℕ) : Type 0 where
  pub dead : (y : ℕ) → y < M.states → mem mask y ≡ false → (v : ℕ) → v ≤ 4 → Calm M rule v (xs ++ (y ∷ []))

-- No pair of classes of the two last variables behind the prefix has a critical pair.
abbrev pub CalmAll : Automaton → Rule → List ℕ → Type 0
CalmAll M rule xs = Calm M rule (length xs + 2) xs

-- Each class of the mask `live` that is not found, in the variable `own`, has no lane in which the left side has a class that the right side has not.
pub record Tried (arities words heads : List ℕ) (k own live found : ℕ) (m : List (List ℕ)) (rule : Rule) (mask : ℕ) : Type 0 where
  pub more : (y : ℕ) → mem mask y ≡ false → mem found y ≡ false
  pub clear : (y : ℕ) → y < k → mem live y ≡ true → mem mask y ≡ false → (l : ℕ) → l < 512 → (q : ℕ) → q < k
      → differ (woven_moves arities words (get_or heads 64 0)) (with_own k own m y l) rule q ≡ false

-- The rows of the variables other than `own` are as they were.
pub record Others (k own : ℕ) (m after : List (List ℕ)) : Type 0 where
  pub long : Long m after
  pub rows : (x q : ℕ) → x < 4 → q < k → (x ≡ own → ⊥) → get_or after ((48 + x) * k + q) [] ≡ get_or m ((48 + x) * k + q) []

-- With each class of the mask `live` that is not found there is no critical pair, the two last variables having any classes.
abbrev pub Swept : Automaton → Rule → List ℕ → (live found : ℕ) → Type 0
Swept M rule xs live found = (y : ℕ) → y < M.states → mem live y ≡ true → mem found y ≡ false → Calm M rule (length xs + 3) (xs ++ (y ∷ []))

-- The classes of the next variable that are to be looked at: with every other one there is no critical pair, or it is not needed.
pub record Open (M : Automaton) (rule : Rule) (v : ℕ) (xs : List ℕ) (needed mask : ℕ) : Type 0 where
  pub early : (y : ℕ) → y < M.states → mem mask y ≡ false → length xs + 1 < v
  pub passed : (y : ℕ) → y < M.states → mem mask y ≡ false → Calm M rule v (xs ++ (y ∷ [])) ⊎ (mem needed y ≡ false)

-- The classes of the variables before the last: as many of these three as a rule of v variables has.
pub record BeforeLast (k v : ℕ) (xs : List ℕ) : Type 0 where
  pub few : v ≤ 4
  pub long : length xs ≡ 3
  pub low : (i : ℕ) → get_or xs i 0 < k

-- The substitutions that differ in the last variable alone, one to a lane: whether one may have a critical pair, and if so both sides' values in the lanes.
pub record Batch (M : Automaton) (rule : Rule) (v x0 x1 x2 : ℕ) (tokens : List ℕ) (m : List (List ℕ)) (some : Bool) : Type 0 where
  pub each : some ≡ true → (j : ℕ) → j < M.states ^ rest v 3 → (q : ℕ)
      → less (lane M.states m 0 j) (lane M.states m (sheet_of tokens 24 * M.states) j) q ≡ is_critical M rule (chosen v x0 x1 x2 j) q
  pub clear : some ≡ false → (j : ℕ) → j < M.states ^ rest v 3 → (q : ℕ) → q < M.states → is_critical M rule (chosen v x0 x1 x2 j) q ≡ false
