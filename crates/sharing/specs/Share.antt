-- Sharing over flat tables: five bytes to a transition, and for each class a mask of states of B.
use Rattle.std.specs.Prelude.{ℕ, ◌+◌, ◌*◌, ◌/◌, ◌^◌, ◌≤◌, ◌<◌, Bool, true, false, ◌&&◌, ◌||◌, List, [], ◌∷◌, ◌≡◌, ◌⊎◌, eqb, leb, length, get_or}
use Rattle.theory.specs.Automaton.{Automaton}
use Rattle.theory.specs.Critical.{Share}
use Rattle.paper.specs.Limits.{most_arity}
use Rattle.sets.specs.Sets.{mem}
use Rattle.tables.specs.Held.{moves_of}

-- The automaton of a flat table: all of its rows. Sharing looks at the transitions alone.
abbrev pub flat : (ar rows : List ℕ) → Automaton
flat ar rows = record { states = 64; transitions = moves_of ar rows (length rows / 5); final = [] }

-- Every byte of the table is a place of a mask.
abbrev pub Small : List ℕ → Type 0
Small rows = (i : ℕ) → get_or rows i 0 < 64

-- Byte i of row j.
abbrev pub arg : List ℕ → ℕ → ℕ → ℕ
arg rows j i = get_or rows (j * 5 + i) 0

-- A mask for each class, as a relation.
abbrev pub rel : List ℕ → ℕ → ℕ → Bool
rel pairs c b = mem (get_or pairs c 0) b

-- Rows j and m are of one symbol, and their arguments are related, as many as the symbol has.
unfoldable pub joins : (merged bad ar : List ℕ) → (ℕ → ℕ → Bool) → ℕ → ℕ → Bool
joins merged bad ar r j m =
    eqb (get_or merged (j * 5) 0) (get_or bad (m * 5) 0)
    && ((leb (get_or ar (get_or merged (j * 5) 0) 0) 0 || r (arg merged j 1) (arg bad m 1))
    && ((leb (get_or ar (get_or merged (j * 5) 0) 0) 1 || r (arg merged j 2) (arg bad m 2))
    && (leb (get_or ar (get_or merged (j * 5) 0) 0) 2 || r (arg merged j 3) (arg bad m 3))))

-- What two rows would add is there.
abbrev pub ClosedAt : (merged bad ar pairs : List ℕ) → ℕ → ℕ → Type 0
ClosedAt merged bad ar pairs j m = joins merged bad ar (rel pairs) j m ≡ true → rel pairs (arg merged j 4) (arg bad m 4) ≡ true

-- Every marked pair shares a tree.
abbrev pub OnlyShared : (merged bad ar pairs : List ℕ) → Type 0
OnlyShared merged bad ar pairs = (c b : ℕ) → rel pairs c b ≡ true → Share (flat ar merged) (flat ar bad) c b

-- Each mask is a word of 64 bits.
abbrev pub Words : List ℕ → Type 0
Words pairs = (i : ℕ) → get_or pairs i 0 < 2 ^ 64

-- The sum of the masks.
unfoldable pub sum : List ℕ → ℕ
sum [] = 0
sum (x ∷ xs) = x + sum xs

-- One step, or several: what is added is shared, what was marked stays, a class outside `got` keeps its mask, the sum grows unless `got` is
-- empty, and `closed` holds of what was looked at.
pub record Grown (merged bad ar pairs pairs' : List ℕ) (got : ℕ) (closed : Type 0) : Type 0 where
  pub long : length pairs' ≡ length pairs
  pub words : Words pairs → Words pairs'
  pub only_shared : OnlyShared merged bad ar pairs → OnlyShared merged bad ar pairs'
  pub grew : (c b : ℕ) → rel pairs c b ≡ true → rel pairs' c b ≡ true
  pub others : (c : ℕ) → mem got c ≡ false → get_or pairs' c 0 ≡ get_or pairs c 0
  pub up : sum pairs ≤ sum pairs'
  pub more : (got ≡ 0) ⊎ (sum pairs < sum pairs')
  pub rest : closed

-- The set has every class.
abbrev pub Full : ℕ → Type 0
Full set = (c : ℕ) → c < 64 → mem set c ≡ true

-- A change of the classes in the set gives row j nothing to add: none of its arguments is in it. The full set stands for all rows being new.
pub record Still (merged ar : List ℕ) (set j : ℕ) : Type 0 where
  pub part : Full set → ⊥
  pub first : 0 < get_or ar (get_or merged (j * 5) 0) 0 → mem set (arg merged j 1) ≡ false
  pub second : 1 < get_or ar (get_or merged (j * 5) 0) 0 → mem set (arg merged j 2) ≡ false
  pub third : 2 < get_or ar (get_or merged (j * 5) 0) 0 → mem set (arg merged j 3) ≡ false

-- Row j with the first n rows of the bad table.
abbrev pub SweptTo : (merged bad ar pairs : List ℕ) → ℕ → ℕ → Type 0
SweptTo merged bad ar pairs j n = (m : ℕ) → m < n → ClosedAt merged bad ar pairs j m

-- The first n rows with every row of the bad table.
abbrev pub PassedTo : (merged bad ar pairs : List ℕ) → ℕ → Type 0
PassedTo merged bad ar pairs n = (j : ℕ) → j < n → SweptTo merged bad ar pairs j (length bad / 5)

-- Row j has nothing to add, unless an argument of it is in the set.
abbrev pub Rests : (merged bad ar pairs : List ℕ) → ℕ → ℕ → Type 0
Rests merged bad ar pairs set j = Still merged ar set j → SweptTo merged bad ar pairs j (length bad / 5)

-- The same of every row.
abbrev pub AllRest : (merged bad ar pairs : List ℕ) → ℕ → Type 0
AllRest merged bad ar pairs set = (j : ℕ) → j < length merged / 5 → Rests merged bad ar pairs set j

-- Exactly the pairs that share a tree are marked.
abbrev pub Exact : (merged bad ar pairs : List ℕ) → Type 0
Exact merged bad ar pairs =
    (c b : ℕ) → (rel pairs c b ≡ true → Share (flat ar merged) (flat ar bad) c b) × (Share (flat ar merged) (flat ar bad) c b → rel pairs c b ≡ true)

-- The numbers in the tables that the code relies on.
pub record Shareable (merged bad ar : List ℕ) : Type 0 where
  pub small : Small merged
  pub bad_small : Small bad
  pub rank : (f : ℕ) → get_or ar f 0 ≤ most_arity

-- What comparing byte i of the one table and byte l of the other relies on: they are there, there is a mask for each class, and the bytes are places of masks.
pub record TwoBytes (pairs merged : List ℕ) (i : ℕ) (bad : List ℕ) (l : ℕ) : Type 0 where
  pub here : i < length merged
  pub there : l < length bad
  pub masks : length pairs ≡ 64
  pub small : Small merged
  pub bad_small : Small bad

-- Row j of the one table and row m of the other are there, and there is a mask for each class.
pub record TwoRows (pairs merged : List ℕ) (j : ℕ) (bad : List ℕ) (m : ℕ) : Type 0 where
  pub here : j < length merged / 5
  pub there : m < length bad / 5
  pub masks : length pairs ≡ 64
