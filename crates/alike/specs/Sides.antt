-- A variable's places in a side of a rule, and the classes that are alike at all of them.
use Rattle.std.specs.Prelude.{◌≡◌, true, cond, List, map, ℕ, ◌+◌, ◌≤◌, ◌<◌, ltb, length, get_or, drop}
use Rattle.paper.specs.Limits.{most_arity}
use Rattle.theory.specs.Term.{Term, Terms}
use Rattle.theory.specs.Preorder.{Token}
use Rattle.sets.specs.Sets.{mem, all_mask}
use Rattle.tables.specs.Held.{token_of}
use Rattle.woven.specs.Woven.{woven_moves}
use Rattle.values.specs.Standing.{Spells, SpellsRow}
use Rattle.alike.specs.declared.Arguments.{Arguments}
use Rattle.alike.specs.Alike.{AlikeAt, AlikeIn, AlikeRow}
use Rattle.alike.specs.Words.{Within}

-- How many subterms follow a token: a variable has none.
unfoldable pub rank : List ℕ → ℕ → ℕ
rank arities token = cond (ltb token 64) (get_or arities token 0) 0

-- Some term stands at a place.
pub record Written (arities tokens : List ℕ) (at : ℕ) : Type 0 where
  pub term : Term ℕ
  pub rest : List Token
  pub spells : Spells arities tokens at term rest

-- Some row of n terms does.
pub record WrittenRow (arities tokens : List ℕ) (at n : ℕ) : Type 0 where
  pub row : Terms ℕ
  pub rest : List Token
  pub spells : SpellsRow arities tokens at n row rest

-- What a token asks that is the first of the arguments.
pub record TokenGiven (x : ℕ) (here : Arguments) : Type 0 where
  pub variable : x < 4
  pub symbol : here.symbol < 64
  pub argument : here.first < 3

-- If the token is the variable x, the masks are left with classes that are alike at its place.
pub record TokenJoined (words heads : List ℕ) (x token : ℕ) (here : Arguments) (old new : List ℕ) : Type 0 where
  pub long : length new ≡ length old
  pub within : Within old new
  pub alike : token ≡ x + 64 → (arities : List ℕ) (d c : ℕ) → d < 64 → mem (get_or new d 0) c ≡ true
      → AlikeAt (woven_moves arities words (get_or heads 64 0)) here.wanted here.symbol here.first c d

-- What a walk over the rest of a symbol's arguments asks.
pub record RowGiven (arities tokens : List ℕ) (x : ℕ) (here : Arguments) (at : ℕ) : Type 0 where
  pub variable : x < 4
  pub symbol : 0 < here.left → here.symbol < 64
  pub arguments : here.first + here.left ≤ most_arity
  pub row : WrittenRow arities tokens at here.left

-- The masks are left with classes that are alike at all places of x in these arguments, behind which `next` is.
pub record RowJoined (words heads arities tokens : List ℕ) (x : ℕ) (here : Arguments) (at : ℕ) (old new : List ℕ) (next : ℕ) : Type 0 where
  pub long : length new ≡ length old
  pub within : Within old new
  pub alike : (ts : Terms ℕ) (rest : List Token) → SpellsRow arities tokens at here.left ts rest → (d c : ℕ) → d < 64 → mem (get_or new d 0) c ≡ true
      → AlikeRow (woven_moves arities words (get_or heads 64 0)) x c d here.wanted here.symbol here.first ts
  pub after : (ts : Terms ℕ) (rest : List Token) → SpellsRow arities tokens at here.left ts rest → map token_of (drop next tokens) ≡ rest
  pub forward : at ≤ next

-- What a walk over a term asks.
pub record SideGiven (arities tokens : List ℕ) (x at : ℕ) : Type 0 where
  pub variable : x < 4
  pub term : Written arities tokens at

-- The masks are left with classes that are alike at all places of x in the term, of which all classes are wanted.
pub record SideJoined (words heads arities tokens : List ℕ) (x at : ℕ) (old new : List ℕ) : Type 0 where
  pub long : length new ≡ length old
  pub within : Within old new
  pub alike : (t : Term ℕ) (rest : List Token) → Spells arities tokens at t rest → (d c : ℕ) → d < 64 → mem (get_or new d 0) c ≡ true
      → AlikeIn (woven_moves arities words (get_or heads 64 0)) x c d all_mask t
