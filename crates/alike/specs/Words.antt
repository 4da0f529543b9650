-- Which classes stand in the same words at an argument, and how the masks are narrowed by them.
use Rattle.std.specs.Prelude.{◌≡◌, true, ◌↔◌, List, ℕ, ◌-◌, ◌*◌, ◌^◌, ◌≤◌, ◌<◌, length, get_or}
use Rattle.sets.specs.Sets.{mem}
use Rattle.woven.specs.Woven.{part, woven_moves}
use Rattle.alike.specs.Alike.{AlikeAt}

-- A word without its argument p.
unfoldable pub rest_of : (w p : ℕ) → ℕ
rest_of w p = w - part w p * 2 ^ (8 * p)

-- Among the first n words is one with this rest that has c as argument p.
pub record Stood (words : List ℕ) (n p rest c : ℕ) : Type 0 where
  pub place : ℕ
  pub before : place < n
  pub same : rest_of (get_or words place 0) p ≡ rest
  pub class : part (get_or words place 0) p ≡ c

-- The mask has just the classes that so stand.
abbrev pub Standing : List ℕ → (n p rest mask : ℕ) → Type 0
Standing words n p rest mask = (c : ℕ) → (mem mask c ≡ true) ↔ Stood words n p rest c

-- What is left of a mask: classes that are in the set exactly when d is.
abbrev pub Narrowed : (mask set d left : ℕ) → Type 0
Narrowed mask set d left = (c : ℕ) → mem left c ≡ true → (mem mask c ≡ true) × (mem set c ≡ mem set d)

-- The first n masks are narrowed by the set, each for its own class, and the others are as they were.
pub record NarrowedTo (set : ℕ) (old : List ℕ) (n : ℕ) (new : List ℕ) : Type 0 where
  pub long : length new ≡ length old
  pub done : (d : ℕ) → d < n → Narrowed (get_or old d 0) set d (get_or new d 0)
  pub kept : (k : ℕ) → n ≤ k → get_or new k 0 ≡ get_or old k 0

-- No mask has a class that it had not.
abbrev pub Within : (old new : List ℕ) → Type 0
Within old new = (k c : ℕ) → mem (get_or new k 0) c ≡ true → mem (get_or old k 0) c ≡ true

-- A symbol and one of its arguments.
pub record PlaceGiven (f p : ℕ) : Type 0 where
  pub symbol : f < 64
  pub argument : p < 3

-- The classes left in a mask are alike to the mask's own class at argument p of the symbol f.
pub record PlaceNarrowed (words heads : List ℕ) (f p wanted : ℕ) (old new : List ℕ) : Type 0 where
  pub long : length new ≡ length old
  pub within : Within old new
  pub alike : (arities : List ℕ) (d c : ℕ) → d < 64 → mem (get_or new d 0) c ≡ true → AlikeAt (woven_moves arities words (get_or heads 64 0)) wanted f p c d
