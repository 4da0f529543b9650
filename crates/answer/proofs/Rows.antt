-- Lines one after the other, by their keys and values.
use mathlib.Core.Path.{◌≡◌}
use mathlib.Core.List.{List, [], ◌∷◌, ◌++◌}
use Prim.Native.Nat.{ℕ, ◌+◌, ◌<◌, ◌≤◌}
use native.Mathlib.Numerals.{add-one}
use denote.Bor.{Bor}
use Rattle.std.proofs.lemmas.List.{get_or_default}
use lib.ListN.{length, get_or, drop, drop_of_length-le}
use lib.Seq.{drop-cons}
use Rattle.paper.specs.Bytes.{LF}
use Rattle.answer.specs.Shown.{shown}
use Rattle.answer.specs.declared.Shown.{Shown}

-- A line: its key, its value and LF.
abbrev pub row : Bor (List ℕ) × Shown → List ℕ
row l = l.0.now ++ (shown l.1 ++ (LF ∷ []))

unfoldable pub rows : List (Bor (List ℕ) × Shown) → List ℕ
rows [] = []
rows (l ∷ ls) = row l ++ rows ls

-- From a place on there is a line and the later ones, or none more. The code reads the line's key and its value each by itself.
module _ (ls : List (Bor (List ℕ) × Shown)) (i : ℕ) where
  pub a_row : (d e : Bor (List ℕ) × Shown) → i < length ls → rows (drop i ls) ≡ row ((get_or ls i d).0, (get_or ls i e).1) ++ rows (drop (i + 1) ls)
  unfolding rows
  a_row d e h = rw (drop-cons ls i d h, add-one i, get_or_default ls i e d h)

  pub no_row : length ls ≤ i → rows (drop i ls) ≡ []
  unfolding rows
  no_row h = rw (drop_of_length-le ls {i = i} h)
