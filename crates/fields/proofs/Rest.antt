-- The rest of the file from a place on: nothing at the end, else the byte there and the rest from the next place on.
use mathlib.Core.Path.{◌≡◌, sym, ap, ◌∙◌}
use mathlib.Core.List.{List, [], ◌∷◌}
use Prim.Native.Nat.{ℕ, ◌+◌, ◌≤◌, ◌<◌}
use native.Mathlib.Numerals.{add-one}
use lib.ListN.{length, drop, get_or, drop_of_length-le}
use lib.Seq.{drop-cons, drop-drop}

module _ (file : List ℕ) (at : ℕ) where
  pub rest_end : length file ≤ at → drop at file ≡ []
  rest_end h = drop_of_length-le file h

  pub rest_cons : at < length file → drop at file ≡ get_or file at 0 ∷ drop (at + 1) file
  rest_cons h = rw (add-one, drop-cons file at 0)

-- What is left after one byte.
pub next_rest : (file : List ℕ) (at b : ℕ) (s : List ℕ) → drop at file ≡ b ∷ s → drop (at + 1) file ≡ s
next_rest file at b s e = sym (drop-drop 1 at file) ∙ ap (drop 1) e
