-- How long texts are: entries parted by commas, lines, and one text after another.
use mathlib.Core.Path.{◌≡◌, refl, ◌∙◌}
use mathlib.Core.List.{List, [], ◌∷◌, map, Memᴰ}
use Prim.Native.Nat.{ℕ, suc, ◌+◌, ◌*◌, ◌-◌, ◌^◌, ◌≤◌, ◌<◌}
use Prim.Native.String.{String}
use native.Mathlib.Omega.{arith}
use native.Mathlib.Nat.{mul-suc}
use lib.ListN.{length, length-append}
use Rattle.paper.specs.Bytes.{bytes, LF, comma}
use Rattle.paper.specs.Answer.{decimal, decimals, line_with}
use Rattle.paper.specs.Spelling.{text_of_all}
use Rattle.paper.proofs.Lines.{with_commas}
use Rattle.paper.proofs.Numbers.{decimal_length}
use Rattle.paper.proofs.Spelling.{commas_decimals}

module _ {Y : Type 0} (g : Y → List ℕ) (k : ℕ) where
  -- Texts of at most k bytes, parted by commas.
  pub commas_length : (ys : List Y) → ((y : Y) → Memᴰ y ys → length (g y) ≤ k) → length (with_commas (map g ys)) ≤ suc k * length ys - 1
  unfolding with_commas
  commas_length [] h = omega arith
  commas_length (y ∷ []) h = omega (arith, h y (Memᴰ.head refl))
  commas_length (y ∷ z ∷ ys) h =
      omega (
        arith,
        length-append (g y) (comma ∷ with_commas (map g (z ∷ ys))),
        h y (Memᴰ.head refl),
        commas_length (z ∷ ys) (λ x m. h x (Memᴰ.tail m)),
        mul-suc (suc k) (length ys),
        mul-suc (suc k) (suc (length ys)),
      )

  -- The same with nothing between them.
  pub text_of_all_length : (ys : List Y) → ((y : Y) → Memᴰ y ys → length (g y) ≤ k) → length (text_of_all g ys) ≤ k * length ys
  unfolding text_of_all
  text_of_all_length [] h = omega arith
  text_of_all_length (y ∷ ys) h = omega (arith, length-append (g y) (text_of_all g ys), h y (Memᴰ.head refl), text_of_all_length ys (λ x m. h x (Memᴰ.tail m)), mul-suc k (length ys))

-- Numbers of at most k + 1 digits, parted by commas.
pub decimals_length : (k : ℕ) (ns : List ℕ) → ((n : ℕ) → Memᴰ n ns → n < 10 ^ suc k) → length (decimals ns) ≤ suc (suc k) * length ns - 1
decimals_length k ns h = rw (← commas_decimals ns) (commas_length decimal (suc k) ns (λ n m. decimal_length k n (h n m)))

-- A line is as long as its key, its value, `=` and LF.
pub line_length : (key : String) (value : List ℕ) → length (line_with key value) ≡ length (bytes key) + length value + 2
unfolding line_with bytes
line_length key value = length-append (bytes key) _ ∙ omega (arith, length-append value (LF ∷ []))
