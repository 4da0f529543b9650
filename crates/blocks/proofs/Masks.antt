-- Masks of states.
use mathlib.Core.Path.{◌≡◌, sym, ap, ◌∙◌}
use mathlib.Core.Bool.{Bool}
use mathlib.Core.List.{List}
use Prim.Native.Nat.{ℕ, ◌+◌, ◌≤◌, ◌<◌, ◌^◌}
use native.Mathlib.Numerals.{add-one}
use lib.Bits.{bit_or, or_lt}
use lib.Pow.{pow-lt}
use lib.ListN.{length, drop, get_or, drop_of_length-le}
use lib.Seq.{drop-cons}
use Rattle.sets.specs.Sets.{mem, plus}
use Rattle.sets.proofs.Laws.{mem_with, mem_ext}
use Rattle.blocks.specs.Packed.{mask_from}

-- a mask with q
pub mask_with : (m q r : ℕ) → m < 2 ^ 64 → r < 2 ^ 64 → q < 64 → mem r ≡ plus (mem m) q → r ≡ bit_or m (2 ^ q)
mask_with m q r hm hr hq e = mem_ext 64 r (bit_or m (2 ^ q)) hr (or_lt 64 m (2 ^ q) hm (pow-lt hq)) (λ x l. ap (λ (f : ℕ → Bool). f x) (e ∙ sym (mem_with m q)))

-- one more state
pub mask_more : (states : List ℕ) (i mask r : ℕ) → i < length states → r ≡ bit_or mask (2 ^ get_or states i 0) → mask_from r (drop (i + 1) states) ≡ mask_from mask (drop i states)
unfolding mask_from
mask_more states i mask r h e = rw (add-one i, drop-cons states i 0 h, e)

-- no more states
pub mask_end : (states : List ℕ) (i mask : ℕ) → length states ≤ i → mask_from mask (drop i states) ≡ mask
unfolding mask_from
mask_end states i mask h = rw (drop_of_length-le states {i = i} h)
