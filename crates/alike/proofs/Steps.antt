-- Masks narrowed by a set, and the classes that stand in no words.
use mathlib.Core.Path.{◌≡◌, sym, ap, ◌∙◌}
use mathlib.Core.Bool.{true, false≢true}
use mathlib.Core.List.{List}
use Prim.Native.Nat.{ℕ}
use native.Mathlib.Omega.{arith}
use lib.Bits.{bit_and}
use Rattle.theory.proofs.Bools.{and_both}
use Rattle.sets.specs.Sets.{Set, mem}
use Rattle.sets.proofs.Laws.{mem-zero, mem-and}
use Rattle.alike.specs.Words.{Standing, Narrowed}

-- What two masks have in common is in both.
pub both_in : (a b c : ℕ) → mem (bit_and a b) c ≡ true → (mem a c ≡ true) × (mem b c ≡ true)
both_in a b c h = and_both (mem a c) (mem b c) (sym (mem-and a b c) ∙ h)

-- The mask narrowed to the set, where d is in it.
pub narrow_in : (mask s d : ℕ) → mem s d ≡ true → Narrowed mask s d (bit_and mask s)
narrow_in mask s d e c h = let (a, b) = both_in mask s c h in (a, b ∙ sym e)

-- No class stands in no words.
pub standing_none : (words : List ℕ) (p rest : ℕ) → Standing words 0 p rest 0
standing_none words p rest c = (λ h. absurd (false≢true (sym (ap (λ (t : Set). t c) mem-zero) ∙ h)), λ s. absurd (omega (arith, s.before)))
