-- What `has_end` and `after_key` say of the rest of a file, and of a line that is opened.
use mathlib.Core.Path.{◌≡◌, refl, ap, ◌∙◌}
use mathlib.Core.Bool.{true, false, cond}
use mathlib.Core.Logic.{inl, inr}
use mathlib.Core.List.{List, [], ◌∷◌, ◌++◌}
use Prim.Native.Nat.{ℕ, suc, ◌+◌, ◌-◌, ◌≤◌, ◌<◌}
use native.Mathlib.Omega.{arith}
use Rattle.std.proofs.Common.{add-zero}
use lib.Dec.{eqb}
use lib.ListN.{length, take, drop, length-drop, drop_of_length-le}
use Rattle.std.proofs.lemmas.List.{take_all}
use Rattle.std.specs.List.{list_any, starts_with}
use Rattle.theory.proofs.Bools.{eqb_sym}
use Rattle.paper.specs.Bytes.{bytes}
use Rattle.paper.specs.Certificate.{Row}
use Rattle.paper.proofs.Smallest.{decided}
use Rattle.std.specs.declared.option.Option.TheVariants.{Some, None}
use Rattle.verdicts.specs.declared.refusals.Reason.TheVariants.{NoLine, NoValue}
use Rattle.fields.specs.Line.{after_key, has_end, ending, open_at, key_of, unended}

-- an LF stands in s where one of its bytes is an LF
ends_any : (s : List ℕ) → has_end s ≡ list_any (λ b. eqb b 10) s
unfolding has_end
ends_any [] = refl
ends_any (b ∷ s) = elim (decided (eqb b 10)) [
  | inl p ↦ rw (p, has_end)
  | inr p ↦ rw (p, has_end) (ends_any s)
]

-- the place after a key that stands at the front of s
key_starts : (key s : List ℕ) (at : ℕ) → after_key key at s ≡ cond (starts_with eqb s key) (Some (at + length key)) None
unfolding after_key
key_starts [] s at = rw add-zero
key_starts (k ∷ ks) [] at = refl
key_starts (k ∷ ks) (b ∷ s) at = elim (decided (eqb b k)) [
  | inl p ↦ let e : at + 1 + length ks ≡ at + suc (length ks) = omega arith in rw (p, eqb_sym k b, p, after_key) (rw (← e) (key_starts ks s (at + 1)))
  | inr p ↦ rw (p, eqb_sym k b, p, after_key)
]

-- a line's key is not empty
key_none : (r : Row) (at : ℕ) → after_key (key_of r) at [] ≡ None
unfolding after_key key_of
key_none r at = go (bytes r.key)
  where
    go : (bs : List ℕ) → after_key (bs ++ bytes "=") at [] ≡ None
    go [] = unfold bytes in refl
    go (b ∷ bs) = refl

-- the rest of the file, as it is sliced
sliced : (file : List ℕ) (at : ℕ) → take (length file - at) (drop at file) ≡ drop at file
sliced file at = take_all (length file - at) (drop at file) (omega (arith, length-drop at file))

pub ends_in : (file : List ℕ) (at : ℕ) → has_end (drop at file) ≡ list_any (λ b. eqb b 10) (take (length file - at) (drop at file))
ends_in file at = rw (sliced file at) (ends_any (drop at file))

pub ends_not : (file : List ℕ) (at : ℕ) → length file ≤ at → has_end (drop at file) ≡ false
unfolding has_end
ends_not file at h = rw (drop_of_length-le file h)

module _ (r : Row) (file : List ℕ) (at : ℕ) where
  pub key_in : after_key (key_of r) at (drop at file) ≡ cond (starts_with eqb (take (length file - at) (drop at file)) (key_of r)) (Some (at + length (key_of r))) None
  key_in = rw (sliced file at) (key_starts (key_of r) (drop at file) at)

  pub key_past : length file < at → after_key (key_of r) at (drop at file) ≡ None
  key_past h = let l : length file ≤ at = omega arith in rw (drop_of_length-le file l) (key_none r at)

pub key_within : (key s : List ℕ) (at a : ℕ) → after_key key at s ≡ Some a → (at ≤ a) × (a ≤ at + length s)
unfolding after_key
key_within [] s at a e = let p : at ≡ a = cc in (omega arith, omega arith)
key_within (k ∷ ks) [] at a e = cc
key_within (k ∷ ks) (b ∷ s) at a e = elim (decided (eqb b k)) [
  | inl p ↦ let h = key_within ks s (at + 1) a (rw (p, after_key) at e) in (omega arith, omega arith)
  | inr p ↦ let w : None ≡ Some a = rw (p, after_key) at e in cc
]

module _ (key file : List ℕ) (at : ℕ) where
  pub open_no_key : after_key key at (drop at file) ≡ None → open_at key file at ≡ None
  unfolding ending
  open_no_key e = ap (ending file) e

  pub open_no_end : (a : ℕ) → after_key key at (drop at file) ≡ Some a → has_end (drop a file) ≡ false → open_at key file at ≡ None
  unfolding ending
  open_no_end a e h = ap (ending file) e ∙ rw (h, ending)

  pub open_at_lem : (a : ℕ) → after_key key at (drop at file) ≡ Some a → has_end (drop a file) ≡ true → open_at key file at ≡ Some a
  unfolding ending
  open_at_lem a e h = ap (ending file) e ∙ rw (h, ending)

-- the reason why a value at the front of s is refused
module _ (s : List ℕ) where
  pub unended_value : has_end s ≡ true → unended NoValue s ≡ NoValue
  unfolding unended
  unended_value h = rw (h, unended)

  pub unended_line : has_end s ≡ false → unended NoValue s ≡ NoLine
  unfolding unended
  unended_line h = rw (h, unended)
