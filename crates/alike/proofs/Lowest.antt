-- The classes in whose masks no smaller class is: what each turn of the loop leaves.
use mathlib.Core.Path.{◌≡◌, refl, sym, ap, ◌∙◌}
use mathlib.Core.Logic.{◌⊎◌, inl, inr}
use mathlib.Core.Bool.{Bool, true, false, false≢true}
use mathlib.Core.List.{List}
use Prim.Native.Nat.{ℕ, zero, suc, ◌+◌, ◌^◌, ◌<◌}
use native.Mathlib.Omega.{arith}
use native.Mathlib.Decide.{dec_lt}
use lib.Bits.{bit_and}
use lib.Dec.{eqb}
use lib.Pow.{pow_pos}
use lib.ListN.{get_or}
use borrow.Author.Tests.{ltb-true, eq-eqb}
use Rattle.theory.proofs.Bools.{neither}
use Rattle.sets.specs.Sets.{Set, mem, plus, under}
use Rattle.sets.proofs.Laws.{mem-zero, mem_ext}
use Rattle.alike.specs.Needed.{Lowest}
use Rattle.alike.proofs.Steps.{both_in}

-- A mask that is not 0 has a member.
member_below : (a k : ℕ) → ((c : ℕ) × (mem a c ≡ true)) ⊎ ((c : ℕ) → c < k → mem a c ≡ false)
member_below a zero = inr (λ c h. absurd (omega arith))
member_below a (suc k) = elim (member_below a k) [
  | inl found ↦ inl found
  | inr none ↦ go (mem a k) refl none
]
  where
    go : (b : Bool) → mem a k ≡ b → ((c : ℕ) → c < k → mem a c ≡ false) → ((c : ℕ) × (mem a c ≡ true)) ⊎ ((c : ℕ) → c < suc k → mem a c ≡ false)
    go true e none = inl (k, e)
    go false e none = inr (λ c h. elim (dec_lt c k) [ yes l ↦ none c l | no l ↦ let same : c ≡ k = omega arith in rw same e ])

pub some_member : (a : ℕ) → a < 2 ^ 64 → (a ≡ 0 → ⊥) → (c : ℕ) × (mem a c ≡ true)
some_member a h n = elim (member_below a 64) [
  | inl found ↦ found
  | inr none ↦ absurd (n (mem_ext 64 a 0 h (pow_pos 64) (λ q l. none q l ∙ sym (ap (λ (s : Set). s q) mem-zero))))
]

-- The classes with no smaller class in their masks, one class more.
module _ (same : List ℕ) where
  module _ (n mask : ℕ) (old : Lowest same n mask) where
    pub lowest_in : (new : ℕ) → mem new ≡ plus (mem mask) n → Lowest same (n + 1) new
    lowest_in new is d h e =
        let (out, other) = neither (mem mask d) (eqb n d) (sym (ap (λ (s : Set). s d) is) ∙ e) in
        elim (dec_lt d n) [
          | yes l ↦ old d l out
          | no l ↦ let here : n ≡ d = omega arith in absurd (false≢true (sym other ∙ eq-eqb n d here))
        ]

    pub lowest_out : (a : ℕ) → mem a ≡ under n → bit_and (get_or same n 0) a < 2 ^ 64 → (bit_and (get_or same n 0) a ≡ 0 → ⊥) → Lowest same (n + 1) mask
    lowest_out a is fits some d h e = elim (dec_lt d n) [
      | yes l ↦ old d l e
      | no l ↦
          let here : d ≡ n = omega arith in
          let (c, m) = some_member (bit_and (get_or same n 0) a) fits some in
          let (inside, low) = both_in (get_or same n 0) a c m in
          rw here (c, ltb-true c n (sym (ap (λ (s : Set). s c) is) ∙ low), inside)
    ]
