-- The first final pair: what is found of the states, and the turns of the loop over the classes.
use mathlib.Core.Path.{◌≡◌, sym, ap, ◌∙◌, fun_ext}
use mathlib.Core.Logic.{inl, inr}
use mathlib.Core.Bool.{Bool, true, false, ◌&&◌, false≢true}
use mathlib.Core.List.{List}
use mathlib.Core.Option.{Option as Maybe, none, some}
use native.Mathlib.Decide.{dec_lt}
use Rattle.std.specs.Prelude.{MatchOption}
use Rattle.std.specs.declared.option.Option.{Option}
use Rattle.std.specs.declared.option.Option.TheVariants.{None, Some}
use Rattle.paper.proofs.Examined.{found}
use Rattle.paper.proofs.Smallest.{smallest_some, smallest_none}
use Prim.Native.Nat.{ℕ, suc, ◌+◌, ◌-◌, ◌≤◌, ◌<◌}
use native.Mathlib.Omega.{arith}
use lib.ListN.{get_or}
use lib.Bits.{bit_and}
use Rattle.sets.specs.Sets.{mem}
use Rattle.sets.proofs.Laws.{mem-and}
use Rattle.paper.specs.Meaning.{Sharing}
use Rattle.paper.specs.Computed.{smallest}
use Rattle.judge.specs.Pairs.{said_first, pair_or, partner, shared_of}

-- What is left of n numbers from q on, where q is one of them.
left : (q n : ℕ) → q < n → n - q ≡ suc (n - (q + 1))
left q n h = omega arith

-- The number below n that passes while none before it does is the smallest; where none passes there is none.
pub first_smallest : (test : ℕ → Bool) (n : ℕ) (r : Option ℕ)
    → MatchOption r ((p : ℕ) → 0 ≤ p → p < n → test p ≡ false) (λ p. (0 ≤ p) × (p < n) × (test p ≡ true) × ((q : ℕ) → 0 ≤ q → q < p → test q ≡ false))
    → said_first r ≡ smallest test 0 n
unfolding said_first
first_smallest test n None none_passes = elim (found (smallest test 0 n)) [
  | inl e ↦ sym e
  | inr (p, e) ↦ let f = smallest_some test 0 n e in absurd (false≢true (sym (none_passes p f.low (omega (arith, f.high))) ∙ f.passes))
]
first_smallest test n (Some p) (low, high, passes, before) = elim (found (smallest test 0 n)) [
  | inl e ↦ absurd (smallest_none test 0 n e p low (omega arith) passes)
  | inr (q, e) ↦
      let f = smallest_some test 0 n e in
      elim (dec_lt q p) [
        | yes h ↦ absurd (false≢true (sym (before q f.low h) ∙ f.passes))
        | no h ↦ let same : p ≡ q = omega (arith, f.first p low passes) in ap some same ∙ sym e
      ]
]

module _ (pairs : List ℕ) (finals bad m q k : ℕ) where
  -- What is found for one class.
  both : smallest (mem (bit_and (get_or pairs q 0) bad)) 0 m ≡ smallest (λ p. mem (get_or pairs q 0) p && mem bad p) 0 m
  both = ap (λ (t : ℕ → Bool). smallest t 0 m) (fun_ext (λ p. mem-and (get_or pairs q 0) bad p))

  pub partner_on : mem finals q ≡ true → (o : Maybe ℕ) → o ≡ smallest (mem (bit_and (get_or pairs q 0) bad)) 0 m → partner pairs finals bad m q ≡ o
  unfolding partner
  partner_on e o said = rw (e, partner) (sym (said ∙ both))

  pub partner_off : mem finals q ≡ false → partner pairs finals bad m q ≡ none
  unfolding partner
  partner_off e = rw (e, partner)

  pub shared_here : q < k → (p : ℕ) → partner pairs finals bad m q ≡ some p → shared_of pairs finals bad q (k - q) m ≡ Sharing.shared q p
  unfolding shared_of pair_or
  shared_here h p e = rw (left q k h) (rw e)

  pub shared_on : q < k → partner pairs finals bad m q ≡ none → shared_of pairs finals bad q (k - q) m ≡ shared_of pairs finals bad (q + 1) (k - (q + 1)) m
  unfolding shared_of pair_or
  shared_on h e = rw (left q k h) (rw e (ap (λ n. shared_of pairs finals bad n (k - (q + 1)) m) (omega arith)))

  pub shared_end : k ≤ q → shared_of pairs finals bad q (k - q) m ≡ Sharing.nothing
  unfolding shared_of
  shared_end h = let nothing : k - q ≡ 0 = omega arith in rw nothing
