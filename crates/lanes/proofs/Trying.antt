-- The classes of one variable tried one after the other, and the batches that are swept with all of them.
use mathlib.Core.Path.{◌≡◌, refl, sym, ap, ap₂, ◌∙◌}
use mathlib.Core.Bool.{Bool, true, false, cond, not, ◌&&◌}
use mathlib.Core.Logic.{◌⊎◌, inl, inr}
use mathlib.Core.List.{List, [], ◌∷◌, ◌++◌}
use Prim.Native.Nat.{ℕ, ◌+◌, ◌*◌, ◌≤◌, ◌<◌}
use native.Mathlib.Decide.{dec_lt, ℕ_discrete}
use native.Mathlib.Omega.{arith}
use lib.Dec.{eqb}
use lib.ListN.{length, get_or, length-append, get_or-append}
use lib.Seq.{get_or-append_seam}
use borrow.Author.Tests.{eq-eqb, ne_eqb}
use Rattle.theory.specs.Term.{Term}
use Rattle.std.specs.declared.option.Option.{Option}
use Rattle.std.specs.declared.option.Option.TheVariants.{Some}
use Rattle.theory.specs.Rewriting.{Rule}
use Rattle.theory.specs.Automaton.{Transition}
use Rattle.theory.proofs.Bools.{neither, not_both}
use Rattle.sets.specs.Sets.{Set, mem, none, plus}
use Rattle.values.specs.Sets.{spanned}
use Rattle.values.specs.Lanes.{given}
use Rattle.values.specs.Standing.{Each, Spelled, Kept}
use Rattle.values.proofs.Spanned.{spanned_same, each_then}
use Rattle.values.proofs.Keeping.{kept_near}
use Rattle.lanes.specs.Batches.{Touched, Fixed, Paired, Untouched, differ, with_own, Others}
use Rattle.lanes.proofs.Calm.{Laid}
use Rattle.lanes.proofs.Stays.{given_stays, other_rows, untouched_rows}

-- The set of the variable `own`, and those of the others.
module _ (k own : ℕ) (m : List (List ℕ)) (y l : ℕ) where
  own_set : (x : ℕ) → x ≡ own → with_own k own m y l x ≡ plus none y
  own_set x e = ap (λ (b : Bool). cond b (plus none y) (given k m l x)) (eq-eqb x own e)

  other_set : (x : ℕ) → (x ≡ own → ⊥) → with_own k own m y l x ≡ given k m l x
  other_set x ne = ap (λ (b : Bool). cond b (plus none y) (given k m l x)) (ne_eqb x own ne)

-- With the prefix fixed and the next two variables paired behind `own`, the lanes are laid for the prefix and the class y.
pub laid_own : (k : ℕ) (m : List (List ℕ)) (xs : List ℕ) (start y : ℕ) → Fixed k m xs → Paired k m (length xs + 1) (length xs + 2) start 512
    → Laid k (xs ++ (y ∷ [])) start (with_own k (length xs) m y)
laid_own k m xs start y fixed paired =
    let own = length xs in
    let long : length (xs ++ (y ∷ [])) ≡ own + 1 = length-append xs (y ∷ []) in
    let longer : length (xs ++ (y ∷ [])) + 1 ≡ own + 2 = omega (arith, long) in
    record {
      front = λ x l hx hl. elim (dec_lt x own) [
        | yes h ↦ other_set k own m y l x (λ e. omega arith) ∙ fixed.each x l h hl ∙ ap (plus none) (sym (get_or-append xs (y ∷ []) 0 x h))
        | no nh ↦
            let e : x ≡ own = omega (arith, long) in
            own_set k own m y l x e ∙ ap (plus none) (sym (ap (λ i. get_or (xs ++ (y ∷ [])) i 0) e ∙ get_or-append_seam xs y [] 0))
      ];
      high = λ a b l ha hb hl is. ap (with_own k own m y l) long ∙ other_set k own m y l (own + 1) (λ e. omega arith) ∙ paired.high a b l ha hb hl is;
      low = λ a b l ha hb hl is. ap (with_own k own m y l) longer ∙ other_set k own m y l (own + 2) (λ e. omega arith) ∙ paired.low a b l ha hb hl is;
    }

-- The two values differ in the same classes where the four variables have the same sets.
differ_same : (Δ : List Transition) (ρ τ : ℕ → Set) (rule : Rule) → Each (λ x. x < 4) rule.left → Each (λ x. x < 4) rule.right → ((x : ℕ) → x < 4 → ρ x ≡ τ x)
    → (q : ℕ) → differ Δ ρ rule q ≡ differ Δ τ rule q
differ_same Δ ρ τ rule left right same q = ap₂ (λ a b. a && not b) (side left) (side right)
  where
    side : {t : Term ℕ} → Each (λ x. x < 4) t → spanned Δ ρ t q ≡ spanned Δ τ t q
    side each = ap (λ (s : Set). s q) (spanned_same Δ ρ τ (each_then (λ x. x < 4) (λ x. ρ x ≡ τ x) same each))

-- The classes below x are tried: those of the mask `live` that are not found have no lane with a critical pair.
pub record Trying (Δ : List Transition) (arities tokens : List ℕ) (k own live found : ℕ) (m₀ : List (List ℕ)) (near : Option ℕ) (m : List (List ℕ)) (ends : List ℕ) (mask x : ℕ) : Type 0 where
  pub upto : x ≤ k
  pub token : near ≡ Some (64 + own)
  pub others : Others k own m₀ m
  pub kept : Kept Δ arities tokens k near m ends
  pub more : (y : ℕ) → mem mask y ≡ false → mem found y ≡ false
  pub clear : (rule : Rule) → Spelled arities tokens rule → (y : ℕ) → y < x → mem live y ≡ true → mem mask y ≡ false → (l : ℕ) → l < 512 → (q : ℕ) → q < k
      → differ Δ (with_own k own m₀ y l) rule q ≡ false

pub trying_none : (Δ : List Transition) (arities tokens : List ℕ) (k own live found : ℕ) (m₀ : List (List ℕ)) (near : Option ℕ) (ends : List ℕ)
    → near ≡ Some (64 + own) → Kept Δ arities tokens k near m₀ ends → Trying Δ arities tokens k own live found m₀ near m₀ ends found 0
trying_none Δ arities tokens k own live found m₀ near ends token kept = record {
  upto = omega arith;
  token = token;
  others = record { long = refl; rows = λ x q hx hq ne. refl };
  kept = kept;
  more = λ y e. e;
  clear = λ rule s y hy. absurd (omega arith);
}

module _ {Δ : List Transition} {arities tokens : List ℕ} {k own live found : ℕ} {m₀ : List (List ℕ)} {near : Option ℕ} {m : List (List ℕ)} {ends : List ℕ} {mask x : ℕ} where
  -- The same rows, ends and mask by other names.
  pub trying_same : {m' : List (List ℕ)} {ends' : List ℕ} {mask' : ℕ} → m' ≡ m → ends' ≡ ends → mask' ≡ mask
      → Trying Δ arities tokens k own live found m₀ near m ends mask x → Trying Δ arities tokens k own live found m₀ near m' ends' mask' x
  trying_same p q r old = rw (p, q, r) old

  module _ (going : x < k) (old : Trying Δ arities tokens k own live found m₀ near m ends mask x) where
    -- A class that is not tried: it is not in `live`, or found already.
    pub trying_skip : (mem live x ≡ true → mem mask x ≡ false → ⊥) → Trying Δ arities tokens k own live found m₀ near m ends mask (x + 1)
    trying_skip skipped = record {
      upto = omega arith;
      token = old.token;
      others = old.others;
      kept = old.kept;
      more = old.more;
      clear = λ rule s y hy on out l hl q hq. elim (dec_lt y x) [
        | yes h ↦ old.clear rule s y h on out l hl q hq
        | no nh ↦ let e : y ≡ x = omega arith in absurd (skipped (ap (mem live) (sym e) ∙ on) (ap (mem mask) (sym e) ∙ out))
      ];
    }

    module _ (fresh : List (List ℕ)) (low : own < 2) (touched : Touched k own (own + 1) m fresh) where
      -- What is kept stays when the variable gets another class.
      pub fresh_kept : Kept Δ arities tokens k near fresh ends
      fresh_kept = kept_near Δ arities tokens k near m fresh ends own old.token (λ i out. touched.same i (outside i out)) old.kept
        where
          outside : (i : ℕ) → (i < (48 + own) * k) ⊎ ((48 + own) * k + k ≤ i) → (i < (48 + own) * k) ⊎ ((48 + (own + 1)) * k ≤ i)
          outside i (inl h) = inl h
          outside i (inr h) = inr (omega arith)

      module _ (fixed : (l : ℕ) → l < 512 → given k fresh l own ≡ plus none x) (after : List (List ℕ)) (untouched : Untouched k fresh after) where
        fresh_sets : (l : ℕ) → l < 512 → (z : ℕ) → z < 4 → with_own k own m₀ x l z ≡ given k fresh l z
        fresh_sets l hl z hz = elim (ℕ_discrete z own) [
          | yes e ↦ own_set k own m₀ x l z e ∙ sym (ap (given k fresh l) e ∙ fixed l hl)
          | no ne ↦ other_set k own m₀ x l z ne ∙ sym (given_stays k m fresh z l (other_rows k m fresh own touched z ne) ∙ given_stays k m₀ m z l (λ q hq. old.others.rows z q hz hq ne))
        ]

        after_others : Others k own m₀ after
        after_others = record {
          long = untouched.long ∙ touched.long ∙ old.others.long;
          rows = λ z q hz hq ne. untouched_rows k fresh after untouched z q hq ∙ other_rows k m fresh own touched z ne q hq ∙ old.others.rows z q hz hq ne;
        }

        module _ (after-ends : List ℕ) (kept : Kept Δ arities tokens k near after after-ends) where
          -- A class with which no lane has a critical pair.
          pub trying_clear : ((rule : Rule) → Spelled arities tokens rule → (l : ℕ) → l < 512 → (q : ℕ) → q < k → differ Δ (given k fresh l) rule q ≡ false)
              → Trying Δ arities tokens k own live found m₀ near after after-ends mask (x + 1)
          trying_clear clear = record {
            upto = omega arith;
            token = old.token;
            others = after_others;
            kept = kept;
            more = old.more;
            clear = λ rule s y hy on out l hl q hq. elim (dec_lt y x) [
              | yes h ↦ old.clear rule s y h on out l hl q hq
              | no nh ↦
                  let e : y ≡ x = omega arith in
                  ap (λ y. differ Δ (with_own k own m₀ y l) rule q) e
                  ∙ differ_same Δ (with_own k own m₀ x l) (given k fresh l) rule s.left_four s.right_four (fresh_sets l hl) q
                  ∙ clear rule s l hl q hq
            ];
          }

          -- A class that is found now.
          pub trying_found : (wider : ℕ) → mem wider ≡ plus (mem mask) x → Trying Δ arities tokens k own live found m₀ near after after-ends wider (x + 1)
          trying_found wider is = record {
            upto = omega arith;
            token = old.token;
            others = after_others;
            kept = kept;
            more = λ y e. old.more y (apart y e).0;
            clear = λ rule s y hy on out l hl q hq. elim (dec_lt y x) [
              | yes h ↦ old.clear rule s y h on (apart y out).0 l hl q hq
              | no nh ↦ let e : x ≡ y = omega arith in not_both (eqb x y) (eq-eqb x y e) (apart y out).1
            ];
          }
            where
              apart : (y : ℕ) → mem wider y ≡ false → (mem mask y ≡ false) × (eqb x y ≡ false)
              apart y e = neither (mem mask y) (eqb x y) (sym (ap (λ (s : Set). s y) is) ∙ e)
