-- Sharing: a step adds only pairs that share a tree, and pairs to which no step adds hold all that do.
use mathlib.Core.Path.{◌≡◌, refl, sym, ap, ap₂, ◌∙◌, subst, subst₂}
use mathlib.Core.Logic.{◌⊎◌, inl, inr, ⊎_elim}
use mathlib.Core.Bool.{Bool, true, false, ◌&&◌, ◌||◌, or-true, true≢false}
use mathlib.Core.List.{List, [], ◌∷◌}
use Prim.Native.Nat.{ℕ, zero, suc, ◌+◌, ◌-◌, ◌*◌, ◌/◌, ◌^◌, ◌≤◌, ◌<◌}
use native.Mathlib.Decide.{ℕ_discrete, dec_le}
use native.Mathlib.Omega.{arith}
use lib.Bits.{bit_or}
use lib.Dec.{eqb, leb, lit<}
use lib.ListN.{length, get_or, take, set, length-set}
use lib.Seq.{get_or-set_same, get_or-set_other}
use borrow.Author.Tests.{eq-eqb, eqb-true, le-leb}
use Rattle.sets.specs.Sets.{Set, mem, all_mask, none, plus}
use Rattle.sets.proofs.Laws.{mem-or, mem-zero, mem_all, mem_ext}
use Rattle.theory.specs.Critical.{Share}
use Rattle.theory.specs.Sharing.{pairwise}
use Rattle.theory.proofs.Tests.{retarget}
use Rattle.theory.proofs.Joined.{Joined, joined_complete, joined_shares, catches}
use Rattle.tables.specs.Held.{move_at}
use Rattle.tables.proofs.Moves.{move_row, row_move}
use Rattle.sharing.specs.Share.{flat, arg, rel, joins, ClosedAt, OnlyShared, Words, sum, Grown, Full, Still, PassedTo, Rests, Exact, Shareable, TwoRows}
use Rattle.theory.proofs.Bools.{or_on, or_cases, and_both, and_true₂, not_both, neither}

and_last : (a b c : Bool) → (a && (b && (c && true))) ≡ (a && (b && c))
and_last true true true = refl
and_last true true false = refl
and_last true false c = refl
and_last false b c = refl

-- a store of a larger number makes the sum grow
pub sum-set : (xs : List ℕ) (i v : ℕ) → i < length xs → get_or xs i 0 < v → sum xs < sum (set xs i v)
unfolding sum
sum-set [] i v h l = absurd (omega arith)
sum-set (x ∷ xs) zero v h l = omega arith
sum-set (x ∷ xs) (suc i) v h l = omega (arith, sum-set xs i v (omega arith) l)

pub sum_most : (xs : List ℕ) (m : ℕ) → ((i : ℕ) → get_or xs i 0 < m) → sum xs ≤ length xs * m
unfolding sum
sum_most [] m h = omega arith
sum_most (x ∷ xs) m h = omega (arith, h 0, sum_most xs m (λ i. h (suc i)), native.Mathlib.Nat.suc-mul (length xs) m)

-- the measure of the outer loop: what the pairs can still grow by, and one while a class is dirty
unfoldable pub flag : ℕ → ℕ
flag zero = 0
flag (suc d) = 1

pub falls : (r r' : List ℕ) (d d' : ℕ) → (d ≡ 0 → ⊥) → sum r' ≤ 64 * 2 ^ 64 → sum r ≤ sum r' → (d' ≡ 0) ⊎ (sum r < sum r')
    → 64 * 2 ^ 64 - sum r' + flag d' < 64 * 2 ^ 64 - sum r + flag d
unfolding flag
falls r r' zero d' some most up more = absurd (some refl)
falls r r' (suc d) zero some most up more = omega arith
falls r r' (suc d) (suc d') some most up (inl e) = absurd (omega arith)
falls r r' (suc d) (suc d') some most up (inr l) = omega arith

-- ---- sets of classes
pub full_all : (set : ℕ) → set < 2 ^ 64 → Full set → set ≡ all_mask
full_all set l f = mem_ext 64 set all_mask l (lit< tt) (λ q k. f q k ∙ sym (mem_all q k))

pub not_in_none : (c : ℕ) → mem 0 c ≡ false
not_in_none c = ap (λ (s : Set). s c) mem-zero

-- what has nothing to do with a union has nothing to do with its parts, and nothing has to do with no classes
module _ (merged ar : List ℕ) (j : ℕ) where
  pub still_none : Still merged ar 0 j
  still_none = record { part = λ f. not_both _ (f 0 (lit< tt)) (not_in_none 0); first = λ l. not_in_none _; second = λ l. not_in_none _; third = λ l. not_in_none _ }

  module _ (g h : ℕ) (s : Still merged ar (bit_or g h) j) where
    apart : (c : ℕ) → mem (bit_or g h) c ≡ false → (mem g c ≡ false) × (mem h c ≡ false)
    apart c e = neither (mem g c) (mem h c) (sym (mem-or g h c) ∙ e)

    pub still_left : Still merged ar g j
    still_left = record {
      part = λ f. s.part (λ c l. mem-or g h c ∙ or_on _ _ (f c l));
      first = λ l. (apart _ (s.first l)).0;
      second = λ l. (apart _ (s.second l)).0;
      third = λ l. (apart _ (s.third l)).0;
    }

    pub still_right : Still merged ar h j
    still_right = record {
      part = λ f. s.part (λ c l. mem-or g h c ∙ ap (λ (t : Bool). mem g c || t) (f c l) ∙ or-true (mem g c));
      first = λ l. (apart _ (s.first l)).1;
      second = λ l. (apart _ (s.second l)).1;
      third = λ l. (apart _ (s.third l)).1;
    }

module _ (merged bad ar : List ℕ) (ok : Shareable merged bad ar) where
  -- The arguments of rows that join are related pairwise, and the other way round.
  joins_pairwise : (r : ℕ → ℕ → Bool) (n a b c x y z : ℕ) → n ≤ 3
      → pairwise r (take n (a ∷ (b ∷ (c ∷ [])))) (take n (x ∷ (y ∷ (z ∷ [])))) ≡ ((leb n 0 || r a x) && ((leb n 1 || r b y) && (leb n 2 || r c z)))
  unfolding pairwise
  joins_pairwise r zero a b c x y z h = refl
  joins_pairwise r (suc zero) a b c x y z h = refl
  joins_pairwise r (suc (suc zero)) a b c x y z h = refl
  joins_pairwise r (suc (suc (suc zero))) a b c x y z h = and_last (r a x) (r b y) (r c z)
  joins_pairwise r (suc (suc (suc (suc n)))) a b c x y z h = absurd (omega arith)

  arguments : List ℕ → ℕ → List ℕ
  arguments rows j = (move_at ar rows j).arguments

  -- Rows join exactly when they are of one symbol and their arguments are related.
  joins_out : (r : ℕ → ℕ → Bool) (j m : ℕ) → joins merged bad ar r j m ≡ true
      → (get_or merged (j * 5) 0 ≡ get_or bad (m * 5) 0) × (pairwise r (arguments merged j) (arguments bad m) ≡ true)
  unfolding joins arguments move_at
  joins_out r j m e =
      let (p, q) = and_both _ _ e in
      let same = eqb-true (get_or merged (j * 5) 0) (get_or bad (m * 5) 0) p in
      (same, rw (← same) (joins_pairwise r (get_or ar (get_or merged (j * 5) 0) 0) _ _ _ _ _ _ (ok.rank (get_or merged (j * 5) 0)) ∙ q))

  joins_in : (r : ℕ → ℕ → Bool) (j m : ℕ) → get_or merged (j * 5) 0 ≡ get_or bad (m * 5) 0 → pairwise r (arguments merged j) (arguments bad m) ≡ true
      → joins merged bad ar r j m ≡ true
  unfolding joins arguments move_at
  joins_in r j m same p =
      let f = get_or merged (j * 5) 0 in
      and_true₂ _ _ (eq-eqb _ _ same) (sym (joins_pairwise r (get_or ar f 0) _ _ _ _ _ _ (ok.rank f)) ∙ (rw (← same) at p))

  -- Two rows that join, over pairs that share trees, have targets that share one.
  module _ (pairs : List ℕ) (only_shared : OnlyShared merged bad ar pairs) (j m : ℕ) (hj : j < length merged / 5) (hm : m < length bad / 5) where
    pub shared_step : joins merged bad ar (rel pairs) j m ≡ true → Share (flat ar merged) (flat ar bad) (arg merged j 4) (arg bad m 4)
    unfolding arguments move_at
    shared_step e =
        let (same, paired) = joins_out (rel pairs) j m e in
        joined_shares (flat ar merged) (flat ar bad) only_shared _ _ (joined_complete (flat ar merged) (flat ar bad) (record {
          f = get_or merged (j * 5) 0;
          qs = arguments merged j;
          ps = arguments bad m;
          in_a = row_move ar merged (length merged / 5) j hj;
          in_b = retarget (sym same) refl (row_move ar bad (length bad / 5) m hm);
          paired = paired;
        }))

  -- ---- the ends of a visit
  pub none_yet : (pairs : List ℕ) (p : Type 0) → p → Grown merged bad ar pairs pairs 0 p
  none_yet pairs p h = record { long = refl; words = λ s. s; only_shared = λ s. s; grew = λ c b e. e; others = λ c e. refl; up = omega arith; more = inl refl; rest = h }

  module _ (pairs : List ℕ) (j m : ℕ) where
    pub visit_add : TwoRows pairs merged j bad m → joins merged bad ar (rel pairs) j m ≡ true → rel pairs (arg merged j 4) (arg bad m 4) ≡ false
        → (v g : ℕ) → mem v ≡ plus (mem (get_or pairs (arg merged j 4) 0)) (arg bad m 4) → get_or pairs (arg merged j 4) 0 ≤ v → v < 2 ^ 64 → mem g ≡ plus none (arg merged j 4)
        → Grown merged bad ar pairs (set pairs (arg merged j 4) v) g (ClosedAt merged bad ar (set pairs (arg merged j 4) v) j m)
    visit_add rows e ne v g ev hv fv eg =
        let c = arg merged j 4 in
        let b = arg bad m 4 in
        let hc : c < length pairs = omega (arith, rows.masks, ok.small (j * 5 + 4)) in
        let here : mem v b ≡ true = ap (λ (s : Set). s b) ev ∙ ap (λ (t : Bool). mem (get_or pairs c 0) b || t) (eq-eqb b b refl) ∙ or-true (mem (get_or pairs c 0) b) in
        let grows = sum-set pairs c v hc (strict (get_or pairs c 0) v hv (λ q. true≢false (sym here ∙ ap (λ (n : ℕ). mem n b) (sym q) ∙ ne))) in
        record {
          long = length-set pairs c v;
          words = λ s i. word s i hc;
          only_shared = λ s c' b' h. added s c' b' hc h;
          grew = λ c' b' h. stayed c' b' hc h;
          others = λ c' h. get_or-set_other pairs c c' v 0 (λ q. true≢false (sym (eq-eqb c c' (sym q)) ∙ sym (ap (λ (s : Set). s c') eg) ∙ h));
          up = omega arith;
          more = inr grows;
          rest = λ x. ap (λ (n : ℕ). mem n b) (get_or-set_same pairs c v 0 hc) ∙ here;
        }
      where
        strict : (x y : ℕ) → x ≤ y → (x ≡ y → ⊥) → x < y
        strict x y l n = omega arith

        -- the new mask, where it is
        new_mask : (c' : ℕ) → arg merged j 4 < length pairs → c' ≡ arg merged j 4 → get_or (set pairs (arg merged j 4) v) c' 0 ≡ v
        new_mask c' hc q = ap (λ (n : ℕ). get_or (set pairs (arg merged j 4) v) n 0) q ∙ get_or-set_same pairs (arg merged j 4) v 0 hc

        word : Words pairs → (i : ℕ) → arg merged j 4 < length pairs → get_or (set pairs (arg merged j 4) v) i 0 < 2 ^ 64
        word s i hc =
            elim (ℕ_discrete i (arg merged j 4)) [
              | yes q ↦ subst (λ (n : ℕ). n < 2 ^ 64) (sym (new_mask i hc q)) fv
              | no nq ↦ subst (λ (n : ℕ). n < 2 ^ 64) (sym (get_or-set_other pairs (arg merged j 4) i v 0 nq)) (s i)
            ]

        stayed : (c' b' : ℕ) → arg merged j 4 < length pairs → rel pairs c' b' ≡ true → rel (set pairs (arg merged j 4) v) c' b' ≡ true
        stayed c' b' hc h =
            elim (ℕ_discrete c' (arg merged j 4)) [
              | yes q ↦ ap (λ (n : ℕ). mem n b') (new_mask c' hc q) ∙ ap (λ (t : Set). t b') ev ∙ or_on _ _ (ap (λ (n : ℕ). rel pairs n b') (sym q) ∙ h)
              | no nq ↦ ap (λ (n : ℕ). mem n b') (get_or-set_other pairs (arg merged j 4) c' v 0 nq) ∙ h
            ]

        added : OnlyShared merged bad ar pairs → (c' b' : ℕ) → arg merged j 4 < length pairs → rel (set pairs (arg merged j 4) v) c' b' ≡ true
            → Share (flat ar merged) (flat ar bad) c' b'
        added s c' b' hc h =
            elim (ℕ_discrete c' (arg merged j 4)) [
              | yes q ↦
                  ⊎_elim
                  (λ old. s c' b' (ap (λ (n : ℕ). rel pairs n b') q ∙ old))
                  (λ new. subst₂ (Share (flat ar merged) (flat ar bad)) (sym q) (eqb-true (arg bad m 4) b' new) (shared_step pairs s j m rows.here rows.there e))
                  (or_cases (rel pairs (arg merged j 4) b') (eqb (arg bad m 4) b') (sym (ap (λ (n : ℕ). mem n b') (new_mask c' hc q) ∙ ap (λ (t : Set). t b') ev) ∙ h))
              | no nq ↦ s c' b' (sym (ap (λ (n : ℕ). mem n b') (get_or-set_other pairs (arg merged j 4) c' v 0 nq)) ∙ h)
            ]

  -- ---- one step after others
  module _ (r₀ r₁ r₂ : List ℕ) (g h : ℕ) (p q z : Type 0) (one : Grown merged bad ar r₀ r₁ g p) (two : Grown merged bad ar r₁ r₂ h q) where
    none_or_more : (g ≡ 0) ⊎ (sum r₀ < sum r₁) → (h ≡ 0) ⊎ (sum r₁ < sum r₂) → (bit_or g h ≡ 0) ⊎ (sum r₀ < sum r₂)
    none_or_more (inl d) (inl e) = inl (ap₂ bit_or d e)
    none_or_more (inl d) (inr l) = inr (omega (arith, one.up))
    none_or_more (inr l) e = inr (omega (arith, two.up))

    pub after : z → Grown merged bad ar r₀ r₂ (bit_or g h) z
    after f =
        record {
          long = two.long ∙ one.long;
          words = λ s. two.words (one.words s);
          only_shared = λ s. two.only_shared (one.only_shared s);
          grew = λ c b e. two.grew c b (one.grew c b e);
          others = λ c e. let (d, k) = neither (mem g c) (mem h c) (sym (mem-or g h c) ∙ e) in two.others c k ∙ one.others c d;
          up = omega (arith, one.up, two.up);
          more = none_or_more one.more two.more;
          rest = f;
        }

  -- ---- a row with whose arguments a step has nothing to do stays closed
  module _ (r r' : List ℕ) (h j : ℕ) (q : Type 0) (step : Grown merged bad ar r r' h q) where
    side : (n k c b : ℕ) → (k < n → mem h c ≡ false) → (leb n k || rel r' c b) ≡ (leb n k || rel r c b)
    side n k c b f =
        elim (dec_le n k) [
          | yes l ↦ or_on _ _ (le-leb n k l) ∙ sym (or_on _ _ (le-leb n k l))
          | no nl ↦ ap (λ (x : ℕ). leb n k || mem x b) (step.others c (f (omega arith)))
        ]

    pub stays : Still merged ar h j → (m : ℕ) → ClosedAt merged bad ar r j m → ClosedAt merged bad ar r' j m
    unfolding joins
    stays s m closed e =
        let n = get_or ar (get_or merged (j * 5) 0) 0 in
        let one = side n 0 (arg merged j 1) (arg bad m 1) s.first in
        let two = side n 1 (arg merged j 2) (arg bad m 2) s.second in
        let three = side n 2 (arg merged j 3) (arg bad m 3) s.third in
        let same = ap (λ (t : Bool). eqb (get_or merged (j * 5) 0) (get_or bad (m * 5) 0) && t) (ap₂ ◌&&◌ one (ap₂ ◌&&◌ two three)) in
        step.grew _ _ (closed (sym same ∙ e))

    -- so it does if it rested before, whatever it waits for besides
    pub rest_on : (g : ℕ) → Rests merged bad ar r g j → Rests merged bad ar r' (bit_or g h) j
    rest_on g old s m l = stays (still_right merged ar j g h s) m (old (still_left merged ar j g h s) m l)

  -- ---- pairs to which nothing is added are all that share a tree
  module _ (pairs : List ℕ) (closed : PassedTo merged bad ar pairs (length merged / 5)) where
    all : (q p : ℕ) → Joined (flat ar merged) (flat ar bad) (rel pairs) q p → rel pairs q p ≡ true
    unfolding arguments move_at
    all q p w =
        let (j, hj, ej) = move_row ar merged (length merged / 5) w.in_a in
        let (m, hm, em) = move_row ar bad (length bad / 5) w.in_b in
        let same : get_or merged (j * 5) 0 ≡ get_or bad (m * 5) 0 = ap (λ t. t.symbol) ej ∙ sym (ap (λ t. t.symbol) em) in
        let paired : pairwise (rel pairs) (arguments merged j) (arguments bad m) ≡ true = ap₂ (pairwise (rel pairs)) (ap (λ t. t.arguments) ej) (ap (λ t. t.arguments) em) ∙ w.paired in
        subst₂ (λ (c b : ℕ). rel pairs c b ≡ true) (ap (λ t. t.target) ej) (ap (λ t. t.target) em) (closed j hj m hm (joins_in (rel pairs) j m same paired))

    pub exact : OnlyShared merged bad ar pairs → Exact merged bad ar pairs
    unfolding Share
    exact s c b = (s c b, λ (t, d, e). catches (flat ar merged) (flat ar bad) (rel pairs) all d e)
