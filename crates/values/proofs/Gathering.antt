-- The words of a symbol gathered into a sheet: those of one target joined into its row, and the rows one after the other.
use mathlib.Core.Path.{◌≡◌, refl, sym, ap, ap₂, ◌∙◌, fun_ext}
use mathlib.Core.Bool.{Bool, true, false, ◌&&◌, ◌||◌, or-false, or_assoc, false≢true}
use mathlib.Core.Logic.{inl, inr}
use mathlib.Core.List.Memᴰ
use mathlib.Core.List.{List, [], ◌∷◌, map}
use Prim.Native.Nat.{ℕ, zero, suc, ◌+◌, ◌-◌, ◌≤◌, ◌<◌}
use native.Mathlib.Nat.{add-zero}
use native.Mathlib.Decide.{dec_lt, ℕ_discrete}
use native.Mathlib.Omega.{arith}
use lib.ListN.{get_or, set, take, replicate}
use lib.Seq.{get_or-set_same, get_or-set_other}
use borrow.Author.Count.{below_more}
use borrow.Author.Tests.{lt-ltb, le-ltb}
use Rattle.theory.specs.Lists.{count_from, any}
use Rattle.theory.proofs.Tests.{match_iff, any_sound, any_complete}
use Rattle.theory.proofs.Count.{mem_order, order_mem}
use Rattle.theory.proofs.Bools.{same_test}
use Rattle.sets.specs.Sets.{Set}
use Rattle.woven.specs.Woven.{part, move_of, woven_moves}
use Rattle.woven.proofs.Indexing.{none_before, none_after, within}
use Rattle.values.specs.Sets.{drawn, fires, gathered}
use Rattle.values.specs.Lanes.{lit, lane}
use Rattle.values.specs.Rows.{all_lit, Apart, Within, Joined, Runnable, RunOf, Gatherable, Gathered}
use Rattle.values.proofs.Rows.{none_lit, store_within}

-- One number more.
some_last : (test : ℕ → Bool) (a n : ℕ) → any (count_from a (suc n)) test ≡ (any (count_from a n) test || test (a + n))
unfolding any count_from
some_last test a zero = or-false (test a) ∙ ap test (sym (add-zero a))
some_last test a (suc n) =
    ap (λ b. test a || b) (some_last test (suc a) n)
    ∙ sym (or_assoc (test a) (any (count_from (suc a) n) test) (test (suc a + n)))
    ∙ ap (λ k. any (count_from a (suc n)) test || test k) (omega arith)

-- The words of one target, one after the other.
module _ {words : List ℕ} {n q from : ℕ} {m : List (List ℕ)} {kids : List ℕ} where
  pub joined_none : Joined words n q from m kids (replicate 8 0) from
  unfolding any count_from
  joined_none = record {
    low = omega arith;
    own = λ i lo hi. absurd (omega arith);
    lanes_lit = λ l hl. let none : from - from ≡ 0 = omega arith in rw none (none_lit l);
  }

  pub joined_more : {lanes more : List ℕ} {i : ℕ} → part (get_or words i 0) 3 ≡ q → ((l : ℕ) → l < 512 → lit more l ≡ (lit lanes l || all_lit m n (get_or words i 0) kids l))
      → Joined words n q from m kids lanes i → Joined words n q from m kids more (i + 1)
  joined_more {i = i} target gained old = record {
    low = omega (arith, old.low);
    own = λ p lo hi. below_more (λ p. from ≤ p → part (get_or words p 0) 3 ≡ q) i (λ p h lo. old.own p lo h) (λ lo. target) p hi lo;
    lanes_lit = λ l hl.
        let test : ℕ → Bool = λ p. all_lit m n (get_or words p 0) kids l in
        let more : i + 1 - from ≡ suc (i - from) = omega (arith, old.low) in
        let last : from + (i - from) ≡ i = omega (arith, old.low) in
        gained l hl
        ∙ ap (λ b. b || test i) (old.lanes_lit l hl)
        ∙ ap (λ p. any (count_from from (i - from)) test || test p) (sym last)
        ∙ sym (some_last test from (i - from))
        ∙ ap (λ k. any (count_from from k) test) (sym more);
  }

-- Sets that agree on the classes that are drawn.
drawn_same : (n : ℕ) (F G : ℕ → Set) (xs qs : List ℕ) → ((j : ℕ) → j < n → F (get_or xs j 0) (get_or qs j 0) ≡ G (get_or xs j 0) (get_or qs j 0))
    → drawn (take n (map F xs)) (take n qs) ≡ drawn (take n (map G xs)) (take n qs)
unfolding drawn
drawn_same zero F G xs qs same = refl
drawn_same (suc n) F G [] [] same = refl
drawn_same (suc n) F G [] (q ∷ qs) same = refl
drawn_same (suc n) F G (x ∷ xs) [] same = refl
drawn_same (suc n) F G (x ∷ xs) (q ∷ qs) same = ap₂ ◌&&◌ (same 0 (omega arith)) (drawn_same n F G xs qs (λ j h. same (suc j) (omega arith)))

parts_at : (w j : ℕ) → j < 3 → get_or (part w 0 ∷ (part w 1 ∷ (part w 2 ∷ []))) j 0 ≡ part w j
parts_at w zero h = refl
parts_at w (suc zero) h = refl
parts_at w (suc (suc zero)) h = refl
parts_at w (suc (suc (suc j))) h = absurd (omega arith)

-- A sheet apart from the one that is filled keeps its rows.
module _ (k : ℕ) (m : List (List ℕ)) (out : ℕ) (after : List (List ℕ)) (only : Within k m out after) where
  row_kept : (a q : ℕ) → Apart k a out → q < k → get_or after (a + q) [] ≡ get_or m (a + q) []
  row_kept a q apart hq = only.same (a + q) (elim (dec_lt (a + q) out) [
    | yes l ↦ inl l
    | no nl ↦ elim (dec_lt (a + q) (out + k)) [
      | yes l ↦ absurd (apart q (a + q - out) hq (omega arith) (omega arith))
      | no nl' ↦ inr (omega arith)
    ]
  ])

  kids_drawn : (n w : ℕ) (kids : List ℕ) (l : ℕ) → n ≤ 3 → ((j : ℕ) → j < n → part w j < k) → ((j : ℕ) → j < n → Apart k (get_or kids j 0) out)
      → all_lit after n w kids l ≡ drawn (take n (map (λ a. lane k m a l) kids)) (take n (part w 0 ∷ (part w 1 ∷ (part w 2 ∷ []))))
  unfolding all_lit
  kids_drawn n w kids l few below apart =
      drawn_same n (λ a q. lit (get_or after (a + q) []) l) (λ a. lane k m a l) kids (part w 0 ∷ (part w 1 ∷ (part w 2 ∷ []))) (λ j h.
      let a = get_or kids j 0 in
      let p = parts_at w j (omega arith) in
      ap (λ q. lit (get_or after (a + q) []) l) p
      ∙ ap (λ r. lit r l) (row_kept a (part w j) (apart j h) (below j h))
      ∙ ap (λ b. b && lit (get_or m (a + part w j) []) l) (sym (lt-ltb (part w j) k (below j h)))
      ∙ ap (lane k m a l) (sym p))

-- The classes that the words of f give in lane l for arguments from the first n sheets.
abbrev reached : (words heads : List ℕ) (f n k : ℕ) (m : List (List ℕ)) (kids arities : List ℕ) (l : ℕ) → Set
reached words heads f n k m kids arities l = gathered (woven_moves arities words (get_or heads 64 0)) f (take n (map (λ a. lane k m a l) kids))

-- The words of f from place i on are those with a target from q on, and the rows before q have their classes.
pub record RowsDone (words heads : List ℕ) (f n k : ℕ) (m₀ : List (List ℕ)) (kids : List ℕ) (out end : ℕ) (m : List (List ℕ)) (i q : ℕ) : Type 0 where
  pub last : end ≡ get_or heads (f + 1) 0
  pub low : get_or heads f 0 ≤ i
  pub high : i ≤ end
  pub few : q ≤ k
  pub before : (p : ℕ) → get_or heads f 0 ≤ p → p < i → part (get_or words p 0) 3 < q
  pub after : (p : ℕ) → i ≤ p → p < end → q ≤ part (get_or words p 0) 3
  pub only : Within k m₀ out m
  pub done : (arities : List ℕ) → get_or arities f 0 ≡ n → (l : ℕ) → l < 512 → (p : ℕ) → p < q
      → lit (get_or m (out + p) []) l ≡ reached words heads f n k m₀ kids arities l p

module _ {words heads : List ℕ} {f n k : ℕ} {m₀ : List (List ℕ)} {kids : List ℕ} {out : ℕ} (g : Gatherable words heads f n k m₀ kids out) where
  -- The targets of the words of f whose arguments are in their sheets are reached, and no other class.
  module _ (arities : List ℕ) (arity : get_or arities f 0 ≡ n) (l : ℕ) where
    abbrev sets : List Set
    sets = take n (map (λ a. lane k m₀ a l) kids)

    -- The place of a word of f.
    place_of : (i : ℕ) → i < get_or heads 64 0 → part (get_or words i 0) 4 ≡ f → (get_or heads f 0 ≤ i) × (i < get_or heads (f + 1) 0)
    place_of i h e = (
      elim (dec_lt i (get_or heads f 0)) [ yes l ↦ absurd (none_before words heads g.indexed f g.symbol i l e) | no nl ↦ omega arith ],
      elim (dec_lt i (get_or heads (f + 1) 0)) [ yes l ↦ l | no nl ↦ absurd (none_after words heads g.indexed f g.symbol i (omega arith) h e) ],
    )

    drawn_here : (m : List (List ℕ)) → Within k m₀ out m → (i : ℕ) → get_or heads f 0 ≤ i → i < get_or heads (f + 1) 0
        → all_lit m n (get_or words i 0) kids l ≡ drawn sets (move_of arities (get_or words i 0)).arguments
    unfolding move_of
    drawn_here m only i lo hi =
        let w = get_or words i 0 in
        let own = g.indexed.sorted.own f i g.symbol lo hi in
        kids_drawn k m₀ out m only n w kids l g.few (λ j h. g.argument i j lo hi h) g.kids_apart
        ∙ ap (λ x. drawn sets (take x (part w 0 ∷ (part w 1 ∷ (part w 2 ∷ []))))) (sym arity ∙ ap (λ x. get_or arities x 0) (sym own))

    reached_by : (q : ℕ) → reached words heads f n k m₀ kids arities l q ≡ true
        → (i : ℕ) × (get_or heads f 0 ≤ i) × (i < get_or heads (f + 1) 0) × (part (get_or words i 0) 3 ≡ q) × (drawn sets (move_of arities (get_or words i 0)).arguments ≡ true)
    unfolding gathered woven_moves fires move_of
    reached_by q e =
        let (tr, mem, fire) = any_sound (woven_moves arities words (get_or heads 64 0)) {test = fires f sets q} e in
        let (i, listed, same) = Memᴰ.of_map (λ i. move_of arities (get_or words i 0)) (count_from 0 (get_or heads 64 0)) mem in
        let (symbol, target, args) = (match_iff tr.symbol f tr.target q (drawn sets tr.arguments)).0 fire in
        let (lo, hi) = place_of i (omega (arith, mem_order 0 (get_or heads 64 0) listed)) (ap (λ t. t.symbol) same ∙ symbol) in
        (i, lo, hi, ap (λ t. t.target) same ∙ target, ap (λ t. drawn sets t.arguments) same ∙ args)

    reaches : (q i : ℕ) → get_or heads f 0 ≤ i → i < get_or heads (f + 1) 0 → part (get_or words i 0) 3 ≡ q → drawn sets (move_of arities (get_or words i 0)).arguments ≡ true
        → reached words heads f n k m₀ kids arities l q ≡ true
    unfolding gathered woven_moves fires move_of
    reaches q i lo hi target args =
        let w = get_or words i 0 in
        any_complete (fires f sets q) (Memᴰ.map (λ i. move_of arities (get_or words i 0)) (order_mem 0 (get_or heads 64 0) i (omega arith) (omega (arith, within words heads g.indexed f g.symbol))))
        ((match_iff (part w 4) f (part w 3) q (drawn sets (move_of arities w).arguments)).1 (g.indexed.sorted.own f i g.symbol lo hi, target, args))

  module _ {end : ℕ} {m : List (List ℕ)} {i q : ℕ} (z : RowsDone words heads f n k m₀ kids out end m i q) where
    pub rows_runnable : Runnable words end n i m kids
    rows_runnable = record {
      few = g.few;
      room = omega (arith, z.last, within words heads g.indexed f g.symbol, g.indexed.room);
      begins = z.high;
      rows = λ p j lo hi hj. omega (arith, g.argument p j (omega (arith, z.low)) (omega (arith, z.last)) hj, g.kids_room j hj, z.only.long);
    }

    module _ {lanes : List ℕ} {next : ℕ} (hq : q < k) (r : RunOf words end n q i m kids lanes next) where
      -- The words behind the run have targets above q.
      beyond : (p : ℕ) → next ≤ p → p < end → q + 1 ≤ part (get_or words p 0) 3
      beyond p lo hi =
          let rise = g.indexed.sorted.rising f next p g.symbol (omega (arith, z.low, r.joined.low)) lo (omega (arith, z.last)) in
          elim (ℕ_discrete (part (get_or words next 0) 3) q) [
            | yes e ↦ absurd (r.stops (omega arith) e)
            | no ne ↦ elim (dec_lt q (part (get_or words next 0) 3)) [ yes h ↦ omega arith | no nh ↦ absurd (ne (omega (arith, z.after next r.joined.low (omega arith)))) ]
          ]

      row_done : (arities : List ℕ) → get_or arities f 0 ≡ n → (l : ℕ) → l < 512 → lit lanes l ≡ reached words heads f n k m₀ kids arities l q
      row_done arities e l hl = r.joined.lanes_lit l hl ∙ same_test _ _
          (λ h.
          let (p, mem, all) = any_sound (count_from i (next - i)) h in
          let (lo, hi) = mem_order i (next - i) mem in
          let low : get_or heads f 0 ≤ p = omega (arith, z.low) in
          let high : p < get_or heads (f + 1) 0 = omega (arith, z.last, r.high, r.joined.low) in
          reaches arities e l q p low high (r.joined.own p lo (omega (arith, r.joined.low))) (sym (drawn_here arities e l m z.only p low high) ∙ all))
          (λ h.
          let (p, lo, hi, target, args) = reached_by arities e l q h in
          any_complete (λ p. all_lit m n (get_or words p 0) kids l) (order_mem i (next - i) p (from p lo target) (omega (arith, upto p lo hi target, r.joined.low)))
          (drawn_here arities e l m z.only p lo hi ∙ args))
        where
          from : (p : ℕ) → get_or heads f 0 ≤ p → part (get_or words p 0) 3 ≡ q → i ≤ p
          from p lo target = elim (dec_lt p i) [ yes h ↦ absurd (omega (arith, z.before p lo h)) | no nh ↦ omega arith ]

          upto : (p : ℕ) → get_or heads f 0 ≤ p → p < get_or heads (f + 1) 0 → part (get_or words p 0) 3 ≡ q → p < next
          upto p lo hi target = elim (dec_lt p next) [ yes h ↦ h | no nh ↦ absurd (omega (arith, beyond p (omega arith) (omega (arith, z.last)))) ]

      pub rows_more : RowsDone words heads f n k m₀ kids out end (set m (out + q) lanes) next (q + 1)
      rows_more = record {
        last = z.last;
        low = omega (arith, z.low, r.joined.low);
        high = r.high;
        few = omega arith;
        before = λ p lo hi. elim (dec_lt p i) [ yes h ↦ omega (arith, z.before p lo h) | no nh ↦ omega (arith, r.joined.own p (omega arith) hi) ];
        after = beyond;
        only = store_within k m₀ out q m lanes hq z.only;
        done = λ arities e l hl.
            below_more (λ p. lit (get_or (set m (out + q) lanes) (out + p) []) l ≡ reached words heads f n k m₀ kids arities l p) q
            (λ p h. ap (λ row. lit row l) (get_or-set_other m (out + q) (out + p) lanes [] (λ s. omega arith)) ∙ z.done arities e l hl p h)
            (ap (λ row. lit row l) (get_or-set_same m (out + q) lanes [] (omega (arith, g.out_room, z.only.long))) ∙ row_done arities e l hl);
      }

    pub rows_all : k ≤ q → (arities : List ℕ) → Gathered arities words heads f n k m₀ kids out m
    rows_all h arities = record {
      value = λ e l hl. fun_ext (λ p. elim (dec_lt p k) [
        | yes lt ↦ ap (λ b. b && lit (get_or m (out + p) []) l) (lt-ltb p k lt) ∙ z.done arities e l hl p (omega arith)
        | no ge ↦
            ap (λ b. b && lit (get_or m (out + p) []) l) (le-ltb p k (omega arith))
            ∙ same_test false _ (λ z. absurd (false≢true z))
            (λ s. let (i, lo, hi, target, args) = reached_by arities e l p s in absurd (omega (arith, g.target i lo hi)))
      ]);
      within = z.only;
    }
