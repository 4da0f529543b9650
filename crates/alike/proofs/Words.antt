-- The words of a symbol with a wanted target: classes that stand together beside each of them are alike, and what they call.
use mathlib.Core.Path.{◌≡◌, refl, sym, ap, ◌∙◌}
use mathlib.Core.Logic.{◌↔◌}
use mathlib.Core.Bool.{true, false, false≢true}
use mathlib.Core.List.Memᴰ
use mathlib.Core.List.{List, Memᴰ}
use Prim.Native.Nat.{ℕ, ◌+◌, ◌-◌, ◌≤◌, ◌<◌}
use native.Mathlib.Omega.{arith}
use native.Mathlib.Decide.{dec_lt}
use lib.ListN.{length, get_or, set, length-set}
use lib.Seq.{get_or-set_same, set_out, set-set}
use borrow.Author.Count.{below_more}
use Rattle.theory.specs.Lists.{count_from}
use Rattle.theory.specs.Automaton.{Transition, ◌of◌gives◌}
use Rattle.theory.proofs.Count.{mem_order, order_mem}
use Rattle.sets.specs.Sets.{mem}
use Rattle.woven.specs.Woven.{part, move_of, woven_moves, Indexed}
use Rattle.woven.specs.Ready.{SymbolRun}
use Rattle.woven.proofs.Indexing.{none_before, none_after, within}
use Rattle.alike.specs.Alike.{AlikeAt, Calls}
use Rattle.alike.specs.Words.{rest_of, Stood, Standing, NarrowedTo, Within, PlaceGiven, PlaceNarrowed}
use Rattle.alike.proofs.Rests.{is_f, is_q, own, other}

-- What holds of each of the first n words of a run that has a wanted target.
abbrev pub EachLive : (run : List ℕ) (wanted n : ℕ) (P : ℕ → Type 0) → Type 0
EachLive run wanted n P = (i : ℕ) → i < n → mem wanted (part (get_or run i 0) 3) ≡ true → P i

-- In the run is a word that has c as argument p and is else as word i.
abbrev StoodBy : (run : List ℕ) (p c i : ℕ) → Type 0
StoodBy run p c i = Stood run (length run) p (rest_of (get_or run i 0) p) c

-- The mask has argument p of word i.
abbrev pub HasClass : (run : List ℕ) (p mask i : ℕ) → Type 0
HasClass run p mask i = mem mask (part (get_or run i 0) p) ≡ true

module _ (run : List ℕ) (p wanted : ℕ) where
  -- ---- the masks after the first n words of the run
  pub record NarrowedBy (n : ℕ) (old new : List ℕ) : Type 0 where
    pub long : length new ≡ length old
    pub within : Within old new
    pub together : (d c : ℕ) → d < 64 → mem (get_or new d 0) c ≡ true → EachLive run wanted n (λ i. StoodBy run p c i ↔ StoodBy run p d i)

  -- A word whose target is not wanted.
  pub narrowed_dead : (n : ℕ) (old now : List ℕ) → NarrowedBy n old now → mem wanted (part (get_or run n 0) 3) ≡ false → NarrowedBy (n + 1) old now
  narrowed_dead n old now before dead = record {
    long = before.long;
    within = before.within;
    together = λ d c hd h. below_more _ n (before.together d c hd h) (λ live. absurd (false≢true (sym dead ∙ live)));
  }

  -- One whose target is: the masks are narrowed by the classes that stand beside it.
  pub narrowed_live : (n : ℕ) (old now new : List ℕ) (s : ℕ) → NarrowedBy n old now → Standing run (length run) p (rest_of (get_or run n 0) p) s → NarrowedTo s now 64 new
      → NarrowedBy (n + 1) old new
  narrowed_live n old now new s before stands narrowed =
      let less : Within now new = λ k c h. elim (dec_lt k 64) [ yes l ↦ (narrowed.done k l c h).0 | no l ↦ rw (narrowed.kept k (omega arith)) at h ] in
      record {
        long = narrowed.long ∙ before.long;
        within = λ k c h. before.within k c (less k c h);
        together = λ d c hd h. below_more _ n (before.together d c hd (less d c h))
            (λ live. let same = (narrowed.done d hd c h).1 in (λ k. (stands d).0 (sym same ∙ (stands c).1 k), λ k. (stands c).0 (same ∙ (stands d).1 k)));
      }

  -- ---- all words of a symbol, and the transitions that the words mean
  module _ {words heads : List ℕ} {f : ℕ} (indexed : Indexed words heads) (given : PlaceGiven f p) (its : SymbolRun words heads f run) (n : ℕ) (whole : length run ≤ n) where
    module _ (arities : List ℕ) where
      abbrev moves : List Transition
      moves = woven_moves arities words (get_or heads 64 0)

      word_move : {tr : Transition} (i : ℕ) → i < length run → move_of arities (get_or run i 0) ≡ tr → Memᴰ tr moves
      unfolding woven_moves
      word_move i h e =
          let place = get_or heads f 0 + i in
          let inside : place < get_or heads 64 0 = omega (arith, its.long, within words heads indexed f given.symbol) in
          rw (ap (move_of arities) (sym (its.at i h)) ∙ e) at (Memᴰ.map (λ i. move_of arities (get_or words i 0)) (order_mem 0 (get_or heads 64 0) place (omega arith) (omega arith)))

      -- A transition of f to a wanted target is what a word of f with this target means.
      live : (P : ℕ → Type 0) → EachLive run wanted n P → (qs : List ℕ) (q : ℕ) → mem wanted q ≡ true → p < length qs → Memᴰ (f of qs gives q) moves
          → (i : ℕ) × P i × (i < length run) × (move_of arities (get_or run i 0) ≡ (f of qs gives q))
      unfolding woven_moves
      live P all qs q wants l m =
          let (place, k, means) = Memᴰ.of_map (λ i. move_of arities (get_or words i 0)) (count_from 0 (get_or heads 64 0)) m in
          let inside : place < get_or heads 64 0 = omega (arith, (mem_order 0 (get_or heads 64 0) k).1) in
          let symbol = is_f arities (get_or words place 0) f p q qs given.argument l means in
          let low : get_or heads f 0 ≤ place = elim (dec_lt place (get_or heads f 0)) [
            | yes l ↦ absurd (none_before words heads indexed f given.symbol place l symbol)
            | no l ↦ omega arith
          ] in
          let high : place < get_or heads (f + 1) 0 = elim (dec_lt place (get_or heads (f + 1) 0)) [
            | yes l ↦ l
            | no l ↦ absurd (none_after words heads indexed f given.symbol place (omega arith) inside symbol)
          ] in
          let i = place - get_or heads f 0 in
          let h : i < length run = omega (arith, its.long) in
          let there : get_or heads f 0 + i ≡ place = omega arith in
          let e : move_of arities (get_or run i 0) ≡ (f of qs gives q) = ap (move_of arities) (its.at i h) ∙ ap (λ n. move_of arities (get_or words n 0)) there ∙ means in
          let target : part (get_or run i 0) 3 ≡ q = is_q arities (get_or run i 0) f p q qs given.argument l e in
          (i, all i (omega arith) (rw target wants), h, e)

      -- The classes at argument p of all words of f with a wanted target are called.
      pub live_calls : (mask : ℕ) → EachLive run wanted n (HasClass run p mask) → Calls moves wanted f p mask
      live_calls mask each = record {
        all = λ qs q wants m l.
            let (i, has, h, e) = live (HasClass run p mask) each qs q wants l m in rw (own arities (get_or run i 0) f p q qs given.argument l e) at has;
      }

      swap : {c d : ℕ} → EachLive run wanted n (λ i. StoodBy run p c i → StoodBy run p d i) → (qs : List ℕ) (q : ℕ) → mem wanted q ≡ true
          → Memᴰ (f of set qs p c gives q) moves → Memᴰ (f of set qs p d gives q) moves
      swap {c} {d} all qs q wants m = elim (dec_lt p (length qs)) [
        | yes l ↦
            let k : p < length (set qs p c) = rw (length-set qs p c) l in
            let (i, to, h, e) = live _ all (set qs p c) q wants k m in
            let w = get_or run i 0 in
            let is_c = own arities w f p q (set qs p c) given.argument k e ∙ get_or-set_same qs p c 0 l in
            let s = to (record { place = i; before = h; same = refl; class = is_c }) in
            let changed = other arities w f p q (set qs p c) given.argument k e (get_or run s.place 0) s.same in
            word_move s.place s.before (changed ∙ ap (λ l. f of l gives q) (set-set qs p c _ ∙ ap (set qs p) s.class))
        | no o ↦ rw (set_out qs p d (omega arith)) (rw (set_out qs p c (omega arith)) at m)
      ]

      -- Classes that stand together beside every word of f with a wanted target are alike at argument p.
      together_alike : {c d : ℕ} → EachLive run wanted n (λ i. StoodBy run p c i ↔ StoodBy run p d i) → AlikeAt moves wanted f p c d
      together_alike t = record { same = λ qs q wants. (swap (λ i h live. (t i h live).0) qs q wants, swap (λ i h live. (t i h live).1) qs q wants) }

    pub narrowed_place : (old new : List ℕ) → NarrowedBy n old new → PlaceNarrowed words heads f p wanted old new
    narrowed_place old new all = record { long = all.long; within = all.within; alike = λ arities d c hd h. together_alike arities (all.together d c hd h) }
