-- Where the words of a symbol stand, and that the words mean what the rows mean.
use mathlib.Core.Path.{◌≡◌, refl, sym, ap, ◌∙◌}
use mathlib.Core.List.Memᴰ
use mathlib.Core.List.{List, [], ◌∷◌}
use Prim.Native.Nat.{ℕ, zero, suc, ◌+◌, ◌-◌, ◌*◌, ◌/◌, ◌≤◌, ◌<◌}
use native.Mathlib.Numerals.{add-one}
use native.Mathlib.Decide.{dec_lt}
use native.Mathlib.Omega.{arith}
use lib.ListN.{length, get_or, take}
use Rattle.theory.specs.Lists.{count_from}
use Rattle.theory.specs.Automaton.{◌of◌gives◌}
use Rattle.theory.proofs.Count.{mem_order, order_mem}
use Rattle.tables.specs.Held.{move_at, moves_of}
use Rattle.woven.specs.Woven.{part, move_of, woven_moves, symbol_at, word_at, Flat, Sorted, Indexed, SameMoves}
use Rattle.woven.specs.Order.{Place, Ordered, Headed}
use Rattle.woven.proofs.Parts.{word_parts, word_below, symbol_between, targets_rise}

-- The symbol among whose words a place stands.
pub record Segment (heads : List ℕ) (m i : ℕ) : Type 0 where
  pub symbol : ℕ
  pub below : symbol < m
  pub low : get_or heads symbol 0 ≤ i
  pub high : i < get_or heads (symbol + 1) 0

pub segment : (heads : List ℕ) → get_or heads 0 0 ≡ 0 → (m i : ℕ) → i < get_or heads m 0 → Segment heads m i
segment heads first zero i h = absurd (omega arith)
segment heads first (suc m) i h = elim (dec_lt i (get_or heads m 0)) [
  | yes l ↦ let s = segment heads first m i l in record { symbol = s.symbol; below = omega arith; low = s.low; high = s.high }
  | no nl ↦ record { symbol = m; below = omega arith; low = omega arith; high = rw add-one h }
]

-- Heads do not fall.
heads_rise : {m : ℕ} {words heads : List ℕ} {n : ℕ} → Sorted m words heads n → (f d : ℕ) → f + d ≤ m → get_or heads f 0 ≤ get_or heads (f + d) 0
heads_rise {heads = heads} s f zero h = omega (arith, ap (λ x. get_or heads x 0) (native.Mathlib.Nat.add-zero f))
heads_rise {heads = heads} s f (suc d) h = let e : f + suc d ≡ f + d + 1 = omega arith in omega (arith, ap (λ x. get_or heads x 0) e, heads_rise s f d (omega arith), s.order (f + d) (omega arith))

module _ (words heads : List ℕ) (d : Indexed words heads) (f : ℕ) (hf : f < 64) where
  -- No word of f stands before its first place or from its end on.
  pub none_before : (i : ℕ) → i < get_or heads f 0 → part (get_or words i 0) 4 ≡ f → ⊥
  none_before i h e =
      let s = segment heads d.sorted.first f i h in
      omega (arith, s.below, d.sorted.own s.symbol i (omega (arith, s.below)) s.low s.high)

  pub none_after : (i : ℕ) → get_or heads (f + 1) 0 ≤ i → i < get_or heads 64 0 → part (get_or words i 0) 4 ≡ f → ⊥
  none_after i l h e =
      let s = segment heads d.sorted.first 64 i h in
      omega (arith, s.high, d.sorted.own s.symbol i s.below s.low s.high, ap (λ x. get_or heads (x + 1) 0) (sym e ∙ d.sorted.own s.symbol i s.below s.low s.high))

  -- Its words stand among the listed ones.
  pub within : get_or heads (f + 1) 0 ≤ get_or heads 64 0
  within = let top : f + 1 + (63 - f) ≡ 64 = omega arith in omega (arith, heads_rise d.sorted (f + 1) (63 - f) (omega arith), ap (λ x. get_or heads x 0) top)

-- A row's word means the row's transition.
word_means : (arities rows : List ℕ) → ((x : ℕ) → get_or rows x 0 < 64) → (i : ℕ) → move_of arities (word_at rows i) ≡ move_at arities rows i
unfolding move_of move_at symbol_at
word_means arities rows small i =
    let p = word_parts rows i small in
    λ z. p.symbol z of take (get_or arities (p.symbol z) 0) (p.first z ∷ (p.second z ∷ (p.third z ∷ []))) gives p.target z

module _ {rows : List ℕ} (flat : Flat rows) {words heads : List ℕ} {n : ℕ} (o : Ordered rows (length rows / 5) words n) (hd : Headed words n 0 heads) where
  abbrev count : ℕ
  count = length rows / 5

  place : (f : ℕ) → f ≤ 64 → Place words n (f * 4294967296) (get_or heads f 0)
  place f h = hd.places f (omega arith) h

  last : get_or heads 64 0 ≡ n
  last = elim (dec_lt (get_or heads 64 0) n) [
    | yes l ↦ let r = o.from (get_or heads 64 0) l in absurd (omega (arith, r.same, word_below rows r.row flat.small, (place 64 (omega arith)).larger (get_or heads 64 0) (omega arith) l))
    | no nl ↦ omega (arith, (place 64 (omega arith)).within)
  ]

  own : (f i : ℕ) → f < 64 → get_or heads f 0 ≤ i → i < get_or heads (f + 1) 0 → part (get_or words i 0) 4 ≡ f
  own f i h lo hi =
      let next = place (f + 1) (omega arith) in
      symbol_between (get_or words i 0) f h ((place f (omega arith)).larger i lo (omega (arith, next.within))) (next.smaller i hi)

  -- Of two places of a symbol the further one has no smaller target.
  rising : (f i j : ℕ) → f < 64 → get_or heads f 0 ≤ i → i ≤ j → j < get_or heads (f + 1) 0 → part (get_or words i 0) 3 ≤ part (get_or words j 0) 3
  rising f i j h lo l hi = elim (dec_lt i j) [
    | yes b ↦
        let inside : j < n = omega (arith, (place (f + 1) (omega arith)).within) in
        let r = o.from i (omega arith) in
        let s = o.from j inside in
        let symbol = ap (λ w. part w 4) (sym r.same) ∙ own f i h lo (omega arith) ∙ sym (own f j h (omega arith) hi) ∙ ap (λ w. part w 4) s.same in
        omega (
          arith,
          ap (λ w. part w 3) r.same,
          ap (λ w. part w 3) s.same,
          targets_rise rows flat.small r.row s.row (omega (arith, r.same, s.same, o.rising.up i j b inside)) symbol,
        )
    | no nb ↦ let e : i ≡ j = omega arith in omega (arith, ap (λ x. part (get_or words x 0) 3) e)
  ]

  order : (f : ℕ) → f < 64 → get_or heads f 0 ≤ get_or heads (f + 1) 0
  order f h = elim (dec_lt (get_or heads (f + 1) 0) (get_or heads f 0)) [
    | yes l ↦
        let this = place f (omega arith) in
        absurd (omega (arith, this.smaller (get_or heads (f + 1) 0) l, (place (f + 1) (omega arith)).larger (get_or heads (f + 1) 0) (omega arith) (omega (arith, this.within))))
    | no nl ↦ omega arith
  ]

  first : get_or heads 0 0 ≡ 0
  first = elim (dec_lt 0 (get_or heads 0 0)) [ yes l ↦ absurd (omega (arith, (place 0 (omega arith)).smaller 0 l)) | no nl ↦ omega arith ]

  pub ordered_indexed : Indexed words heads
  ordered_indexed = record {
    sorted = record { first = first; order = order; own = own; last = refl; rising = rising };
    room = omega (arith, last, o.most, flat.most);
  }

  pub ordered_same : SameMoves rows words heads (length rows / 5)
  unfolding woven_moves moves_of symbol_at
  ordered_same = record {
    same = λ arities tr. (
      λ m.
          let (p, i, e) = Memᴰ.of_map (λ i. move_of arities (get_or words i 0)) (count_from 0 (get_or heads 64 0)) m in
          let r = o.from p (omega (arith, (mem_order 0 (get_or heads 64 0) i).1, last)) in
          let means = sym e ∙ ap (move_of arities) r.same ∙ word_means arities rows flat.small r.row in
          Memᴰ.cast means (Memᴰ.map (move_at arities rows) (order_mem 0 count r.row (omega arith) (omega (arith, r.listed)))),
      λ m.
          let (i, j, e) = Memᴰ.of_map (move_at arities rows) (count_from 0 count) m in
          let k = o.all i (omega (arith, (mem_order 0 count j).1)) in
          let means = sym e ∙ sym (word_means arities rows flat.small i) ∙ ap (move_of arities) (sym k.same) in
          Memᴰ.cast means (Memᴰ.map (λ i. move_of arities (get_or words i 0)) (order_mem 0 (get_or heads 64 0) k.place (omega arith) (omega (arith, k.below, last)))),
    );
  }
