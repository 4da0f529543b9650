-- From the tables to the two automata: the merged rows are the merged automaton's transitions, and the masks its final classes.
use mathlib.Core.Path.{◌≡◌, refl, sym, ap, ap₂, ◌∙◌}
use mathlib.Core.Logic.{◌↔◌}
use mathlib.Core.Bool.{Bool, true}
use mathlib.Core.List.{List, [], ◌∷◌, map, map-map, Memᴰ}
use Prim.Native.Nat.{ℕ, zero, suc, ◌+◌, ◌*◌, ◌/◌, ◌≤◌, ◌<◌}
use native.Mathlib.Omega.{arith}
use lib.ListN.{length, get_or, take, get_or-eq_default}
use lib.Dec.{eqb}
use lib.Seq.{get_or-take}
use Rattle.theory.specs.Lists.{count_from, any}
use Rattle.theory.specs.Automaton.{◌of◌gives◌, class_of, merge_transition, merged}
use Rattle.theory.specs.Critical.{Share}
use Rattle.theory.proofs.Grow.{share_more}
use Rattle.theory.proofs.Merged.{merged_in_range}
use Rattle.paper.specs.Limits.{most_transitions, most_states, most_arity}
use Rattle.paper.specs.Computed.{sharing}
use Rattle.paper.proofs.Bounds.{classes_bound}
use Rattle.paper.proofs.Exact.{listed_iff, in_range, final_classes}
use Rattle.sets.specs.Sets.{mem}
use Rattle.tables.specs.declared.Tables.{Tables}
use Rattle.tables.specs.declared.Merging.{Merging}
use Rattle.tables.specs.Held.{move_at, moves_of, members, automaton_of, arities_of, merge_of, held}
use Rattle.tables.specs.Sound.{Sound}
use Rattle.tables.proofs.Moves.{row_move, map_same, moves_take, moves_count}
use Rattle.tables.proofs.Members.{members_sound, members_complete}
use Rattle.sharing.specs.Share.{flat, Exact, Shareable}
use Rattle.judge.specs.Merged.{Merged, final_class}
use Rattle.judge.specs.Pairs.{shared_of}
use Rattle.judge.specs.Judged.{merged_of, bad_of}
use Rattle.judge.proofs.Merge.{symbol_byte, state_byte}
use Rattle.judge.proofs.Pairing.{shared_is}

-- Two functions that agree on a list's elements map it alike.
map_on : (f g : ℕ → ℕ) (xs : List ℕ) → ((x : ℕ) → Memᴰ x xs → f x ≡ g x) → map f xs ≡ map g xs
map_on f g [] h = refl
map_on f g (x ∷ xs) h = let head : f x ≡ g x = h x (Memᴰ.head refl) in let tail = map_on f g xs (λ y m. h y (Memᴰ.tail m)) in cc

-- Mapping the first n of a list.
map-take : (f : ℕ → ℕ) (n : ℕ) (xs : List ℕ) → map f (take n xs) ≡ take n (map f xs)
map-take f zero xs = refl
map-take f (suc n) [] = refl
map-take f (suc n) (x ∷ xs) = ap (λ l. f x ∷ l) (map-take f n xs)

-- A bound of a list's elements is one of its entries, also past its end.
get_or_bound : (xs : List ℕ) (b : ℕ) → ((x : ℕ) → Memᴰ x xs → x ≤ b) → (i : ℕ) → get_or xs i 0 ≤ b
get_or_bound [] b h i = omega arith
get_or_bound (x ∷ xs) b h zero = h x (Memᴰ.head refl)
get_or_bound (x ∷ xs) b h (suc i) = get_or_bound xs b (λ y m. h y (Memᴰ.tail m)) i

-- The first n of a list's entries keep a bound.
get_or_take_bound : (b n : ℕ) (xs : List ℕ) → ((i : ℕ) → get_or xs i 0 < b) → (i : ℕ) → get_or (take n xs) i 0 < b
get_or_take_bound b zero xs h i = omega (arith, h (length xs), get_or-eq_default xs 0 {n = length xs} (omega arith))
get_or_take_bound b (suc n) [] h i = h i
get_or_take_bound b (suc n) (x ∷ xs) h zero = h 0
get_or_take_bound b (suc n) (x ∷ xs) h (suc i) = get_or_take_bound b n xs (λ j. h (suc j)) i

same_transition : {f g : ℕ} {qs ps : List ℕ} {q p : ℕ} → f ≡ g → qs ≡ ps → q ≡ p → (f of qs gives q) ≡ (g of ps gives p)
same_transition e d h = λ i. record { symbol = e i; arguments = d i; target = h i }

module _ (t : Tables) (m : Merging) (s : Sound t m) where
  abbrev ar : List ℕ
  ar = arities_of t

  -- There are at most 128 rows.
  pub few_initial : t.initial.count ≤ most_transitions
  unfolding automaton_of held
  few_initial = omega (arith, s.well.A.transitions_bound, moves_count ar t.initial.rows t.initial.count)

  pub few_bad : t.bad.count ≤ most_transitions
  unfolding automaton_of held
  few_bad = omega (arith, s.well.B.transitions_bound, moves_count ar t.bad.rows t.bad.count)

  -- There are at most 32 states and classes.
  pub few_states : (t.initial.states ≤ most_states) × (t.bad.states ≤ most_states) × (m.classes ≤ most_states)
  unfolding automaton_of held
  few_states = (s.well.A.states_bound, s.well.B.states_bound, omega (arith, s.classes, classes_bound (held t m) s.well))

  -- Every arity is at most 3.
  pub rank : (f : ℕ) → get_or ar f 0 ≤ most_arity
  unfolding held
  rank f = get_or_bound ar most_arity s.well.arities f

  -- A state's class is its byte of the merging.
  class_inside : (q : ℕ) → q < t.initial.states → class_of (merge_of t m) q ≡ get_or m.merge q 0
  unfolding class_of merge_of
  class_inside q h = get_or-take t.initial.states m.merge q 0 h

  module _ (bytes : List ℕ) (w : Merged t.initial.rows m.merge (t.initial.count * 5) bytes) where
    -- A state of a merged row.
    state_at : (i j : ℕ) → i < t.initial.count → 1 ≤ j → j ≤ 4 → get_or bytes (i * 5 + j) 0 ≡ get_or m.merge (get_or t.initial.rows (i * 5 + j) 0) 0
    state_at i j h l u = w.each (i * 5 + j) (omega arith) ∙ sym (state_byte t.initial.rows m.merge (i * 5 + j) (λ e. omega arith))

    symbol_at_lem : (i : ℕ) → i < t.initial.count → get_or bytes (i * 5) 0 ≡ get_or t.initial.rows (i * 5) 0
    symbol_at_lem i h = w.each (i * 5) (omega arith) ∙ sym (symbol_byte t.initial.rows m.merge (i * 5) (omega arith))

    -- A merged row is the merged transition.
    row_merged : (i : ℕ) → i < t.initial.count → move_at ar bytes i ≡ merge_transition (merge_of t m) (move_at ar t.initial.rows i)
    unfolding move_at merge_transition held automaton_of
    row_merged i h =
        let rows = t.initial.rows in
        let good = s.well.A.transitions (move_at ar rows i) (row_move ar rows t.initial.count i h) in
        let byte : ℕ → ℕ = λ q. get_or m.merge q 0 in
        same_transition
        (symbol_at_lem i h)
        (ap₂ (λ (f : ℕ) (l : List ℕ). take (get_or ar f 0) l) (symbol_at_lem i h)
        (three (state_at i 1 h (omega arith) (omega arith)) (state_at i 2 h (omega arith) (omega arith)) (state_at i 3 h (omega arith) (omega arith)))
        ∙ (sym (map-take byte (get_or ar (get_or rows (i * 5) 0) 0) (get_or rows (i * 5 + 1) 0 ∷ (get_or rows (i * 5 + 2) 0 ∷ (get_or rows (i * 5 + 3) 0 ∷ []))))
        ∙ sym (map_on (class_of (merge_of t m)) byte _ (λ q n. class_inside q (good.arguments q n)))))
        (state_at i 4 h (omega arith) (omega arith) ∙ sym (class_inside (get_or rows (i * 5 + 4) 0) good.target))
      where
        three : {a b c x y z : ℕ} → a ≡ x → b ≡ y → c ≡ z → ◌≡◌ {A = List ℕ} (a ∷ (b ∷ (c ∷ []))) (x ∷ (y ∷ (z ∷ [])))
        three p q r = cc

    -- The merged rows are the merged automaton's transitions.
    pub moves_merged : moves_of ar bytes t.initial.count ≡ (merged_of t m).transitions
    unfolding moves_of merged automaton_of
    moves_merged =
        let merge = merge_transition (merge_of t m) in
        let move = move_at ar t.initial.rows in
        map_same (move_at ar bytes) (λ i. merge (move i)) 0 t.initial.count (λ i l u. row_merged i (omega arith))
        ∙ sym (map-map merge move (count_from 0 t.initial.count))

  -- The mask of final classes has the merged automaton's.
  pub finals_merged : (mask : ℕ) → mem mask ≡ final_class t.initial.finals m.merge t.initial.states → (q : ℕ) → (mem mask q ≡ true) ↔ Memᴰ q (merged_of t m).final
  unfolding final_class merged automaton_of
  finals_merged mask e q =
      let finals = members t.initial.finals 0 t.initial.states in
      let same : map (λ r. get_or m.merge r 0) finals ≡ map (class_of (merge_of t m)) finals =
      map_on _ _ _ (λ r n. sym (class_inside r (omega (arith, (members_sound t.initial.finals 0 t.initial.states n).1)))) in
      let (to, from) = listed_iff q (merged_of t m).final in
      (λ h. to (sym (ap (λ l. any l (eqb q)) same) ∙ (sym (ap (λ (f : ℕ → Bool). f q) e) ∙ h)), λ n. ap (λ (f : ℕ → Bool). f q) e ∙ (ap (λ l. any l (eqb q)) same ∙ from n))

  -- The mask of B's final states has them.
  pub finals_bad : (p : ℕ) → p < (bad_of t).states → (mem t.bad.finals p ≡ true) ↔ Memᴰ p (bad_of t).final
  unfolding automaton_of
  finals_bad p h = (λ e. members_complete t.bad.finals 0 t.bad.states p (omega arith) (omega arith) e, λ n. (members_sound t.bad.finals 0 t.bad.states n).2)

  -- The pairs that are marked are those that share a tree.
  module _ (bytes : List ℕ) (w : Merged t.initial.rows m.merge (t.initial.count * 5) bytes) where
    -- The tables are such as sharing relies on.
    pub shareable : Shareable (take (t.initial.count * 5) bytes) (take (t.bad.count * 5) t.bad.rows) ar
    shareable = record { small = get_or_take_bound 64 (t.initial.count * 5) bytes w.small; bad_small = get_or_take_bound 64 (t.bad.count * 5) t.bad.rows s.bad_small; rank = rank }

    abbrev here : List ℕ
    here = take (t.initial.count * 5) bytes

    abbrev there : List ℕ
    there = take (t.bad.count * 5) t.bad.rows

    -- The merged rows alone are the merged automaton's transitions.
    pub moves_here : moves_of ar here (length here / 5) ≡ (merged_of t m).transitions
    moves_here = moves_take ar bytes t.initial.count (omega (arith, w.long, few_initial)) ∙ moves_merged bytes w

    same_there : (flat ar there).transitions ≡ (bad_of t).transitions
    unfolding automaton_of
    same_there = moves_take ar t.bad.rows t.bad.count (omega (arith, s.bad_long, few_bad))

    marked : (pairs : List ℕ) → Exact here there ar pairs → (q p : ℕ) → (mem (get_or pairs q 0) p ≡ true) ↔ Share (merged_of t m) (bad_of t) q p
    marked pairs e q p = (
      λ h. share_more (flat ar here) (flat ar there) (merged_of t m) (bad_of t) q p (λ tr n. rw moves_here at n) (λ tr n. rw same_there at n) ((e q p).0 h),
      λ h. (e q p).1 (share_more (merged_of t m) (bad_of t) (flat ar here) (flat ar there) q p (λ tr n. rw (← moves_here) at n) (λ tr n. rw (← same_there) at n) h),
    )

    -- What is found over the marked pairs is the pair that the paper names.
    pub found_is : (pairs : List ℕ) → Exact here there ar pairs → (mask : ℕ) → mem mask ≡ final_class t.initial.finals m.merge t.initial.states
        → shared_of pairs mask t.bad.finals 0 m.classes t.bad.states ≡ sharing (merged_of t m) (bad_of t)
    unfolding merged automaton_of held
    found_is pairs e mask f =
        ap (λ k. shared_of pairs mask t.bad.finals 0 k t.bad.states) s.classes
        ∙ shared_is (merged_of t m) (bad_of t) (merged_in_range (merge_of t m) (automaton_of ar t.initial)) (in_range s.well.B)
        (final_classes (merge_of t m) (automaton_of ar t.initial)) s.well.B.final pairs mask t.bad.finals (marked pairs e) (finals_merged mask f) finals_bad
