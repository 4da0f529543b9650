-- An automaton that is packed into a table is what the table holds.
use mathlib.Core.Path.{◌≡◌, refl, sym, ap, ◌∙◌}
use mathlib.Core.Bool.{Bool, true, false, ◌||◌, and-eq-true_iff, or_assoc, or-false}
use mathlib.Core.Logic.{inl, inr}
use mathlib.Core.List.{List, [], ◌∷◌, ◌++◌, Memᴰ}
use Prim.Native.Nat.{ℕ, zero, suc, ◌+◌, ◌*◌, ◌≤◌, ◌<◌, ◌^◌}
use native.Mathlib.Omega.{arith}
use borrow.Author.Tests.{leb-true, ne_eqb, eqb-true, eqb-false, le-leb}
use lib.Dec.{eqb, leb}
use lib.Bits.{bit_or}
use lib.ListN.{length, drop, take, get_or, get_or-append}
use lib.Seq.{split_at, get_or-append-add, length-take-le}
use Rattle.theory.specs.Lists.{any}
use Rattle.theory.specs.Automaton.{Automaton, Transition}
use Rattle.paper.specs.Tables.{ascending}
use Rattle.paper.specs.WellFormed.{GoodTransition, GoodAutomaton}
use Rattle.paper.proofs.Smallest.{decided}
use Rattle.paper.proofs.Words.{ascending_exact}
use Rattle.fields.specs.Padded.{padded}
use Rattle.fields.proofs.Whole.{padded_low}
use Rattle.sets.specs.Sets.{mem}
use Rattle.sets.proofs.Laws.{mem_with, mem-zero}
use Rattle.tables.specs.Held.{move_at, moves_of, members, automaton_of}
use Rattle.blocks.specs.Packed.{row_of, flat, mask_from, packed_rows, table_of}
use Rattle.blocks.proofs.Arrays.{padded_get, append_low, listed, get_or-mem, list_low}
use Rattle.blocks.proofs.Blocks.{row_length, flat_length, flat_append}
use Rattle.theory.proofs.Bools.{eqb_sym}

-- a row of the table
row_at : (ts : List Transition) (i : ℕ) (d : Transition) → i < length ts → flat row_of ts ≡ flat row_of (take i ts) ++ (row_of (get_or ts i d) ++ flat row_of (drop (suc i) ts))
row_at ts i d h = ap (flat row_of) (split_at ts i d h) ∙ flat_append row_of (take i ts) (get_or ts i d ∷ drop (suc i) ts) ∙ (unfold flat in refl)

byte_at : (ts : List Transition) (i j : ℕ) (d : Transition) → i < length ts → length ts ≤ 128 → j < 5 → get_or (packed_rows ts) (i * 5 + j) 0 ≡ get_or (row_of (get_or ts i d)) j 0
unfolding packed_rows
byte_at ts i j d h l g =
    let n = flat_length row_of 5 row_length (take i ts) in
    let k = length-take-le i ts (omega arith) in
    let place : i * 5 + j ≡ length (flat row_of (take i ts)) + j = omega arith in
    padded_get 640 (flat row_of ts) (i * 5 + j) (omega arith)
    ∙ ap (λ (x : List ℕ). get_or x (i * 5 + j) 0) (row_at ts i d h)
    ∙ ap (λ k. get_or (flat row_of (take i ts) ++ (row_of (get_or ts i d) ++ flat row_of (drop (suc i) ts))) k 0) place
    ∙ get_or-append-add (flat row_of (take i ts)) (row_of (get_or ts i d) ++ flat row_of (drop (suc i) ts)) j 0
    ∙ get_or-append (row_of (get_or ts i d)) (flat row_of (drop (suc i) ts)) 0 j (omega (arith, row_length (get_or ts i d)))

-- arguments in three places
three : (args : List ℕ) → length args ≤ 3 → (x : ℕ) × (y : ℕ) × (z : ℕ) × (padded 3 args ≡ x ∷ (y ∷ (z ∷ []))) × (take (length args) (x ∷ (y ∷ (z ∷ []))) ≡ args)
unfolding padded
three [] h = (0, 0, 0, refl, refl)
three (x ∷ []) h = (x, 0, 0, refl, refl)
three (x ∷ (y ∷ [])) h = (x, y, 0, refl, refl)
three (x ∷ (y ∷ (z ∷ []))) h = (x, y, z, refl, refl)
three (x ∷ (y ∷ (z ∷ (w ∷ args)))) h = absurd (omega arith)

move_back : (ar rows : List ℕ) (i : ℕ) (t : Transition) → length t.arguments ≡ get_or ar t.symbol 0 → length t.arguments ≤ 3
    → ((j : ℕ) → j < 5 → get_or rows (i * 5 + j) 0 ≡ get_or (row_of t) j 0) → move_at ar rows i ≡ t
unfolding move_at row_of
move_back ar rows i t n l h =
    let (x, y, z, p, q) = three t.arguments l in
    let at : (j : ℕ) → j < 5 → get_or rows (i * 5 + j) 0 ≡ get_or (t.symbol ∷ (x ∷ (y ∷ (z ∷ (t.target ∷ []))))) j 0 =
    λ j k. h j k ∙ ap (λ (a : List ℕ). get_or (t.symbol ∷ (a ++ (t.target ∷ []))) j 0) p in
    let zero_at : i * 5 ≡ i * 5 + 0 = omega arith in
    let b0 : get_or rows (i * 5) 0 ≡ t.symbol = ap (λ k. get_or rows k 0) zero_at ∙ at 0 (omega arith) in
    let b1 : get_or rows (i * 5 + 1) 0 ≡ x = at 1 (omega arith) in
    let b2 : get_or rows (i * 5 + 2) 0 ≡ y = at 2 (omega arith) in
    let b3 : get_or rows (i * 5 + 3) 0 ≡ z = at 3 (omega arith) in
    let b4 : get_or rows (i * 5 + 4) 0 ≡ t.target = at 4 (omega arith) in
    rw (b0, b1, b2, b3, b4, ← n) (ap (λ (a : List ℕ). record { symbol = t.symbol; arguments = a; target = t.target }) q)

nothing : Transition
nothing = record { symbol = 0; arguments = []; target = 0 }

moves_back : (ar : List ℕ) (n : ℕ) (ts : List Transition) → ((a : ℕ) → get_or ar a 0 ≤ 3) → ((t : Transition) → Memᴰ t ts → GoodTransition ar n t) → length ts ≤ 128
    → moves_of ar (packed_rows ts) (length ts) ≡ ts
unfolding moves_of
moves_back ar n ts low good l =
    listed (move_at ar (packed_rows ts)) nothing ts (λ i h.
    let g = good (get_or ts i nothing) (get_or-mem ts i nothing h) in
    move_back ar (packed_rows ts) i (get_or ts i nothing) g.count (omega (arith, g.count, low (get_or ts i nothing).symbol)) (λ j k. byte_at ts i j nothing h l k))

-- every byte of a table is below 64
one_low : (m q : ℕ) → q ≤ m → (i : ℕ) → get_or (q ∷ []) i 0 ≤ m
one_low m q h zero = h
one_low m q h (suc i) = omega arith

rows_low : (ar : List ℕ) (n : ℕ) (ts : List Transition) → length ar ≤ 64 → n ≤ 64 → ((t : Transition) → Memᴰ t ts → GoodTransition ar n t) → (i : ℕ) → get_or (flat row_of ts) i 0 ≤ 63
unfolding flat row_of
rows_low ar n [] s l good i = omega arith
rows_low ar n (t ∷ ts) s l good i =
    let g = good t (Memᴰ.head refl) in
    append_low 63 (t.symbol ∷ (padded 3 t.arguments ++ (t.target ∷ []))) (flat row_of ts)
    (append_low 63 (t.symbol ∷ []) (padded 3 t.arguments ++ (t.target ∷ [])) (one_low 63 t.symbol (omega (arith, g.symbol)))
    (append_low 63 (padded 3 t.arguments) (t.target ∷ []) (padded_low 63 3 t.arguments (list_low 63 t.arguments (λ q m. omega (arith, g.arguments q m))))
    (one_low 63 t.target (omega (arith, g.target)))))
    (rows_low ar n ts s l (λ u m. good u (Memᴰ.tail m))) i

pub table_small : (ar : List ℕ) (A : Automaton) → length ar ≤ 64 → GoodAutomaton ar A → (i : ℕ) → get_or (packed_rows A.transitions) i 0 < 64
unfolding packed_rows
table_small ar A l g i = omega (arith, padded_low 63 640 (flat row_of A.transitions) (rows_low ar A.states A.transitions l (omega (arith, g.states_bound)) g.transitions) i)

-- Masks: the members of a mask are the states that it was made of.
mem_mask : (qs : List ℕ) (m x : ℕ) → mem (mask_from m qs) x ≡ (mem m x || any qs (eqb x))
unfolding mask_from any
mem_mask [] m x = sym (or-false (mem m x))
mem_mask (q ∷ qs) m x =
    mem_mask qs (bit_or m (2 ^ q)) x
    ∙ ap (λ (b : Bool). b || any qs (eqb x)) (ap (λ (f : ℕ → Bool). f x) (mem_with m q) ∙ ap (λ (b : Bool). mem m x || b) (eqb_sym q x))
    ∙ or_assoc (mem m x) (eqb x q) (any qs (eqb x))

not_above : (qs : List ℕ) (n m : ℕ) → ascending m qs ≡ true → n < m → any qs (eqb n) ≡ false
unfolding ascending any
not_above [] n m e h = refl
not_above (q ∷ qs) n m e h =
    let (a, b) = (and-eq-true_iff (leb m q) (ascending (suc q) qs)).0 e in
    let l = leb-true m q a in
    rw (ne_eqb n q (λ z. omega arith)) (not_above qs n (suc q) b (omega arith))

members_are : (mask n k : ℕ) (qs : List ℕ) → ascending n qs ≡ true → ((q : ℕ) → Memᴰ q qs → q < n + k) → ((x : ℕ) → n ≤ x → mem mask x ≡ any qs (eqb x)) → members mask n k ≡ qs
unfolding members ascending any
members_are mask n zero [] e h g = refl
members_are mask n zero (q ∷ qs) e h g =
    let l = leb-true n q ((and-eq-true_iff (leb n q) (ascending (suc q) qs)).0 e).0 in
    absurd (omega (arith, h q (Memᴰ.head refl)))
members_are mask n (suc k) [] e h g = rw (g n (omega arith)) (members_are mask (suc n) k [] refl (λ q m. omega (arith, h q m)) (λ x l. g x (omega arith)))
members_are mask n (suc k) (q ∷ qs) e h g =
    let (a, b) = (and-eq-true_iff (leb n q) (ascending (suc q) qs)).0 e in
    let l = leb-true n q a in
    elim (decided (eqb n q)) [
      | inl p ↦
          let same : n ≡ q = eqb-true n q p in
          let here : mem mask n ≡ true = g n (omega arith) ∙ rw p in
          let rest = members_are mask (suc n) k qs (rw same b) (λ x m. omega (arith, h x (Memᴰ.tail m))) (λ x u. g x (omega arith) ∙ rw (ne_eqb x q (λ z. omega arith))) in
          rw here (ap (λ (r : List ℕ). n ∷ r) rest ∙ ap (λ (z : ℕ). z ∷ qs) same)
      | inr p ↦
          let other : (n ≡ q → ⊥) = eqb-false n q p in
          let above : n < q = omega (arith, l, other) in
          let here : mem mask n ≡ false = g n (omega arith) ∙ rw p (not_above qs n (suc q) b (omega arith)) in
          rw here (members_are mask (suc n) k (q ∷ qs) (rw (le-leb (suc n) q above) b) (λ x m. omega (arith, h x m)) (λ x u. g x (omega arith)))
    ]

pub final_back : (qs : List ℕ) (n : ℕ) → ascending 0 qs ≡ true → ((q : ℕ) → Memᴰ q qs → q < n) → members (mask_from 0 qs) 0 n ≡ qs
final_back qs n e h = members_are (mask_from 0 qs) 0 n qs e (λ q m. omega (arith, h q m)) (λ x l. mem_mask qs 0 x ∙ ap (λ (f : ℕ → Bool). f x || any qs (eqb x)) mem-zero)

-- The table holds its automaton.
pub table_back : (ar : List ℕ) (A : Automaton) → ((a : ℕ) → get_or ar a 0 ≤ 3) → GoodAutomaton ar A → automaton_of ar (table_of A) ≡ A
unfolding automaton_of table_of
table_back ar A low g =
    rw (moves_back ar A.states A.transitions low g.transitions g.transitions_bound, final_back A.final A.states ((ascending_exact A.final).1 g.final_ascending) g.final)
