-- The transitions of a table, one by one: one set of laws, for A, for the merged table and for B.
use mathlib.Core.Path.{◌≡◌, refl, ap, ◌∙◌}
use mathlib.Core.List.Memᴰ
use mathlib.Core.List.{List, map, Memᴰ}
use Prim.Native.Nat.{ℕ, zero, suc, ◌+◌, ◌*◌, ◌/◌, ◌≤◌, ◌<◌}
use native.Mathlib.Omega.{arith}
use lib.ListN.{length, get_or, take, length-map}
use lib.Seq.{length-take-le, get_or-take}
use Rattle.theory.specs.Lists.{count_from}
use Rattle.theory.specs.Automaton.{Transition}
use Rattle.theory.proofs.Count.{mem_order, order_mem, length_count}
use Rattle.tables.specs.Held.{move_at, moves_of}

module _ (arities rows : List ℕ) (n : ℕ) where
  -- A transition is one of the first n rows ..
  pub move_row : {tr : Transition} → Memᴰ tr (moves_of arities rows n) → (i : ℕ) × (i < n) × (move_at arities rows i ≡ tr)
  unfolding moves_of
  move_row m = let (i, k, e) = Memᴰ.of_map (move_at arities rows) (count_from 0 n) m in let (l, h) = mem_order 0 n k in (i, omega arith, e)

  -- .. and each of them is a transition.
  pub row_move : (i : ℕ) → i < n → Memᴰ (move_at arities rows i) (moves_of arities rows n)
  unfolding moves_of
  row_move i h = Memᴰ.map (move_at arities rows) (order_mem 0 n i (omega arith) (omega arith))

-- Two functions that agree on the numbers of a stretch map it alike.
pub map_same : {Y : Type 0} (f g : ℕ → Y) (n k : ℕ) → ((i : ℕ) → n ≤ i → i < n + k → f i ≡ g i) → map f (count_from n k) ≡ map g (count_from n k)
unfolding count_from
map_same f g n zero h = refl
map_same f g n (suc k) h = let head : f n ≡ g n = h n (omega arith) (omega arith) in let tail = map_same f g (suc n) k (λ i l u. h i (omega arith) (omega arith)) in cc

-- A row, from equal bytes.
pub same_row : (arities rows bytes : List ℕ) (i : ℕ) → ((j : ℕ) → j < 5 → get_or rows (i * 5 + j) 0 ≡ get_or bytes (i * 5 + j) 0) → move_at arities rows i ≡ move_at arities bytes i
unfolding move_at
same_row arities rows bytes i h =
    let first : get_or rows (i * 5) 0 ≡ get_or bytes (i * 5) 0 = ap (λ k. get_or rows k 0) (omega arith) ∙ (h 0 (omega arith) ∙ ap (λ k. get_or bytes k 0) (omega arith)) in
    rw (first, h 1 (omega arith), h 2 (omega arith), h 3 (omega arith), h 4 (omega arith))

-- The first n rows of a table are all rows of its first 5 n bytes.
pub moves_take : (arities rows : List ℕ) (n : ℕ) → n * 5 ≤ length rows → moves_of arities (take (n * 5) rows) (length (take (n * 5) rows) / 5) ≡ moves_of arities rows n
unfolding moves_of
moves_take arities rows n h =
    let count : length (take (n * 5) rows) / 5 ≡ n = rw (length-take-le (n * 5) rows h) (omega arith) in
    rw count
    (map_same (move_at arities (take (n * 5) rows)) (move_at arities rows) 0 n
    (λ i l u. same_row arities (take (n * 5) rows) rows i (λ j k. get_or-take (n * 5) rows (i * 5 + j) 0 (omega arith))))

-- There are as many transitions as rows.
pub moves_count : (arities rows : List ℕ) (n : ℕ) → length (moves_of arities rows n) ≡ n
unfolding moves_of
moves_count arities rows n = length-map (count_from 0 n) (move_at arities rows) ∙ length_count 0 n
