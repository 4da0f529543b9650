-- Rows: a loop that makes one word by word, rows joined lane by lane, and rows stored in a sheet.
use mathlib.Core.Path.{◌≡◌, refl, sym, ap, ap₂, ◌∙◌}
use mathlib.Core.Bool.{Bool, true, false, ◌&&◌, ◌||◌, and-true, and_self}
use mathlib.Core.Logic.{⊎_elim}
use mathlib.Core.List.{List, [], ◌∷◌}
use Prim.Native.Nat.{ℕ, ◌+◌, ◌/◌, ◌%◌, ◌≤◌, ◌<◌}
use native.Mathlib.Omega.{arith}
use lib.Bits.{bit_and, bit_or}
use lib.ListN.{length, get_or, set, replicate, length-set, get_or-replicate}
use lib.Seq.{get_or-set_other}
use borrow.Author.Tests.{lt-ltb}
use Rattle.theory.proofs.Bools.{zero_at}
use Rattle.sets.specs.Sets.{Set, mem, all_mask}
use Rattle.sets.proofs.Laws.{mem-zero, mem_below, mem-or, mem-and}
use Rattle.woven.specs.Woven.{part}
use Rattle.values.specs.Sets.{drawn}
use Rattle.values.specs.Lanes.{lit}
use Rattle.values.specs.Rows.{all_lit, Within}

-- A row r with f at each place below y.
pub record Each (f : ℕ → ℕ) (r : List ℕ) (y : ℕ) : Type 0 where
  pub long : length r ≡ 8
  pub done : (x : ℕ) → x < y → get_or r x 0 ≡ f x

-- Each lane of a row that is made.
made_lit : (f : ℕ → ℕ) (r : List ℕ) (y : ℕ) → 8 ≤ y → Each f r y → (l : ℕ) → l < 512 → lit r l ≡ mem (f (l / 64)) (l % 64)
made_lit f r y hy all l hl = ap (λ w. mem w (l % 64)) (all.done (l / 64) (omega arith))

-- What three others have in common.
module _ (s a b c : List ℕ) where
  abbrev pub word : ℕ → ℕ
  word y = bit_or (get_or s y 0) (bit_and (get_or a y 0) (bit_and (get_or b y 0) (get_or c y 0)))

  pub joined : (r : List ℕ) (y : ℕ) → 8 ≤ y → Each word r y → (l : ℕ) → l < 512 → lit r l ≡ (lit s l || (lit a l && (lit b l && lit c l)))
  joined r y hy all l hl = let p = l / 64 in
      made_lit word r y hy all l hl ∙ mem-or (get_or s p 0) (bit_and (get_or a p 0) (bit_and (get_or b p 0) (get_or c p 0))) (l % 64)
      ∙ ap (◌||◌ (lit s l)) (mem-and (get_or a p 0) (bit_and (get_or b p 0) (get_or c p 0)) (l % 64) ∙ ap (◌&&◌ (lit a l)) (mem-and (get_or b p 0) (get_or c p 0) (l % 64)))

-- A new row.
pub none_lit : (l : ℕ) → lit (replicate 8 0) l ≡ false
none_lit l = ap (λ w. mem w (l % 64)) (zero_at 8 (l / 64)) ∙ ap (λ (s : Set). s (l % 64)) mem-zero

-- The row of all ones.
abbrev pub ones : List ℕ
ones = replicate 8 all_mask

pub all_lit_lem : (l : ℕ) → l < 512 → lit ones l ≡ true
all_lit_lem l hl =
    ap (λ w. mem w (l % 64)) (get_or-replicate 8 (l / 64) all_mask 0 (omega arith))
    ∙ ap (λ (s : Set). s (l % 64)) (mem_below 64)
    ∙ lt-ltb (l % 64) 64 (omega arith)

-- A row of a sheet is changed, and nothing else.
pub row_within : (k : ℕ) (m : List (List ℕ)) (a q : ℕ) (now after : List (List ℕ))
    → q < k → length after ≡ length now → ((j : ℕ) → (j ≡ a + q → ⊥) → get_or after j [] ≡ get_or now j []) → Within k m a now → Within k m a after
row_within k m a q now after hq long same w = record {
  long = long ∙ w.long;
  same = λ i side. same i (λ e. ⊎_elim (λ l. omega arith) (λ l. omega arith) side) ∙ w.same i side;
}

-- It is stored.
pub store_within : (k : ℕ) (m : List (List ℕ)) (a q : ℕ) (now : List (List ℕ)) (r : List ℕ) → q < k → Within k m a now → Within k m a (set now (a + q) r)
store_within k m a q now r hq = row_within k m a q now (set now (a + q) r) hq (length-set now (a + q) r) (λ j ne. get_or-set_other now (a + q) j r [] ne)

-- A list of three, by its elements.
three : (xs : List ℕ) → length xs ≡ 3 → xs ≡ (get_or xs 0 0 ∷ (get_or xs 1 0 ∷ (get_or xs 2 0 ∷ [])))
three [] e = absurd (omega arith)
three (a ∷ []) e = absurd (omega arith)
three (a ∷ (b ∷ [])) e = absurd (omega arith)
three (a ∷ (b ∷ (c ∷ []))) e = refl
three (a ∷ (b ∷ (c ∷ (d ∷ xs)))) e = absurd (omega arith)

-- The arguments' rows, by the number of arguments.
module _ (m : List (List ℕ)) (w : ℕ) (kids : List ℕ) (long : length kids ≡ 3) (l n : ℕ) where
  -- The class x of argument j.
  abbrev argument : ℕ → ℕ → Bool
  argument j x = lit (get_or m (get_or kids j 0 + x) []) l

  plain : (i : ℕ) → n ≡ i → all_lit m n w kids l ≡ all_lit m i w (get_or kids 0 0 ∷ (get_or kids 1 0 ∷ (get_or kids 2 0 ∷ []))) l
  plain i e = ap₂ (λ n ks. all_lit m n w ks l) e (three kids long)

  pub no_lit : n ≡ 0 → true ≡ all_lit m n w kids l
  unfolding all_lit drawn
  no_lit e = sym (plain 0 e)

  -- With fewer arguments the last row is taken again.
  pub one_lit : (x : ℕ) → n ≡ 1 → x ≡ part w 0 → (argument 0 x && (argument 0 x && argument 0 x)) ≡ all_lit m n w kids l
  unfolding all_lit drawn
  one_lit x e ex = rw (and_self (argument 0 x), and_self (argument 0 x)) (ap (argument 0) ex ∙ sym (and-true (argument 0 (part w 0))) ∙ sym (plain 1 e))

  pub two_lit : (x y : ℕ) → n ≡ 2 → x ≡ part w 0 → y ≡ part w 1 → (argument 0 x && (argument 1 y && argument 1 y)) ≡ all_lit m n w kids l
  unfolding all_lit drawn
  two_lit x y e ex ey = rw (and_self (argument 1 y)) (ap₂ ◌&&◌ (ap (argument 0) ex) (ap (argument 1) ey ∙ sym (and-true (argument 1 (part w 1)))) ∙ sym (plain 2 e))

  pub three_lit : (x y z : ℕ) → n ≡ 3 → x ≡ part w 0 → y ≡ part w 1 → z ≡ part w 2 → (argument 0 x && (argument 1 y && argument 2 z)) ≡ all_lit m n w kids l
  unfolding all_lit drawn
  three_lit x y z e ex ey ez =
      ap₂ ◌&&◌ (ap (argument 0) ex) (ap₂ ◌&&◌ (ap (argument 1) ey) (ap (argument 2) ez ∙ sym (and-true (argument 2 (part w 2))))) ∙ sym (plain 3 e)
