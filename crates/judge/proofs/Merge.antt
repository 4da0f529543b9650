-- The turns of the two loops that merge a table.
use mathlib.Core.Path.{◌≡◌, refl, sym, ap, ap₂, ◌∙◌, fun_ext}
use mathlib.Core.Bool.{Bool, true, false, ◌||◌, or-false, cond, or_assoc}
use mathlib.Core.List.{List, [], ◌∷◌, ◌++◌, map, map-append}
use Prim.Native.Nat.{ℕ, zero, suc, ◌+◌, ◌%◌, ◌<◌}
use native.Mathlib.Omega.{arith}
use native.Mathlib.Nat.{add-zero}
use native.Mathlib.Decide.{ℕ_discrete}
use borrow.Author.Tests.{eq-eqb, ne_eqb}
use lib.Dec.{eqb}
use lib.ListN.{length, get_or, set, length-set, replicate, length-replicate}
use lib.Seq.{get_or-set_same, get_or-set_other}
use Rattle.theory.specs.Lists.{any}
use Rattle.sets.specs.Sets.{Set, mem, plus}
use Rattle.sets.proofs.Laws.{mem-zero}
use Rattle.tables.specs.Held.{members}
use Rattle.judge.specs.Merged.{merged_byte, Merged, final_class}
use Rattle.theory.proofs.Bools.{eqb_sym, zero_at}

module _ (rows merge : List ℕ) where
  pub merged_start : Merged rows merge 0 (replicate 640 0)
  merged_start = record { long = length-replicate {A = ℕ} 640 0; small = λ i. omega (arith, zero_at 640 i); each = λ i h. absurd (omega arith); rest = λ i h. zero_at 640 i }

  -- One more byte.
  pub merged_more : (at : ℕ) (bytes : List ℕ) (v : ℕ) → at < 640 → Merged rows merge at bytes → v ≡ merged_byte rows merge at → v < 64 → Merged rows merge (at + 1) (set bytes at v)
  merged_more at bytes v h m e l =
      let inside : at < length bytes = omega (arith, m.long) in
      let here : get_or (set bytes at v) at 0 ≡ v = get_or-set_same bytes at v 0 inside in
      record {
        long = length-set bytes at v ∙ m.long;
        small = λ i. elim (ℕ_discrete i at) [ yes q ↦ rw (q, here) l | no n ↦ rw (get_or-set_other bytes at i v 0 n) (m.small i) ];
        each = λ i k. elim (ℕ_discrete i at) [ yes q ↦ rw (q, here) e | no n ↦ get_or-set_other bytes at i v 0 n ∙ m.each i (omega arith) ];
        rest = λ i k. get_or-set_other bytes at i v 0 (λ q. omega arith) ∙ m.rest i (omega arith);
      }

-- A byte of the merged table, by its place in its row.
module _ (rows merge : List ℕ) (at : ℕ) where
  pub symbol_byte : at % 5 ≡ 0 → get_or rows at 0 ≡ merged_byte rows merge at
  unfolding merged_byte
  symbol_byte e = rw (eq-eqb (at % 5) 0 e)

  pub state_byte : (at % 5 ≡ 0 → ⊥) → get_or merge (get_or rows at 0) 0 ≡ merged_byte rows merge at
  unfolding merged_byte
  state_byte n = rw (ne_eqb (at % 5) 0 n)

-- The members among one number more.
members_more : (mask n k : ℕ) → members mask n (suc k) ≡ members mask n k ++ members mask (n + k) 1
unfolding members
members_more mask n zero = rw add-zero
members_more mask n (suc k) =
    let shift : n + suc k ≡ suc n + k = omega arith in
    rw shift (go (mem mask n) (members mask (suc n) (suc k)) (members mask (suc n) k) (members mask (suc n + k) 1) (members_more mask (suc n) k))
  where
    go : (b : Bool) (xs ys zs : List ℕ) → xs ≡ ys ++ zs → cond b (n ∷ xs) xs ≡ cond b (n ∷ ys) ys ++ zs
    go true xs ys zs e = ap (λ l. n ∷ l) e
    go false xs ys zs e = e

some_append : {Y : Type 0} (xs ys : List Y) (test : Y → Bool) → any (xs ++ ys) test ≡ (any xs test || any ys test)
unfolding any
some_append [] ys test = refl
some_append (x ∷ xs) ys test = ap (λ b. test x || b) (some_append xs ys test) ∙ sym (or_assoc (test x) (any xs test) (any ys test))

module _ (finals : ℕ) (merge : List ℕ) where
  pub final_start : mem 0 ≡ final_class finals merge 0
  unfolding final_class members any
  final_start = mem-zero

  -- One more state: final, or not.
  more : (n q : ℕ) → final_class finals merge (suc n) q ≡ (final_class finals merge n q || any (map (λ s. get_or merge s 0) (members finals n 1)) (eqb q))
  unfolding final_class
  more n q =
      let parts : members finals 0 (suc n) ≡ members finals 0 n ++ members finals n 1 = members_more finals 0 n ∙ ap (λ k. members finals 0 n ++ members finals k 1) (omega arith) in
      ap (λ l. any (map (λ s. get_or merge s 0) l) (eqb q)) parts
      ∙ (ap (λ l. any l (eqb q)) (map-append (λ s. get_or merge s 0) (members finals 0 n) (members finals n 1)) ∙ some_append (map (λ s. get_or merge s 0) (members finals 0 n)) _ (eqb q))

  -- The class of a final state is added, and nothing for another state.
  next : (n q : ℕ) → final_class finals merge (n + 1) q ≡ (final_class finals merge n q || any (map (λ s. get_or merge s 0) (members finals n 1)) (eqb q))
  next n q = ap (λ k. final_class finals merge k q) (omega arith) ∙ more n q

  pub final_on : (n classes classes' : ℕ) → mem classes ≡ final_class finals merge n → mem finals n ≡ true → mem classes' ≡ plus (mem classes) (get_or merge n 0)
      → mem classes' ≡ final_class finals merge (n + 1)
  unfolding members any
  final_on n classes classes' inv e said = said ∙ fun_ext (λ q.
      ap₂ (λ (a b : Bool). a || b) (ap (λ (s : Set). s q) inv) (eqb_sym (get_or merge n 0) q ∙ sym (or-false (eqb q (get_or merge n 0))))
      ∙ sym (next n q ∙ rw (e, members)))

  pub final_off : (n classes : ℕ) → mem classes ≡ final_class finals merge n → mem finals n ≡ false → mem classes ≡ final_class finals merge (n + 1)
  unfolding members any
  final_off n classes inv e = inv ∙ fun_ext (λ q. sym (or-false (final_class finals merge n q)) ∙ sym (next n q ∙ rw (e, members)))
