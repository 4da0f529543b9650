-- What a line that was read tells: where its value stands, that its entries are within their limits, and that a check has passed.
use mathlib.Core.Path.{◌≡◌, refl, sym, ap, ◌∙◌}
use mathlib.Core.Bool.{Bool, true, false}
use mathlib.Core.List.{List, [], ◌∷◌}
use Prim.Native.Nat.{ℕ, zero, suc, ◌≤◌}
use native.Mathlib.Omega.{arith}
use borrow.Author.Tests.{leb-true, ltb-true, ltb-false}
use lib.Dec.{leb, ltb}
use lib.ListN.{length, drop, get_or}
use Rattle.std.specs.declared.option.Option.{Option}
use Rattle.std.specs.declared.option.Option.TheVariants.{Some, None}
use Rattle.std.specs.declared.result.Result.TheVariants.{Err}
use Rattle.verdicts.specs.declared.refusals.Reason.{Reason}
use Rattle.verdicts.specs.declared.refusals.Reason.TheVariants.{OutOfRange, WrongCount}
use Rattle.verdicts.specs.declared.refusals.Refusal.{Refusal}
use Rattle.fields.specs.declared.cursor.Sort.{Sort}
use Rattle.fields.specs.declared.cursor.Sort.TheVariants.{Numbers, Tokens}
use Rattle.fields.specs.Value.{Value, numbers, not_numbers, value_of, sort_kind}
use Rattle.fields.specs.Line.{refuse}
use Rattle.fields.specs.Listed.{exceeds, Limited, any_over, beyond}
use Rattle.fields.specs.Lines.{Line, good, bad, numbers_in, line_in, checked, few_check, items_of}
use Rattle.theory.proofs.Bools.{neither}

pub tell_checked : (k : List ℕ → Option Reason) (l : Line) (ns : List ℕ) (at : ℕ) → checked k l ≡ good ns at → (l ≡ good ns at) × (k ns ≡ None)
unfolding checked
tell_checked k (bad r) ns at e = cc
tell_checked k (good ms m) ns at e = go (k ms) refl
  where
    go : (t : Option Reason) → k ms ≡ t → (good ms m ≡ good ns at) × (k ns ≡ None)
    go None p =
        let h : good ms m ≡ good ns at = rw (p, checked) at e in
        let q : ms ≡ ns = cc in
        (h, ap k (sym q) ∙ p)
    go (Some r) p = let h : bad r ≡ good ns at = rw (p, checked) at e in cc

-- An entry within its limit is at most t.
abbrev pub Most : Sort → ℕ → Type 0
Most sort t = (begins : Bool) (v : ℕ) → exceeds sort begins v ≡ false → v ≤ t

pub numbers_most : (f m t : ℕ) → f ≤ t → m ≤ t → Most (Numbers f m) t
unfolding exceeds
numbers_most f m t p q true v e = omega (arith, ltb-false f v e)
numbers_most f m t p q false v e = omega (arith, ltb-false m v e)

pub tokens_most : (s : ℕ) → s ≤ 64 → Most (Tokens s) 67
unfolding exceeds
tokens_most s h b v e = go (ltb v s) refl
  where
    go : (t : Bool) → ltb v s ≡ t → v ≤ 67
    go true p = omega (arith, ltb-true v s p)
    go false p = ltb-false 67 v (neither (ltb v 64) (ltb 67 v) (rw p at e)).1

pub limited_most : (sort : Sort) → Limited sort → Most sort 255
unfolding Limited
limited_most (Numbers f m) l = numbers_most f m 255 (omega arith) (omega arith)
limited_most (Tokens s) l = λ b v e. omega (arith, tokens_most s l b v e)

-- each entry of a list that is within its limits
module _ (sort : Sort) (t : ℕ) (most : Most sort t) where
  none_over : (ns : List ℕ) → any_over sort ns ≡ false → (i : ℕ) → get_or ns i 0 ≤ t
  unfolding any_over
  none_over [] e i = omega arith
  none_over (v ∷ ns) e zero = most false v (neither (exceeds sort false v) (any_over sort ns) e).0
  none_over (v ∷ ns) e (suc i) = none_over ns (neither (exceeds sort false v) (any_over sort ns) e).1 i

  pub all_within : (ns : List ℕ) → beyond sort ns ≡ false → (i : ℕ) → get_or ns i 0 ≤ t
  unfolding beyond
  all_within [] e i = omega arith
  all_within (v ∷ ns) e zero = most true v (neither (exceeds sort true v) (any_over sort ns) e).0
  all_within (v ∷ ns) e (suc i) = none_over ns (neither (exceeds sort true v) (any_over sort ns) e).1 i

-- A good line: where its value stands, its entries, and that there is one where none is not allowed.
pub record GoodLine (sort : Sort) (empty : Bool) (file : List ℕ) (o : Option ℕ) (ns : List ℕ) (next : ℕ) : Type 0 where
  pub from : ℕ
  pub opened : o ≡ Some from
  pub value : value_of (sort_kind sort) from (drop from file) ≡ numbers ns next
  pub within : beyond sort ns ≡ false
  pub some : ns ≡ [] → empty ≡ true

good_numbers : (sort : Sort) (empty : Bool) (x : Value) (ns : List ℕ) (next : ℕ) → numbers_in sort empty x ≡ good ns next
    → (x ≡ numbers ns next) × (beyond sort ns ≡ false) × (ns ≡ [] → empty ≡ true)
unfolding numbers_in beyond
good_numbers sort empty not_numbers ns next e = cc
good_numbers sort true (numbers [] k) ns next e = let p : [] ≡ ns = cc in let q : k ≡ next = cc in (rw (← p, ← q), rw (← p), λ z. refl)
good_numbers sort false (numbers [] k) ns next e = cc
good_numbers sort empty (numbers (v ∷ vs) k) ns next e = go (beyond sort (v ∷ vs)) refl
  where
    go : (u : Bool) → beyond sort (v ∷ vs) ≡ u → (numbers (v ∷ vs) k ≡ numbers ns next) × (beyond sort ns ≡ false) × (ns ≡ [] → empty ≡ true)
    go true p = let h : bad OutOfRange ≡ good ns next = rw (p, numbers_in) at e in cc
    go false p =
        let h : good (v ∷ vs) k ≡ good ns next = rw (p, numbers_in) at e in
        let q : v ∷ vs ≡ ns = cc in
        let r : k ≡ next = cc in
        (ap (λ l. numbers l k) q ∙ ap (numbers ns) r, ap (beyond sort) (sym q) ∙ p, λ w. cc)

pub good_line : (sort : Sort) (empty : Bool) (file : List ℕ) (o : Option ℕ) (ns : List ℕ) (next : ℕ) → line_in sort empty file o ≡ good ns next
    → GoodLine sort empty file o ns next
unfolding line_in
good_line sort empty file None ns next e = cc
good_line sort empty file (Some from) ns next e =
    let (v, w, s) = good_numbers sort empty (value_of (sort_kind sort) from (drop from file)) ns next e in
    record { from = from; opened = refl; value = v; within = w; some = s }

-- A line for which a refusal is handed over has its reason.
pub bad_line : (line : ℕ) (l : Line) (e : Refusal) → items_of line l ≡ Err e → (l ≡ bad e.reason) × (e ≡ refuse line e.reason)
unfolding items_of
bad_line line (bad r) e h =
    let p : refuse line r ≡ e = cc in
    let q : r ≡ e.reason = ap (λ (x : Refusal). x.reason) p in
    (ap bad q, sym p ∙ ap (refuse line) q)
bad_line line (good ns at) e h = cc

pub tell_few : (most : ℕ) (ns : List ℕ) → few_check most ns ≡ None → length ns ≤ most
unfolding few_check
tell_few most ns e = go (leb (length ns) most) refl
  where
    go : (t : Bool) → leb (length ns) most ≡ t → length ns ≤ most
    go true p = leb-true (length ns) most p
    go false p = let h : ◌≡◌ {A = Option Reason} (Some WrongCount) None = rw (p, few_check) at e in cc
