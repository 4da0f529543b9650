-- Each line's tests as the code makes them come to paper's judgement of the value.
use mathlib.Core.Path.{◌≡◌, refl, sym, ap, ◌∙◌}
use mathlib.Core.Bool.{Bool, true, false, ◌&&◌, ◌||◌, not, and-eq-true_iff, false≢true}
use mathlib.Core.Logic.{inl, inr}
use mathlib.Core.List.{List, [], ◌∷◌, drop_last}
use Prim.Native.Nat.{ℕ, suc, ◌+◌, ◌-◌, ◌≤◌, ◌<◌, max}
use native.Mathlib.Omega.{arith}
use borrow.Author.Tests.{eqb-true, eqb-false, leb-true, leb-false, le-leb, lt-leb, ltb-true, ltb-false, lt-ltb, le-ltb}
use lib.Dec.{eqb, leb, ltb}
use lib.ListN.{length, get_or}
use Rattle.theory.specs.Automaton.{◌of◌gives◌}
use Rattle.paper.specs.Checked.{Checked, fault, says, ◌>>=◌, ◌>>◌, ◌unless◌}
use Rattle.paper.specs.Fields.{all}
use Rattle.paper.specs.Certificate.{Kind, row, Arities, Merge}
use Rattle.paper.specs.Tables.{within, number_list, arity_list, ascending as paper_ascending, final_list, last_of, transition_of, from_numbers, transition, numbered as paper_numbered, class_list}
use Rattle.paper.proofs.Smallest.{decided}
use Rattle.std.specs.declared.option.Option.{Option}
use Rattle.std.specs.declared.option.Option.TheVariants.{Some, None}
use Rattle.verdicts.specs.declared.refusals.Reason.{Reason}
use Rattle.verdicts.specs.declared.refusals.Reason.TheVariants.{WrongCount, Unordered, Misnumbered}
use Rattle.verdicts.specs.Refused.{number as reason_number}
use Rattle.fields.specs.declared.cursor.Sort.{Sort}
use Rattle.fields.specs.declared.cursor.Sort.TheVariants.{Numbers}
use Rattle.fields.specs.Value.{sort_kind}
use Rattle.fields.specs.Listed.{exceeds, any_over, beyond, above, ascending}
use Rattle.fields.specs.Lines.{final_check, few_check}
use Rattle.fields.specs.Merge.{bump, numbered, merge_check}
use Rattle.fields.specs.Said.{moved}
use Rattle.fields.specs.Trans.{arg_in, trans_of, trans_check}
use Rattle.fields.proofs.LinesLaws.{few_ok, few_not, final_ok, final_not}
use Rattle.fields.proofs.TransLaws.{trans_ok, trans_not}
use Rattle.fields.proofs.MergeLaws.{merge_count, merge_ok, merge_not}
use Rattle.fields.proofs.Steps.{bind_same, bind_said, bind_bind}
use Rattle.fields.proofs.Bridge.{values, values_of, in_range, ranged, checking, values_numbers, values_numbers_of, values_some}

-- Ranges.
flip : (m n : ℕ) → not (ltb m n) ≡ leb n m
flip m n = elim (decided (leb n m)) [
  | inl p ↦ rw (p, le-ltb m n (leb-true n m p))
  | inr p ↦ rw (p, lt-ltb m n (leb-false n m p))
]

not-or : (a b : Bool) → not (a || b) ≡ (not a && not b)
not-or true b = refl
not-or false b = refl

-- A test that says for each entry whether it is within its limit.
module _ (sort : Sort) (test : ℕ → Bool) where
  none_over : ((n : ℕ) → test n ≡ not (exceeds sort false n)) → (ns : List ℕ) → all ns test ≡ not (any_over sort ns)
  unfolding all any_over
  none_over h [] = refl
  none_over h (n ∷ ns) = sym (not-or (exceeds sort false n) (any_over sort ns) ∙ rw (← h n, ← none_over h ns))

  pub none_beyond : ((begins : Bool) (n : ℕ) → test n ≡ not (exceeds sort begins n)) → (ns : List ℕ) → all ns test ≡ not (beyond sort ns)
  unfolding all beyond
  none_beyond h [] = refl
  none_beyond h (n ∷ ns) = sym (not-or (exceeds sort true n) (any_over sort ns) ∙ rw (← h true n, ← none_over (h false) ns))

most_test : (test : ℕ → Bool) (m : ℕ) → ((n : ℕ) → test n ≡ leb n m) → (begins : Bool) (n : ℕ) → test n ≡ not (exceeds (Numbers m m) begins n)
unfolding exceeds
most_test test m h true n = h n ∙ sym (flip m n)
most_test test m h false n = h n ∙ sym (flip m n)

within_zero : (K : Kind) (n : ℕ) → (row K).least ≡ 0 → within K n ≡ leb n (row K).greatest
unfolding within
within_zero K n h = rw (h, le-leb 0 n (omega arith))

pub list_judge : (K : Kind) (value : List ℕ) → (row K).least ≡ 0 → number_list K value ≡ ranged (Numbers (row K).greatest (row K).greatest) (row K).empty value
unfolding number_list ranged in_range sort_kind
list_judge K value h =
    rw (← values_numbers_of (row K).empty value)
    (bind_same (values_of 0 (row K).empty value) _ _ (λ ns. ap (λ b. 5 unless b >> says ns) (none_beyond _ (within K) (most_test (within K) (row K).greatest (λ n. within_zero K n h)) ns)))

-- A check that passes or fails.
module _ (k : List ℕ → Option Reason) (ns : List ℕ) where
  pub check_passes : k ns ≡ None → checking k ns ≡ says ns
  unfolding checking
  check_passes h = rw (h, checking)

  pub check_fails : (r : Reason) → k ns ≡ Some r → checking k ns ≡ fault (reason_number r)
  unfolding checking
  check_fails r h = rw (h, checking)

pub arities_judge : (value : List ℕ) → (ranged (Numbers 3 3) false value >>= checking (few_check 64)) ≡ arity_list value
unfolding arity_list row
arities_judge value = rw (list_judge Arities value refl) (bind_same (ranged (Numbers 3 3) false value) _ _ count)
  where
    count : (ns : List ℕ) → checking (few_check 64) ns ≡ (6 unless leb (length ns) 64 >> says ns)
    count ns = elim (decided (leb (length ns) 64)) [
      | inl p ↦ unfold ◌unless◌ ◌>>◌ in (rw p (check_passes (few_check 64) ns (few_ok 64 ns (leb-true (length ns) 64 p))))
      | inr p ↦ unfold ◌unless◌ ◌>>◌ reason_number in (rw p (check_fails (few_check 64) ns WrongCount (few_not 64 ns (leb-false (length ns) 64 p))))
    ]

-- `merge`.
same_bump : (k c : ℕ) → c ≤ k → bump k c ≡ max k (suc c)
unfolding bump
same_bump k c h = elim (decided (eqb c k)) [
  | inl p ↦ rw (p, bump) (omega (arith, eqb-true c k p))
  | inr p ↦ let d : c < k = omega (arith, eqb-false c k p) in rw (p, bump) (omega arith)
]

same_numbered : (k : ℕ) (cs : List ℕ) → numbered k cs ≡ paper_numbered k cs
unfolding numbered paper_numbered
same_numbered k [] = refl
same_numbered k (c ∷ cs) = elim (decided (leb c k)) [
  | inl p ↦ let h = leb-true c k p in rw (p, le-ltb k c h, numbered) (rw (same_bump k c h) (same_numbered (max k (suc c)) cs))
  | inr p ↦ rw (p, lt-ltb k c (leb-false c k p), numbered)
]

pub merge_judge : (n : ℕ) (value : List ℕ) → (ranged (Numbers 31 31) false value >>= checking (merge_check n)) ≡ class_list n value
unfolding class_list row
merge_judge n value = rw (list_judge Merge value refl) (bind_same (ranged (Numbers 31 31) false value) _ _ test)
  where
    test : (cs : List ℕ) → checking (merge_check n) cs ≡ (6 unless eqb (length cs) n >> (11 unless paper_numbered 0 cs >> says cs))
    test cs = elim (decided (eqb (length cs) n)) [
      | inr p ↦ unfold ◌unless◌ ◌>>◌ reason_number in (rw p (check_fails (merge_check n) cs WrongCount (merge_count n cs (eqb-false (length cs) n p))))
      | inl p ↦ elim (decided (numbered 0 cs)) [
        | inl q ↦ unfold ◌unless◌ ◌>>◌ in (rw (p, ← same_numbered 0 cs, q) (check_passes (merge_check n) cs (merge_ok n cs (eqb-true (length cs) n p) q)))
        | inr q ↦ unfold ◌unless◌ ◌>>◌ reason_number in (rw (p, ← same_numbered 0 cs, q) (check_fails (merge_check n) cs Misnumbered (merge_not n cs (eqb-true (length cs) n p) q)))
      ]
    ]

-- `final`.
same_above : (v : ℕ) (ns : List ℕ) → above v ns ≡ paper_ascending (suc v) ns
unfolding above paper_ascending
same_above v [] = refl
same_above v (w ∷ ns) = ap (λ b. ltb v w && b) (same_above w ns)

same_ascending : (ns : List ℕ) → ascending ns ≡ paper_ascending 0 ns
unfolding ascending paper_ascending
same_ascending [] = refl
same_ascending (v ∷ ns) = rw (le-leb 0 v (omega arith)) (same_above v ns)

below_all : (n : ℕ) (K : Kind) → (row K).least ≡ 0 → n ≤ suc (row K).greatest → (ns : List ℕ) → all ns (λ q. ltb q n) ≡ true → all ns (within K) ≡ true
unfolding all
below_all n K z h [] e = refl
below_all n K z h (q ∷ qs) e =
    let (a, b) = (and-eq-true_iff (ltb q n) (all qs (λ q. ltb q n))).0 e in
    rw (within_zero K q z, le-leb q (row K).greatest (omega (arith, ltb-true q n a)), below_all n K z h qs b)

below_flip : (n q : ℕ) → 1 ≤ n → ltb q n ≡ leb q (n - 1)
below_flip n q h = elim (decided (ltb q n)) [
  | inl p ↦ rw (p, le-leb q (n - 1) (omega (arith, ltb-true q n p)))
  | inr p ↦ rw (p, lt-leb q (n - 1) (omega (arith, ltb-false q n p)))
]

final_check_lem : (ns : List ℕ) → checking final_check ns ≡ (7 unless paper_ascending 0 ns >> says ns)
unfolding ◌unless◌ ◌>>◌ reason_number
final_check_lem ns = elim (decided (ascending ns)) [
  | inl p ↦ rw (← same_ascending ns, p) (check_passes final_check ns (final_ok ns p))
  | inr p ↦ rw (← same_ascending ns, p) (check_fails final_check ns Unordered (final_not ns p))
]

final_test : (ns : List ℕ) (t : List ℕ → Bool) (a b c : Bool) → t ns ≡ b → (t ns ≡ true → a ≡ true) → t ns ≡ not c
    → ((5 unless not c >> says ns) >>= checking final_check) ≡ ((5 unless a >> says ns) >>= (λ qs. 5 unless t qs >> (7 unless paper_ascending 0 qs >> says qs)))
unfolding ◌unless◌ ◌>>◌ ◌>>=◌
final_test ns t a true true e h k = absurd (false≢true (sym k ∙ e))
final_test ns t true true false e h k = rw e (final_check_lem ns)
final_test ns t false true false e h k = absurd (false≢true (h e))
final_test ns t true false true e h k = rw e
final_test ns t false false true e h k = refl
final_test ns t a false false e h k = absurd (false≢true (sym e ∙ k))

pub final_judge : (K : Kind) (n : ℕ) (value : List ℕ) → (row K).least ≡ 0 → 1 ≤ n → n ≤ suc (row K).greatest
    → (ranged (Numbers (n - 1) (n - 1)) (row K).empty value >>= checking final_check) ≡ final_list K n value
unfolding final_list number_list ranged in_range sort_kind
final_judge K n value z l g =
    rw (← values_numbers_of (row K).empty value)
    (bind_bind (values_of 0 (row K).empty value) (in_range (Numbers (n - 1) (n - 1))) (checking final_check)
    ∙ bind_same (values_of 0 (row K).empty value) _ _
    (λ ns. final_test ns (λ qs. all qs (λ q. ltb q n)) (all ns (within K)) (all ns (λ q. ltb q n)) (beyond (Numbers (n - 1) (n - 1)) ns) refl
    (below_all n K z g ns) (none_beyond _ (λ q. ltb q n) (most_test (λ q. ltb q n) (n - 1) (λ q. below_flip n q l)) ns))
    ∙ sym (bind_bind (values_of 0 (row K).empty value) (λ ns. 5 unless all ns (within K) >> says ns)
    (λ qs. 5 unless all qs (λ q. ltb q n) >> (7 unless paper_ascending 0 qs >> says qs))))

-- A transition's line.
shape : (arities : List ℕ) (f : ℕ) (qs : List ℕ) → length qs ≡ get_or arities f 0 + 1 → get_or arities f 0 ≤ 3 → moved arities (trans_of (f ∷ qs)) ≡ (f of drop_last qs gives last_of qs)
unfolding moved trans_of arg_in last_of
shape arities f [] e h = absurd (omega arith)
shape arities f (q ∷ []) e h = let p : get_or arities f 0 ≡ 0 = omega arith in rw p
shape arities f (q ∷ r ∷ []) e h = let p : get_or arities f 0 ≡ 1 = omega arith in rw p
shape arities f (q ∷ r ∷ s ∷ []) e h = let p : get_or arities f 0 ≡ 2 = omega arith in rw p
shape arities f (q ∷ r ∷ s ∷ t ∷ []) e h = let p : get_or arities f 0 ≡ 3 = omega arith in rw p
shape arities f (q ∷ r ∷ s ∷ t ∷ u ∷ qs) e h = absurd (omega arith)

module _ (arities : List ℕ) (n : ℕ) (low : (k : ℕ) → get_or arities k 0 ≤ 3) (one_symbol : 1 ≤ length arities) (one_state : 1 ≤ n) where
  sort : Sort
  sort = Numbers (length arities - 1) (n - 1)

  trans_range : (f : ℕ) (qs : List ℕ) → not (beyond sort (f ∷ qs)) ≡ (ltb f (length arities) && all qs (λ q. ltb q n))
  unfolding beyond exceeds sort
  trans_range f qs =
      not-or (ltb (length arities - 1) f) (any_over sort qs)
      ∙ rw (
        flip (length arities - 1) f,
        ← below_flip (length arities) f one_symbol,
        ← none_over sort (λ q. ltb q n) (λ q. below_flip n q one_state ∙ sym (flip (n - 1) q)) qs,
      )

  trans_test : (f : ℕ) (qs : List ℕ)
      → (checking (trans_check arities) (f ∷ qs) >>= (λ ns. says (moved arities (trans_of ns))))
      ≡ (6 unless eqb (length qs) (get_or arities f 0 + 1) >> says (f of drop_last qs gives last_of qs))
  unfolding ◌unless◌ ◌>>◌ ◌>>=◌ reason_number
  trans_test f qs =
      elim (decided (eqb (length qs) (get_or arities f 0 + 1))) [
        | inl p ↦
            let count = eqb-true (length qs) (get_or arities f 0 + 1) p in
            rw (p, check_passes (trans_check arities) (f ∷ qs) (trans_ok arities (f ∷ qs) (omega arith))) (ap says (shape arities f qs count (low f)))
        | inr p ↦
            let count = eqb-false (length qs) (get_or arities f 0 + 1) p in
            rw (p, check_fails (trans_check arities) (f ∷ qs) WrongCount (trans_not arities (f ∷ qs) (λ e. count (omega arith))))
      ]

  trans_line : (ns : List ℕ) → (ns ≡ [] → ⊥)
      → ((in_range sort ns >>= checking (trans_check arities)) >>= (λ ns. says (moved arities (trans_of ns)))) ≡ from_numbers arities n ns
  trans_line [] h = absurd (h refl)
  trans_line (f ∷ qs) h =
      unfold from_numbers transition_of in_range in (rw (trans_range f qs) (go (ltb f (length arities) && all qs (λ q. ltb q n))))
    where
      go : (a : Bool)
          → (((5 unless a >> says (f ∷ qs)) >>= checking (trans_check arities)) >>= (λ ns. says (moved arities (trans_of ns))))
          ≡ (5 unless a >> (6 unless eqb (length qs) (get_or arities f 0 + 1) >> says (f of drop_last qs gives last_of qs)))
      go true = unfold ◌unless◌ ◌>>◌ ◌>>=◌ in (trans_test f qs)
      go false = unfold ◌unless◌ ◌>>◌ ◌>>=◌ in refl

  pub trans_judge : (value : List ℕ)
      → ((ranged (Numbers (length arities - 1) (n - 1)) false value >>= checking (trans_check arities)) >>= (λ ns. says (moved arities (trans_of ns))))
      ≡ transition arities n value
  unfolding transition ranged values_of sort_kind sort
  trans_judge value =
      ap (λ (j : Checked (List ℕ)). j >>= (λ ns. says (moved arities (trans_of ns)))) (bind_bind (values 0 value) (in_range sort) (checking (trans_check arities)))
      ∙ bind_bind (values 0 value) (λ ns. in_range sort ns >>= checking (trans_check arities)) (λ ns. says (moved arities (trans_of ns)))
      ∙ bind_said (values 0 value) _ _ (λ ns e. trans_line ns (λ z. values_some 0 value (e ∙ ap says z)))
      ∙ ap (λ (j : Checked (List ℕ)). j >>= from_numbers arities n) (values_numbers value)
