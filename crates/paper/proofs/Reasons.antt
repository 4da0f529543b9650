-- Each line of numbers is refused by the smallest number that has a reason.
use mathlib.Core.Path.{◌≡◌, refl, sym, ap, ◌∙◌}
use mathlib.Core.Logic.{◌⊎◌, inl, inr, ◌↔◌}
use mathlib.Core.Bool.{Bool, true, false, ◌&&◌, false≢true}
use mathlib.Core.List.Memᴰ
use mathlib.Core.List.{List, [], ◌∷◌, ◌++◌, Memᴰ, drop_last}
use Prim.Native.Nat.{ℕ, suc, ◌+◌, ◌^◌, ◌≤◌, ◌<◌, max}
use native.Mathlib.Omega.{arith}
use lib.Dec.{eqb, leb, ltb}
use lib.ListN.{length, get_or, length-append}
use borrow.Author.Tests.{ltb-false, leb-false, eqb-false, le-ltb, le-leb, lt-leb, ne_eqb}
use Rattle.theory.specs.Automaton.{Transition, ◌of◌gives◌}
use Rattle.theory.proofs.Nth.{all_cons}
use Rattle.paper.specs.Spelling.{transition_numbers}
use Rattle.paper.specs.Limits.{most_symbols, last_state, most_digits}
use Rattle.paper.specs.Checked.{Checked, says, ◌>>=◌, ◌>>◌}
use Rattle.paper.specs.Fields.{all, each, number, entries}
use Rattle.paper.specs.Certificate.{Kind, row, Arities, Merge}
use Rattle.paper.specs.Tables.{numbers, numbers_of, within, single_number, number_list, arity_list, ascending, final_list, last_of, transition_of, from_numbers, transition, numbered, class_list}
use Rattle.paper.specs.Reasons.{Numbers, Expected, number_line, arity_line, final_line, transition_line, merge_line, Reason, no_number, no_arities, no_states}
use Rattle.paper.specs.Reasons.{no_row, no_tokens, no_classes, out_of_row, large_arity, large_final, unlisted, unlisted_token, no_state, no_state_in}
use Rattle.paper.specs.Reasons.{large_variable, large_class, many_arities, miscounted, many_tokens, not_each, falling, no_term, bare_left, out_of_turn}
use Rattle.paper.specs.Reasons.{lacking, skipping}
use Rattle.paper.proofs.Checked.{Says, said, says_so}
use Rattle.paper.proofs.Admitted.{some_numbers}
use Rattle.paper.proofs.Numbers.{number_exact}
use Rattle.paper.proofs.Spelling.{numbers_of_spelled, last_back}
use Rattle.paper.proofs.Complete.{numbers_of_complete}
use Rattle.paper.proofs.ReasonsLaws.{Judges, From, Only, only_says, only_test, only_each, checks, Failed, Rising, all_tested, reading, read_on, test_on}

-- A reason's number is one of 4 to 11.
pub reason_number : {value : List ℕ} {expected : Expected} {n : ℕ} → Reason value expected n → (4 ≤ n) × (n ≤ 11)
reason_number (no_number h) = omega arith
reason_number (no_arities h) = omega arith
reason_number (no_states h) = omega arith
reason_number (no_row h) = omega arith
reason_number (no_tokens h) = omega arith
reason_number (no_classes h) = omega arith
reason_number (out_of_row w m o) = omega arith
reason_number (large_arity w m l) = omega arith
reason_number (large_final w m l) = omega arith
reason_number (unlisted w l) = omega arith
reason_number (unlisted_token w m l) = omega arith
reason_number (no_state w m l) = omega arith
reason_number (no_state_in w m l) = omega arith
reason_number (large_variable w m l) = omega arith
reason_number (large_class w m l) = omega arith
reason_number (many_arities w l) = omega arith
reason_number (miscounted w l) = omega arith
reason_number (many_tokens w l) = omega arith
reason_number (not_each w l) = omega arith
reason_number (falling before after w l) = omega arith
reason_number (no_term w h) = omega arith
reason_number (bare_left w) = omega arith
reason_number (out_of_turn w h) = omega arith
reason_number (lacking w m h) = omega arith
reason_number (skipping before after w l h) = omega arith

pub from_four : {value : List ℕ} {expected : Expected} → From 4 (Reason value expected)
from_four n r = (reason_number r).0

pub only_number : (bs : List ℕ) → Only 4 (number bs)
unfolding number
only_number bs = only_test 4 _ _ (only_says _)

only_numbers : (e : Bool) (value : List ℕ) → Only 4 (numbers_of e value)
unfolding numbers_of numbers
only_numbers false value = only_each number only_number (entries value)
only_numbers true [] = only_says []
only_numbers true (b ∷ bs) = only_each number only_number (entries (b ∷ bs))

-- What is said of each is so of all.
pub each_says : {Y Z : Type 0} {P : Z → Type 0} (f : Y → Checked Z) → ((y : Y) → Says P (f y)) → (ys : List Y) → Says (λ zs. (z : Z) → Memᴰ z zs → P z) (each f ys)
unfolding each
each_says f h [] = says_so _ [] (λ z m. absurd (Memᴰ.not-nil m))
each_says {P = P} f h (y ∷ ys) = said _ _ (h y) (λ z p. said _ _ (each_says f h ys) (λ zs ps. says_so _ (z ∷ zs) (all_cons p ps)))

-- The value's numbers, of which there is one at least where the value may not be empty.
abbrev Read : Bool → List ℕ → List ℕ → Type 0
Read empty value ns = Numbers value ns × (empty ≡ false → 1 ≤ length ns)

-- A value is read as the numbers that it is.
numbers_exact : (e : Bool) (value ns : List ℕ) → (numbers_of e value ≡ says ns) ↔ Read e value ns
unfolding numbers_of numbers
numbers_exact e value ns = (
  λ d. (record { text = numbers_of_spelled e value ns d; short = small e value ns d }, λ f. some_numbers value ns (rw (f, numbers_of) at d)),
  λ (w, p). rw (← w.text) (numbers_of_complete e ns p w.short),
)
  where
    short : (value : List ℕ) → Says (λ ns. (n : ℕ) → Memᴰ n ns → n < 10 ^ most_digits) (numbers value)
    short value = each_says number (λ e n d. ((number_exact e n).0 d).1) (entries value)

    small : (e : Bool) (value : List ℕ) → Says (λ ns. (n : ℕ) → Memᴰ n ns → n < 10 ^ most_digits) (numbers_of e value)
    small false value = short value
    small true [] = says_so _ [] (λ n m. absurd (Memᴰ.not-nil m))
    small true (b ∷ bs) = short (b ∷ bs)

-- A value is not two lists of numbers.
pub same_numbers : {value ns ms : List ℕ} → Numbers value ns → Numbers value ms → ns ≡ ms
same_numbers {value} {ns} {ms} v w =
    let d = (numbers_exact true value ns).1 (v, λ e. absurd (false≢true (sym e))) in
    let e = (numbers_exact true value ms).1 (w, λ e. absurd (false≢true (sym e))) in
    cc

-- Nor two transitions.
pub same_transition : (value : List ℕ) (t u : Transition) → Numbers value (transition_numbers t) → Numbers value (transition_numbers u) → t ≡ u
same_transition value t u v w =
    let e = same_numbers v w in
    let f : t.symbol ≡ u.symbol = cc in
    let rest : t.arguments ++ (t.target ∷ []) ≡ u.arguments ++ (u.target ∷ []) = cc in
    let (xs, q) = ends t.arguments u.arguments rest in
    λ i. f i of xs i gives q i
  where
    ends : (xs ys : List ℕ) {x y : ℕ} → xs ++ (x ∷ []) ≡ ys ++ (y ∷ []) → (xs ≡ ys) × (x ≡ y)
    ends [] [] e = (refl, cc)
    ends [] (y ∷ ys) e = absurd (omega (arith, simp length-append at (ap length e)))
    ends (x ∷ xs) [] e = absurd (omega (arith, simp length-append at (ap length e)))
    ends (x ∷ xs) (y ∷ ys) {x = a} {y = b} e = let rest : xs ++ (a ∷ []) ≡ ys ++ (b ∷ []) = cc in let (p, q) = ends xs ys rest in (cc, q)

-- One of the list is so.
abbrev pub One : {X : Type 0} → List X → (X → Type 0) → Type 0
One {X} xs P = (x : X) × Memᴰ x xs × P x

-- What a failed test says.
pub and_fails : (a b : Bool) → (a && b ≡ false) ↔ ((a ≡ false) ⊎ (b ≡ false))
and_fails true b = (λ e. inr e, λ o. elim o [ inl e ↦ absurd (false≢true (sym e)) | inr e ↦ e ])
and_fails false b = (λ e. inl refl, λ o. refl)

pub or_same : {Z A B C D : Type 0} → Z ↔ (A ⊎ B) → A ↔ C → B ↔ D → Z ↔ (C ⊎ D)
or_same h f g = (λ z. elim (h.0 z) [ inl a ↦ inl (f.0 a) | inr b ↦ inr (g.0 b) ], λ o. h.1 (elim o [ inl c ↦ inl (f.1 c) | inr d ↦ inr (g.1 d) ]))

pub all_fails : {Y : Type 0} {P : Y → Type 0} (test : Y → Bool) → ((y : Y) → (test y ≡ false) ↔ P y) → (ys : List Y) → (all ys test ≡ false) ↔ One ys P
unfolding all
all_fails test h [] = (λ e. absurd (false≢true (sym e)), λ (y, m, p). absurd (Memᴰ.not-nil m))
all_fails {P = P} test h (y ∷ ys) = (
  λ e. elim ((and_fails (test y) (all ys test)).0 e) [
    | inl d ↦ (y, Memᴰ.head refl, (h y).0 d)
    | inr d ↦ let (z, m, p) = (all_fails test h ys).0 d in (z, Memᴰ.tail m, p)
  ],
  λ (z, m, p). (and_fails (test y) (all ys test)).1 (elim (Memᴰ.cases_cons m) [ inl e ↦ inl ((h y).1 (rw e at p)) | inr i ↦ inr ((all_fails test h ys).1 (z, i, p)) ]),
)

pub ltb_fails : (a b : ℕ) → (ltb a b ≡ false) ↔ (b ≤ a)
ltb_fails a b = (ltb-false a b, le-ltb a b)

pub leb_fails : (a b : ℕ) → (leb a b ≡ false) ↔ (b < a)
leb_fails a b = (leb-false a b, lt-leb a b)

eqb_fails : (a b : ℕ) → (eqb a b ≡ false) ↔ (a ≡ b → ⊥)
eqb_fails a b = (eqb-false a b, ne_eqb a b)

-- The number is out of its range in the table of lines.
abbrev Outside : Kind → ℕ → Type 0
Outside kind n = (n < (row kind).least) ⊎ ((row kind).greatest < n)

within_fails : (kind : Kind) (ns : List ℕ) → (all ns (within kind) ≡ false) ↔ One ns (Outside kind)
unfolding within
within_fails kind ns = all_fails (within kind) (λ n. or_same (and_fails (leb (row kind).least n) _) (leb_fails _ _) (leb_fails _ _)) ns

below_fails : (states : ℕ) (qs : List ℕ) → (all qs (λ q. ltb q states) ≡ false) ↔ One qs (λ q. states ≤ q)
below_fails states qs = all_fails (λ q. ltb q states) (λ q. ltb_fails q states) qs

-- An entry is not above the one before it.
abbrev Falling : List ℕ → Type 0
Falling qs = (before : List ℕ) × (after : List ℕ) × (p : ℕ) × (q : ℕ) × (before ++ (p ∷ q ∷ after) ≡ qs) × (q ≤ p)

rising_fails : (p : ℕ) (qs : List ℕ) → (ascending (suc p) qs ≡ false) ↔ Falling (p ∷ qs)
unfolding ascending
rising_fails p [] = (λ e. absurd (false≢true (sym e)), λ (before, after, a, b, e, l). absurd (omega (arith, simp length-append at (ap length e))))
rising_fails p (q ∷ qs) = (
  λ e. elim ((and_fails (leb (suc p) q) _).0 e) [
    | inl d ↦ ([], qs, p, q, refl, omega (arith, leb-false (suc p) q d))
    | inr d ↦ let (before, after, a, b, f, l) = (rising_fails q qs).0 d in (p ∷ before, after, a, b, ap (λ l. p ∷ l) f, l)
  ],
  λ (before, after, a, b, e, l). (and_fails (leb (suc p) q) _).1 (back (rising_fails q qs).1 before after a b e l),
)
  where
    back : (Falling (q ∷ qs) → ascending (suc q) qs ≡ false) → (before after : List ℕ) (a b : ℕ) → before ++ (a ∷ b ∷ after) ≡ p ∷ q ∷ qs → b ≤ a
        → (leb (suc p) q ≡ false) ⊎ (ascending (suc q) qs ≡ false)
    back ih [] after a b e l = let s : a ≡ p = cc in let t : b ≡ q = cc in inl (lt-leb (suc p) q (omega arith))
    back ih (c ∷ before) after a b e l = inr (ih (before, after, a, b, cc, l))

ascending_fails : (qs : List ℕ) → (ascending 0 qs ≡ false) ↔ Falling qs
unfolding ascending
ascending_fails [] = (λ e. absurd (false≢true (sym e)), λ (before, after, a, b, e, l). absurd (omega (arith, simp length-append at (ap length e))))
ascending_fails (q ∷ qs) = rw (le-leb 0 q (omega arith)) (rising_fails q qs)

-- An entry is above k and above one more than each entry before it.
abbrev Skipping : ℕ → List ℕ → Type 0
Skipping k cs = (before : List ℕ) × (after : List ℕ) × (c : ℕ) × (before ++ (c ∷ after) ≡ cs) × (k < c) × ((b : ℕ) → Memᴰ b before → suc b < c)

numbered_fails : (k : ℕ) (cs : List ℕ) → (numbered k cs ≡ false) ↔ Skipping k cs
unfolding numbered
numbered_fails k [] = (λ e. absurd (false≢true (sym e)), λ (before, after, c, e, l, h). absurd (omega (arith, simp length-append at (ap length e))))
numbered_fails k (c ∷ cs) = (
  λ e. elim ((and_fails (leb c k) _).0 e) [
    | inl d ↦ ([], cs, c, refl, leb-false c k d, λ b m. absurd (Memᴰ.not-nil m))
    | inr d ↦
        let (before, after, a, f, l, h) = (numbered_fails (max k (suc c)) cs).0 d in
        (c ∷ before, after, a, ap (λ l. c ∷ l) f, omega arith, λ b m. elim (Memᴰ.cases_cons m) [ inl e ↦ omega arith | inr i ↦ h b i ])
  ],
  λ (before, after, a, e, l, h). (and_fails (leb c k) _).1 (back (numbered_fails (max k (suc c)) cs).1 before after a e l h),
)
  where
    back : (Skipping (max k (suc c)) cs → numbered (max k (suc c)) cs ≡ false) → (before after : List ℕ) (a : ℕ) → before ++ (a ∷ after) ≡ c ∷ cs → k < a
        → ((b : ℕ) → Memᴰ b before → suc b < a) → (leb c k ≡ false) ⊎ (numbered (max k (suc c)) cs ≡ false)
    back ih [] after a e l h = let s : a ≡ c = cc in inl (lt-leb c k (omega arith))
    back ih (d ∷ before) after a e l h = let s : d ≡ c = cc in inr (ih (before, after, a, cc, omega (arith, h d (Memᴰ.head refl)), λ b m. h b (Memᴰ.tail m)))

-- An entry of the value's numbers is one however they are called.
moved : {value ns ms : List ℕ} {n : ℕ} → Numbers value ns → Numbers value ms → Memᴰ n ns → Memᴰ n ms
moved v w m = let same = same_numbers v w in rw same at m

-- The tests of each line, in their order.
abbrev number_tests : Kind → List ℕ → List (ℕ × Bool)
number_tests kind ns = (4, eqb (length ns) 1) ∷ (5, all ns (within kind)) ∷ []

abbrev arity_tests : List ℕ → List (ℕ × Bool)
arity_tests ns = (5, all ns (within Arities)) ∷ (6, leb (length ns) most_symbols) ∷ []

abbrev final_tests : Kind → ℕ → List ℕ → List (ℕ × Bool)
final_tests kind states qs = (5, all qs (within kind)) ∷ (5, all qs (λ q. ltb q states)) ∷ (7, ascending 0 qs) ∷ []

abbrev class_tests : ℕ → List ℕ → List (ℕ × Bool)
class_tests states cs = (5, all cs (within Merge)) ∷ (6, eqb (length cs) states) ∷ (11, numbered 0 cs) ∷ []

abbrev transition_tests : List ℕ → ℕ → ℕ → List ℕ → List (ℕ × Bool)
transition_tests arities states f qs = (5, ltb f (length arities) && all qs (λ q. ltb q states)) ∷ (6, eqb (length qs) (get_or arities f 0 + 1)) ∷ []

module _ (value : List ℕ) where
  -- A line of one number.
  pub number_judges : (kind : Kind) → Judges (λ n. Numbers value (n ∷ [])) (Reason value (number_line kind)) (single_number kind value)
  unfolding single_number checks Failed Rising
  number_judges kind = reading 4 _ _ (numbers_exact _ value) (only_numbers _ value) from_four (λ h. no_number (λ n w. h (n ∷ []) (w, λ e. omega arith))) (λ ns (w, p).
      all_tested 4 (number_tests kind ns) 5 (get_or ns 0 0) (omega arith) (to ns w) (back ns w) (single ns w))
    where
      to : (ns : List ℕ) → Numbers value ns → (n : ℕ) → Failed (number_tests kind ns) n → Reason value (number_line kind) n
      to ns w n (inl (e, f)) = rw e (no_number (λ m v. eqb-false (length ns) 1 f (ap length (same_numbers w v))))
      to ns w n (inr (inl (e, f))) = let (m, i, o) = (within_fails kind ns).0 f in rw e (out_of_row w i o)
      to ns w n (inr (inr f)) = absurd f

      alone : (ns : List ℕ) → Numbers value ns → length ns ≡ 1 → ((n : ℕ) → Numbers value (n ∷ []) → ⊥) → ⊥
      alone [] w l h = omega arith
      alone (n ∷ []) w l h = h n w
      alone (n ∷ m ∷ ns) w l h = omega arith

      back : (ns : List ℕ) → Numbers value ns → (n : ℕ) → Reason value (number_line kind) n → Failed (number_tests kind ns) n
      back ns w n (no_number h) = inl (refl, ne_eqb (length ns) 1 (λ l. alone ns w l h))
      back ns w n (out_of_row v i o) = inr (inl (refl, (within_fails kind ns).1 (_, moved v w i, o)))

      single : (ns : List ℕ) → Numbers value ns → ((n : ℕ) → Reason value (number_line kind) n → ⊥) → Numbers value (get_or ns 0 0 ∷ [])
      single (n ∷ []) w clear = w
      single [] w clear = absurd (clear 4 (no_number (λ n v. let e = same_numbers w v in omega (arith, ap length e))))
      single (n ∷ m ∷ ns) w clear = absurd (clear 4 (no_number (λ n v. let e = same_numbers w v in omega (arith, ap length e))))

  -- A value that may not be empty and is numbers has a first one.
  some_number : (ns : List ℕ) → Read false value ns → ((n : ℕ) (ns : List ℕ) → Numbers value (n ∷ ns) → ⊥) → ⊥
  some_number [] w h = omega (arith, w.1 refl)
  some_number (n ∷ ns) w h = h n ns w.0

  -- A list of numbers, whose first test is that of the range, with further tests.
  list_judges : {e : Expected} (kind : Kind) (ts : List ℕ → List (ℕ × Bool)) (top : ℕ) → ((ns : List ℕ) → Rising 5 (ts ns) top)
      → (((ns : List ℕ) → Read (row kind).empty value ns → ⊥) → Reason value e 4)
      → ((ns : List ℕ) → Numbers value ns → (n : ℕ) → Failed ((5, all ns (within kind)) ∷ ts ns) n → Reason value e n)
      → ((ns : List ℕ) → Read (row kind).empty value ns → (n : ℕ) → Reason value e n → Failed ((5, all ns (within kind)) ∷ ts ns) n)
      → Judges (Numbers value) (Reason value e) (number_list kind value >>= (λ ns. checks (ts ns) (says ns)))
  unfolding number_list checks ◌>>=◌ Rising
  list_judges kind ts top rise four to back = rw read_on (reading 4 _ _ (numbers_exact _ value) (only_numbers _ value) from_four four (λ ns w.
      rw test_on (all_tested 5 ((5, all ns (within kind)) ∷ ts ns) top ns (omega arith, rise ns) (to ns w.0) (back ns w) (λ clear. w.0))))

  -- The line of arities.
  pub arities_judges : Judges (Numbers value) (Reason value arity_line) (arity_list value)
  unfolding arity_list checks Failed Rising row
  arities_judges = list_judges Arities (λ ns. (6, leb (length ns) most_symbols) ∷ []) 6 (λ ns. omega arith) (λ h. no_arities (λ n ns w. h (n ∷ ns) (w, λ e. omega arith))) to back
    where
      to : (ns : List ℕ) → Numbers value ns → (n : ℕ) → Failed (arity_tests ns) n → Reason value arity_line n
      to ns w n (inl (e, f)) = let (a, m, o) = (within_fails Arities ns).0 f in rw e (large_arity w m (elim o [ inl l ↦ absurd (omega arith) | inr l ↦ l ]))
      to ns w n (inr (inl (e, f))) = rw e (many_arities w (leb-false _ _ f))
      to ns w n (inr (inr f)) = absurd f

      back : (ns : List ℕ) → Read false value ns → (n : ℕ) → Reason value arity_line n → Failed (arity_tests ns) n
      back ns w n (no_arities h) = absurd (some_number ns w h)
      back ns w n (large_arity v m l) = inl (refl, (within_fails Arities ns).1 (_, moved v w.0 m, inr l))
      back ns w n (many_arities v l) = inr (inl (refl, lt-leb _ _ (rw (same_numbers v w.0) at l)))

  -- A line of final states.
  pub finals_judges : (kind : Kind) → (row kind).empty ≡ true → (row kind).least ≡ 0 → (row kind).greatest ≡ last_state → (states : ℕ)
      → Judges (Numbers value) (Reason value (final_line states)) (final_list kind states value)
  unfolding final_list checks Failed Rising
  finals_judges kind empty least greatest states =
      list_judges kind (λ qs. (5, all qs (λ q. ltb q states)) ∷ (7, ascending 0 qs) ∷ []) 7 (λ qs. omega arith) (λ h. no_states (λ qs w. h qs (w, λ e. absurd (false≢true (sym e ∙ empty))))) to back
    where
      to : (qs : List ℕ) → Numbers value qs → (n : ℕ) → Failed (final_tests kind states qs) n → Reason value (final_line states) n
      to qs w n (inl (e, f)) = let (q, m, o) = (within_fails kind qs).0 f in rw e (large_final w m (elim o [ inl l ↦ absurd (omega arith) | inr l ↦ omega arith ]))
      to qs w n (inr (inl (e, f))) = let (q, m, l) = (below_fails states qs).0 f in rw e (no_state w m l)
      to qs w n (inr (inr (inl (e, f)))) = let (before, after, p, q, d, l) = (ascending_fails qs).0 f in rw e (falling {p = p} {q = q} before after (rw d w) l)
      to qs w n (inr (inr (inr f))) = absurd f

      back : (qs : List ℕ) → Read (row kind).empty value qs → (n : ℕ) → Reason value (final_line states) n → Failed (final_tests kind states qs) n
      back qs w n (no_states h) = absurd (h qs w.0)
      back qs w n (large_final v m l) = inl (refl, (within_fails kind qs).1 (_, moved v w.0 m, inr (omega arith)))
      back qs w n (no_state v m l) = inr (inl (refl, (below_fails states qs).1 (_, moved v w.0 m, l)))
      back qs w n (falling {p = p} {q = q} before after v l) = inr (inr (inl (refl, (ascending_fails qs).1 (before, after, p, q, same_numbers v w.0, l))))

  -- The line of classes.
  pub classes_judges : (states : ℕ) → Judges (Numbers value) (Reason value (merge_line states)) (class_list states value)
  unfolding class_list checks Failed Rising row
  classes_judges states = list_judges Merge (λ cs. (6, eqb (length cs) states) ∷ (11, numbered 0 cs) ∷ []) 11 (λ cs. omega arith) (λ h. no_classes (λ n ns w. h (n ∷ ns) (w, λ e. omega arith))) to back
    where
      to : (cs : List ℕ) → Numbers value cs → (n : ℕ) → Failed (class_tests states cs) n → Reason value (merge_line states) n
      to cs w n (inl (e, f)) = let (c, m, o) = (within_fails Merge cs).0 f in rw e (large_class w m (elim o [ inl l ↦ absurd (omega arith) | inr l ↦ l ]))
      to cs w n (inr (inl (e, f))) = rw e (not_each w (eqb-false _ _ f))
      to cs w n (inr (inr (inl (e, f)))) = let (before, after, c, d, l, h) = (numbered_fails 0 cs).0 f in rw e (skipping {c = c} before after (rw d w) l h)
      to cs w n (inr (inr (inr f))) = absurd f

      back : (cs : List ℕ) → Read false value cs → (n : ℕ) → Reason value (merge_line states) n → Failed (class_tests states cs) n
      back cs w n (no_classes h) = absurd (some_number cs w h)
      back cs w n (large_class v m l) = inl (refl, (within_fails Merge cs).1 (_, moved v w.0 m, inr l))
      back cs w n (not_each v h) = inr (inl (refl, ne_eqb _ _ (rw (same_numbers v w.0) at h)))
      back cs w n (skipping {c = c} before after v l h) = inr (inr (inl (refl, (numbered_fails 0 cs).1 (before, after, c, same_numbers v w.0, l, h))))

  -- A transition.
  pub transition_judges : (arities : List ℕ) (states : ℕ) → Judges (λ t. Numbers value (transition_numbers t)) (Reason value (transition_line arities states)) (transition arities states value)
  unfolding transition numbers_of from_numbers transition_of checks Failed Rising
  transition_judges arities states = reading 4 (numbers_of false value) _ (numbers_exact false value) (only_numbers false value) from_four (λ h. no_row (λ n ns w. h (n ∷ ns) (w, λ e. omega arith))) go
    where
      Spoken : Transition → Type 0
      Spoken t = Numbers value (transition_numbers t)

      to : (f : ℕ) (qs : List ℕ) → Numbers value (f ∷ qs) → (n : ℕ) → Failed (transition_tests arities states f qs) n → Reason value (transition_line arities states) n
      to f qs w n (inl (e, d)) =
          elim ((and_fails (ltb f (length arities)) _).0 d) [ inl l ↦ rw e (unlisted w (ltb-false _ _ l)) | inr b ↦ let (q, m, l) = (below_fails states qs).0 b in rw e (no_state_in w m l) ]
      to f qs w n (inr (inl (e, d))) = rw e (miscounted {arities = arities} w (λ l. eqb-false (length qs) (get_or arities f 0 + 1) d (omega arith)))
      to f qs w n (inr (inr d)) = absurd d

      back : (f : ℕ) (qs : List ℕ) → Numbers value (f ∷ qs) → (n : ℕ) → Reason value (transition_line arities states) n → Failed (transition_tests arities states f qs) n
      back f qs w n (no_row h) = absurd (h f qs w)
      back f qs w n (unlisted {f = g} v l) = let e = same_numbers v w in let same : g ≡ f = cc in inl (refl, (and_fails (ltb f (length arities)) _).1 (inl (le-ltb f _ (omega arith))))
      back f qs w n (no_state_in {qs = ps} v m l) =
          let e = same_numbers v w in
          let same : ps ≡ qs = cc in
          inl (refl, (and_fails (ltb f (length arities)) _).1 (inr ((below_fails states qs).1 (_, rw same at m, l))))
      back f qs w n (miscounted {f = g} {qs = ps} v h) =
          let e = same_numbers v w in
          let same : g ≡ f = cc in
          let rest : ps ≡ qs = cc in
          inr (inl (refl, ne_eqb (length qs) (get_or arities f 0 + 1) (λ l. h (rw (same, rest) (omega arith)))))

      whole : (f : ℕ) (qs : List ℕ) → Numbers value (f ∷ qs) → ((n : ℕ) → Reason value (transition_line arities states) n → ⊥) → Numbers value (f ∷ (drop_last qs ++ (last_of qs ∷ [])))
      whole f [] w clear = absurd (clear 6 (miscounted w (λ l. omega arith)))
      whole f (q ∷ qs) w clear = rw last_back w

      go : (ns : List ℕ) → Read false value ns → Judges Spoken (Reason value (transition_line arities states)) (from_numbers arities states ns)
      go [] w = absurd (omega (arith, w.1 refl))
      go (f ∷ qs) w =
          all_tested {S = Spoken} {R = Reason value (transition_line arities states)} 4 (transition_tests arities states f qs) 6 (f of drop_last qs gives last_of qs) (omega arith)
          (to f qs w.0) (back f qs w.0) (whole f qs w.0)
