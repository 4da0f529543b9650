-- What a file holds is well formed: what each line's tests and the reading of the lines leave of a certificate.
use mathlib.Core.Path.{◌≡◌, refl, ap}
use mathlib.Core.Logic.{inl, inr}
use mathlib.Core.Bool.{Bool, true, ◌&&◌, not, and-eq-true_iff, false≢true}
use mathlib.Core.List.Memᴰ
use mathlib.Core.List.{List, [], ◌∷◌, Memᴰ, drop_last}
use Prim.Native.Nat.{ℕ, zero, suc, ◌+◌, ◌≤◌, ◌<◌}
use Prim.Native.String.{String}
use native.Mathlib.Omega.{arith}
use native.Mathlib.Decide.{dec_le}
use lib.Dec.{eqb, leb, ltb}
use lib.ListN.{length, get_or}
use borrow.Author.Tests.{ltb-true, leb-true}
use Rattle.theory.specs.Lists.{count_from, any}
use Rattle.theory.specs.Term.{Term, var, variables}
use Rattle.theory.specs.Rewriting.{variable_count}
use Rattle.theory.specs.Automaton.{◌of◌gives◌}
use Rattle.theory.proofs.Nth.{all_cons}
use Rattle.theory.proofs.Count.{order_mem}
use Rattle.theory.proofs.Tests.{equal_iff, not_iff}
use Rattle.paper.specs.Limits.{most_symbols, most_arity, last_state, most_variables, most_bytes}
use Rattle.paper.specs.Checked.{Checked, fault, says}
use Rattle.paper.specs.Lines.{take_line, Said, checked_line}
use Rattle.paper.specs.Fields.{all, each, number, entries}
use Rattle.paper.specs.Certificate.{Certificate, Kind, Budget, Arities, States, Trans, BadStates, BadTrans, Rules, Merge, row}
use Rattle.paper.specs.Tables.{numbers, numbers_of, within, single_number, number_list, arity_list, final_list, last_of, transition_of, from_numbers, transition, class_list}
use Rattle.paper.specs.Sides.{term, same, bare, left_side, right_side}
use Rattle.paper.specs.Format.{Reading, refused, gave, Reader, go_on, ◌>>=◌, ◌>>◌, give, at_line, line_of, fixed, times, rule, certificate, holds, whole_file, read_file}
use Rattle.paper.specs.WellFormed.{Ascends, Numbered, GoodTransition, GoodTerm, GoodRule, WellFormed}
use Rattle.paper.proofs.Smallest.{decided}
use Rattle.paper.proofs.Words.{ascending_exact, numbered_exact}
use Rattle.paper.proofs.Tokens.{all_mem, tokens_exact}
use Rattle.paper.proofs.Exact.{listed_iff}
use Rattle.paper.proofs.Checked.{Says, said, passed, says_so, anything}
use Rattle.paper.proofs.Lines.{entries_sound}
use Rattle.paper.proofs.Preorder.{preorder_exact}

-- Facts behind tests.
all_last : (test : ℕ → Bool) (q : ℕ) (qs : List ℕ) → all (q ∷ qs) test ≡ true → test (last_of (q ∷ qs)) ≡ true
unfolding all last_of
all_last test q [] e = ((and-eq-true_iff (test q) true).0 e).0
all_last test q (r ∷ qs) e = all_last test r qs ((and-eq-true_iff (test q) (all (r ∷ qs) test)).0 e).1

pub same_lists : (xs ys : List ℕ) → same xs ys ≡ true → xs ≡ ys
unfolding same
same_lists [] [] e = refl
same_lists [] (y ∷ ys) e = absurd (false≢true e)
same_lists (x ∷ xs) [] e = absurd (false≢true e)
same_lists (x ∷ xs) (y ∷ ys) e = let (h, hs) = (and-eq-true_iff (eqb x y) (same xs ys)).0 e in let head = (equal_iff x y).0 h in let tail = same_lists xs ys hs in cc

-- A number in the range of its line.
abbrev pub InRow : Kind → ℕ → Type 0
InRow kind n = ((row kind).least ≤ n) × (n ≤ (row kind).greatest)

row_within : (kind : Kind) (n : ℕ) → within kind n ≡ true → InRow kind n
unfolding within
row_within kind n e = let (l, g) = (and-eq-true_iff (leb (row kind).least n) (leb n (row kind).greatest)).0 e in (leb-true _ _ l, leb-true _ _ g)

pub one_in : (kind : Kind) (value : List ℕ) → Says (InRow kind) (single_number kind value)
unfolding single_number
one_in kind value = said _ _ (anything _) (λ ns u. passed 4 _ _ (λ l. passed 5 _ _ (λ h. says_so _ _ (first ns l h))))
  where
    first : (ns : List ℕ) → eqb (length ns) 1 ≡ true → all ns (within kind) ≡ true → InRow kind (get_or ns 0 0)
    first [] l h = absurd (omega (arith, (equal_iff 0 1).0 l))
    first (n ∷ ns) l h = row_within kind n (all_mem (within kind) (n ∷ ns) h n (Memᴰ.head refl))

list_in : (kind : Kind) (value : List ℕ) → Says (λ ns. (n : ℕ) → Memᴰ n ns → InRow kind n) (number_list kind value)
unfolding number_list
list_in kind value = said _ _ (anything _) (λ ns u. passed 5 _ _ (λ h. says_so _ ns (λ n m. row_within kind n (all_mem (within kind) ns h n m))))

-- As many are read as there are.
pub each_length : {Y Z : Type 0} (f : Y → Checked Z) (ys : List Y) → Says (λ zs. length zs ≡ length ys) (each f ys)
unfolding each
each_length f [] = says_so _ [] refl
each_length f (y ∷ ys) = said _ _ (anything (f y)) (λ z u. said _ _ (each_length f ys) (λ zs l. says_so _ (z ∷ zs) (ap suc l)))

pub some_numbers : (value : List ℕ) → Says (λ ns. 1 ≤ length ns) (numbers value)
unfolding numbers
some_numbers value ns e = let i = entries_sound value in omega (arith, each_length number (entries value) ns e, ap length i.are)

some_arities_in : (value : List ℕ) → Says (λ ns. 1 ≤ length ns) (number_list Arities value)
unfolding number_list row numbers_of
some_arities_in value = said _ _ (some_numbers value) (λ ns s. passed 5 _ _ (λ h. says_so _ ns s))

record GoodArities (ns : List ℕ) : Type 0 where
  some_one : 1 ≤ length ns
  most : length ns ≤ most_symbols
  each_one : (a : ℕ) → Memᴰ a ns → a ≤ most_arity

arities_in : (value : List ℕ) → Says GoodArities (arity_list value)
unfolding arity_list row
arities_in value =
    said {P = λ ns. ((n : ℕ) → Memᴰ n ns → InRow Arities n) × (1 ≤ length ns)} _ _ (λ ns e. (list_in Arities value ns e, some_arities_in value ns e))
    (λ ns (h, s). passed 6 _ _ (λ l. says_so _ ns (record { some_one = s; most = leb-true _ _ l; each_one = λ a m. (h a m).1 })))

record GoodFinal (n : ℕ) (qs : List ℕ) : Type 0 where
  below : (q : ℕ) → Memᴰ q qs → q < n
  ascends : Ascends qs

-- A final list has states only, and ascends.
finals_in : (kind : Kind) (n : ℕ) (value : List ℕ) → Says (GoodFinal n) (final_list kind n value)
unfolding final_list
finals_in kind n value =
    said _ _ (anything _) (λ qs u. passed 5 _ _
    (λ below. passed 7 _ _ (λ ascends. says_so _ qs (record { below = λ q m. ltb-true q n (all_mem (λ q. ltb q n) qs below q m); ascends = (ascending_exact qs).0 ascends }))))

length_drop_last : (q : ℕ) (qs : List ℕ) → length (drop_last (q ∷ qs)) ≡ length qs
length_drop_last q [] = refl
length_drop_last q (r ∷ qs) = ap suc (length_drop_last r qs)

mem_drop_last : (q : ℕ) (qs : List ℕ) (p : ℕ) → Memᴰ p (drop_last (q ∷ qs)) → Memᴰ p (q ∷ qs)
mem_drop_last q [] p m = absurd (Memᴰ.not-nil m)
mem_drop_last q (r ∷ qs) p (Memᴰ.head e) = Memᴰ.head e
mem_drop_last q (r ∷ qs) p (Memᴰ.tail m) = Memᴰ.tail (mem_drop_last r qs p m)

-- A transition is as the format says.
transition_in : (arities : List ℕ) (n : ℕ) (value : List ℕ) → Says (GoodTransition arities n) (transition arities n value)
unfolding transition transition_of from_numbers
transition_in arities n value = said _ _ (anything _) go
  where
    good : (f : ℕ) (qs : List ℕ) → ltb f (length arities) && all qs (λ q. ltb q n) ≡ true
        → eqb (length qs) (get_or arities f 0 + 1) ≡ true → GoodTransition arities n (f of drop_last qs gives last_of qs)
    good f [] h e = absurd (omega (arith, (equal_iff 0 (get_or arities f 0 + 1)).0 e))
    good f (q ∷ qs) h e =
        let (l, b) = (and-eq-true_iff (ltb f (length arities)) (all (q ∷ qs) (λ q. ltb q n))).0 h in
        record {
          symbol = ltb-true f (length arities) l;
          count = omega (arith, length_drop_last q qs, (equal_iff (length (q ∷ qs)) (get_or arities f 0 + 1)).0 e);
          arguments = λ p m. ltb-true p n (all_mem (λ q. ltb q n) (q ∷ qs) b p (mem_drop_last q qs p m));
          target = ltb-true (last_of (q ∷ qs)) n (all_last (λ q. ltb q n) q qs b);
        }

    go : (ns : List ℕ) → Unit {0} → Says (GoodTransition arities n) (from_numbers arities n ns)
    go [] u t e = let z : ◌≡◌ {A = ℕ} 0 1 = cc in absurd (omega arith)
    go (f ∷ qs) u t e = passed _ _ _ (λ h. passed _ _ _ (λ l. says_so (GoodTransition arities n) _ (good f qs h l))) t e

term_in : (arities value : List ℕ) → Says (GoodTerm arities) (term arities value)
unfolding term
term_in arities value = said _ _ (anything _) (λ ts u. passed 5 _ _ (λ h. passed 6 _ _ (λ l t e.
    let (q, ranked) = (preorder_exact arities ts t).0 e in
    let (listed, low) = (tokens_exact arities t).0 (rw q h) in
    record { ranked = ranked; listed = listed; low = low; tokens = rw q (leb-true _ _ l) })))

-- A left side is no bare variable, and its variables are in order.
record LeftShaped (arities : List ℕ) (l : Term ℕ) : Type 0 where
  good : GoodTerm arities l
  not_bare : (x : ℕ) → l ≡ var x → ⊥
  in_order : variables l ≡ count_from 0 (length (variables l))

left_shaped : (arities value : List ℕ) → Says (LeftShaped arities) (left_side arities value)
unfolding left_side bare
left_shaped arities value = said _ _ (term_in arities value) (λ l good. passed _ _ _ (λ h.
    let (b, s) = (and-eq-true_iff (not (bare l)) _).0 h in
    says_so _ l (record { good = good; not_bare = λ x e. (not_iff (bare l)).0 b (rw e refl); in_order = same_lists _ _ s })))

-- It has at most four variables.
at_most_four : (arities : List ℕ) (l : Term ℕ) → LeftShaped arities l → length (variables l) ≤ most_variables
at_most_four arities l s = elim (dec_le (length (variables l)) most_variables) [
  | yes h ↦ h
  | no h ↦ absurd (omega (arith, s.good.low most_variables (rw (← s.in_order) at (order_mem 0 (length (variables l)) most_variables (omega arith) (omega arith)))))
]

record RightShaped (arities : List ℕ) (l r : Term ℕ) : Type 0 where
  good : GoodTerm arities r
  known_left : (x : ℕ) → Memᴰ x (variables r) → Memᴰ x (variables l)

right_shaped : (arities : List ℕ) (l : Term ℕ) (value : List ℕ) → Says (RightShaped arities l) (right_side arities l value)
unfolding right_side
right_shaped arities l value =
    said _ _ (term_in arities value) (λ r good.
    passed _ _ _ (λ h. says_so _ r (record { good = good; known_left = λ x m. (listed_iff x (variables l)).0 (all_mem (λ x. any (variables l) (eqb x)) (variables r) h x m) })))

record GoodMerge (n : ℕ) (cs : List ℕ) : Type 0 where
  count : length cs ≡ n
  low : (c : ℕ) → Memᴰ c cs → c ≤ last_state
  in_turn : Numbered cs

merge_in : (n : ℕ) (value : List ℕ) → Says (GoodMerge n) (class_list n value)
unfolding class_list row
merge_in n value =
    said _ _ (list_in Merge value) (λ cs h. passed 6 _ _
    (λ l. passed 11 _ _ (λ t. says_so _ cs (record { count = (equal_iff (length cs) n).0 l; low = λ c m. (h c m).1; in_turn = (numbered_exact cs).0 t }))))

-- Whatever a reader gives fulfils P.
abbrev pub Reads : {X : Type 0} → (X → Type 0) → Reader X → Type 0
Reads {X} P reader = (line : ℕ) (rest : List ℕ) (x : X) (line' : ℕ) (rest' : List ℕ) → reader line rest ≡ gave x line' rest' → P x

module _ {X Y : Type 0} {P : X → Type 0} {Q : Y → Type 0} where
  went_on : (r : Reading X) (k : X → Reader Y) → ((x : X) (line : ℕ) (rest : List ℕ) → r ≡ gave x line rest → P x) → ((x : X) → P x → Reads Q (k x))
      → (y : Y) (line : ℕ) (rest : List ℕ) → go_on r k ≡ gave y line rest → Q y
  unfolding go_on
  went_on (refused number line) k h g y n bs e = let z : ◌≡◌ {A = ℕ} 0 1 = cc in absurd (omega arith)
  went_on (gave x line rest) k h g y n bs e = g x (h x line rest refl) line rest y n bs e

  -- What follows a reading may use what was read.
  read : (r : Reader X) (k : X → Reader Y) → Reads P r → ((x : X) → P x → Reads Q (k x)) → Reads Q (r >>= k)
  unfolding ◌>>=◌
  read r k h g line rest = went_on (r line rest) k (h line rest) g

  passed_over : (r : Reader X) (k : Reader Y) → Reads P r → Reads Q k → Reads Q (r >> k)
  unfolding ◌>>◌
  passed_over r k h g line rest = went_on (r line rest) (λ x. k) (h line rest) (λ x p. g)

given : {Y : Type 0} (Q : Y → Type 0) (y : Y) → Q y → Reads Q (give y)
unfolding give
given Q y h line rest x line' rest' e = let same : y ≡ x = cc in rw same at h

pub any_read : {Y : Type 0} (r : Reader Y) → Reads (λ y. Unit {0}) r
any_read r line rest y line' rest' e = tt

said_on_line : {X : Type 0} (P : X → Type 0) (j : Checked (Said X)) → Says (λ s. P s.what) j → (line : ℕ) (x : X) (line' : ℕ) (rest' : List ℕ) → at_line line j ≡ gave x line' rest' → P x
unfolding at_line
said_on_line P (fault n) h line x line' rest' e = let z : ◌≡◌ {A = ℕ} 0 1 = cc in absurd (omega arith)
said_on_line P (says s) h line x line' rest' e = let same : s.what ≡ x = cc in rw same at (h s refl)

-- What a line gives is what its judgement says.
pub line_read : {X : Type 0} {P : X → Type 0} (judge : List ℕ → Checked X) → ((value : List ℕ) → Says P (judge value)) → (key : String) → Reads P (line_of key judge)
unfolding line_of checked_line
line_read {P = P} judge h key line rest = said_on_line P _ (said _ _ (anything (take_line key rest)) (λ l u. said _ _ (h l.what) (λ x p. says_so (λ s. P s.what) _ p))) line

-- What is read many times holds of each, and there are as many.
times_read : {X : Type 0} {P : X → Type 0} (n : ℕ) (r : Reader X) → Reads P r → Reads (λ xs. (length xs ≡ n) × ((x : X) → Memᴰ x xs → P x)) (times n r)
unfolding times
times_read zero r h = given _ [] (refl, λ x m. absurd (Memᴰ.not-nil m))
times_read (suc n) r h = read r _ h (λ x p. read (times n r) _ (times_read n r h) (λ xs (l, ps). given _ (x ∷ xs) (ap suc l, all_cons p ps)))

rule_read : (arities : List ℕ) → Reads (GoodRule arities) (rule arities)
unfolding rule variable_count
rule_read arities =
    read _ _ (line_read (left_side arities) (left_shaped arities) "l")
    (λ l s. read _ _ (line_read (right_side arities l) (right_shaped arities l) "r")
    (λ r t. given _ _ (record { shaped = record { not_bare = s.not_bare; in_order = s.in_order; from_left = t.known_left }; left = s.good; right = t.good; few = at_most_four arities l s })))

-- What the lines give in their order is well formed.
certificate_read : Reads WellFormed certificate
unfolding certificate fixed row
certificate_read =
    read _ _ (line_read _ (one_in Budget) _) (λ budget b.
    read _ _ (line_read _ arities_in _) (λ arities as'.
    read _ _ (line_read _ (one_in States) _) (λ n sn.
    read _ _ (line_read _ (finals_in _ n) _) (λ final f.
    read _ _ (line_read _ (one_in Trans) _) (λ count sc.
    read _ _ (times_read count _ (line_read _ (transition_in arities n) "t")) (λ ts (lt, gt).
    read _ _ (line_read _ (one_in BadStates) _) (λ m sm.
    read _ _ (line_read _ (finals_in _ m) _) (λ badfinal g.
    read _ _ (line_read _ (one_in BadTrans) _) (λ badcount sb.
    read _ _ (times_read badcount _ (line_read _ (transition_in arities m) "u")) (λ us (lu, gu).
    read _ _ (line_read _ (one_in Rules) _) (λ rulecount sr.
    read _ _ (times_read rulecount _ (rule_read arities)) (λ rules (lr, gr).
    read _ _ (line_read _ (merge_in n) _) (λ merge sm'.
    passed_over _ _ (any_read _) (given _ _ (record {
      budget = b.1;
      some_arities = as'.some_one;
      most_arities = as'.most;
      arities = as'.each_one;
      A = record { some_states = sn.0; states_bound = sn.1; transitions = gt; transitions_bound = omega (arith, sc.1); final = f.below; final_ascending = f.ascends };
      B = record { some_states = sm.0; states_bound = sm.1; transitions = gu; transitions_bound = omega (arith, sb.1); final = g.below; final_ascending = g.ascends };
      rules_bound = omega (arith, sr.1);
      rules = gr;
      merge_count = sm'.count;
      merge = sm'.low;
      merge_numbered = sm'.in_turn;
    })))))))))))))))

-- The lines of a file that holds c give c, and it is not too long.
pub held : (file : List ℕ) (c : Certificate) → read_file file ≡ holds c → (L : ℕ) × (rest : List ℕ) × (certificate 1 file ≡ gave c L rest) × (length file ≤ most_bytes)
unfolding read_file whole_file
held file c e = elim (decided (leb (length file) most_bytes)) [
  | inl h ↦ let (L, rest, g) = whole (certificate 1 file) (rw (h, read_file) at e) in (L, rest, g, leb-true (length file) most_bytes h)
  | inr h ↦ let f = rw (h, read_file) at e in let z : ◌≡◌ {A = ℕ} 0 1 = cc in absurd (omega arith)
]
  where
    whole : (r : Reading Certificate) → whole_file r ≡ holds c → (L : ℕ) × (rest : List ℕ) × (r ≡ gave c L rest)
    whole (refused number line) e = let z : ◌≡◌ {A = ℕ} 0 1 = cc in absurd (omega arith)
    whole (gave d L rest) e = (L, rest, cc)

-- A certificate that a file holds is well formed.
pub admitted : (file : List ℕ) (c : Certificate) → read_file file ≡ holds c → WellFormed c
admitted file c e = let (L, rest, g, short) = held file c e in certificate_read 1 file c L rest g
