-- The file that says a well-formed certificate is read as that certificate.
use mathlib.Core.Path.{◌≡◌, refl, sym, ap, ◌∙◌}
use mathlib.Core.Logic.{inl, inr, ◌↔◌}
use mathlib.Core.Bool.{Bool, true, false, not, and-eq-true_iff, false≢true}
use mathlib.Core.List.Memᴰ
use mathlib.Core.List.{List, [], ◌∷◌, ◌++◌, map, append_assoc, append-nil, Memᴰ}
use mathlib.Core.List.{drop_last}
use Prim.Native.Nat.{ℕ, suc, ◌^◌, ◌≤◌, ◌<◌}
use Prim.Native.String.{String}
use native.Mathlib.Omega.{arith}
use lib.Dec.{eqb, leb, ltb, lit<}
use lib.ListN.{length, length-append}
use borrow.Author.Tests.{le-leb, lt-ltb, eq-eqb, ne_eqb, ltb-true, leb-true}
use Rattle.theory.specs.Term.{Term, var, node, variables}
use Rattle.theory.specs.Lists.{any}
use Rattle.theory.specs.Rewriting.{Rule, variable_count}
use Rattle.theory.specs.Preorder.{Token, symbol, variable, preorder}
use Rattle.theory.specs.Automaton.{Transition}
use Rattle.theory.proofs.Nth.{all_cons}
use Rattle.paper.specs.Bytes.{LF, comma, digit0, letter_x}
use Rattle.paper.specs.Limits.{most_symbols, most_arity, most_states, last_state, most_tokens, last_variable, most_digits, most_bytes}
use Rattle.paper.specs.Checked
use Rattle.paper.specs.Checked.{Checked, says, ◌unless◌}
use Rattle.paper.specs.Fields.{all, each, digit, number, entries, token}
use Rattle.paper.specs.Certificate.{Certificate, Kind, Budget, Arities, States, Final, Trans, BadStates, BadFinal, BadTrans, Rules, Merge, row}
use Rattle.paper.specs.Sides.{permitted, term, same, bare, left_side, right_side}
use Rattle.paper.specs.Tables.{numbers, numbers_of, within, single_number, number_list, arity_list, ascending, final_list, last_of, transition_of, from_numbers, transition, numbered, class_list}
use Rattle.paper.specs.WellFormed.{GoodTransition, GoodTerm, GoodRule, WellFormed}
use Rattle.paper.specs.Answer.{decimal, decimals, line_with}
use Rattle.paper.specs.Lines.{Without, checked_line}
use Rattle.paper.specs.Format.{gave, Reader, go_on, ◌>>=◌, ◌>>◌, give, at_line, line_of, fixed, times, rule, end, certificate, holds, whole_file, read_file}
use Rattle.paper.specs.Spelling.{token_text, tokens_text, text_of_all, fixed_text, transition_text, rule_text, file_of, transition_numbers}
use Rattle.paper.proofs.Exact.{listed_iff}
use Rattle.paper.proofs.Words.{ascending_exact, numbered_exact}
use Rattle.paper.proofs.Admitted.{admitted}
use Rattle.paper.proofs.Tokens.{all_mem, mem_all, tokens_exact}
use Rattle.paper.proofs.Preorder.{preorder_exact}
use Rattle.paper.proofs.Lines.{Parted, with_commas, entries_complete, take_exact}
use Rattle.paper.proofs.Numbers.{digit_facts, decimal_digits, decimal_first, number_exact}
use Rattle.paper.proofs.Longest.{longest_file}
use Rattle.paper.proofs.Spelling.{commas_decimals, commas_tokens, either_last, spelled}

digits_without : (b : ℕ) (bs : List ℕ) → b < digit0 → all bs digit ≡ true → Without b bs
unfolding all
digits_without b [] h a m = elim m [ ]
digits_without b (d ∷ bs) h a (Memᴰ.head e) = let (low, high) = digit_facts d ((and-eq-true_iff (digit d) (all bs digit)).0 a).0 in omega arith
digits_without b (d ∷ bs) h a (Memᴰ.tail m) = digits_without b bs h ((and-eq-true_iff (digit d) (all bs digit)).0 a).1 m

-- What a text of entries never has: a byte below the digits.
abbrev pub Plain : {Y : Type 0} → (Y → List ℕ) → Type 0
Plain {Y} g = (y : Y) (b : ℕ) → b < digit0 → Without b (g y)

pub decimal_plain : Plain decimal
decimal_plain n b h = digits_without b (decimal n) h (decimal_digits n)

token_plain : Plain token_text
unfolding token_text
token_plain (symbol f) b h m = decimal_plain f b h m
token_plain (variable x) b h (Memᴰ.head e) = omega arith
token_plain (variable x) b h (Memᴰ.tail m) = decimal_plain x b h m

module _ {Y : Type 0} (g : Y → List ℕ) (plain : Plain g) where
  parted : (ys : List Y) → Parted (map g ys)
  parted ys e m i = let (y, n, p) = Memᴰ.of_map g ys m in plain y comma (omega arith) (rw p i)

  -- The text of a list of entries is parted into them again.
  pub entries_of : (y : Y) (ys : List Y) → entries (with_commas (map g (y ∷ ys))) ≡ map g (y ∷ ys)
  entries_of y ys = entries_complete (map g ys) (g y) (parted (y ∷ ys))

  -- It has no LF.
  no_LF : (ys : List Y) → Without LF (with_commas (map g ys))
  unfolding with_commas
  no_LF [] m = Memᴰ.not-nil m
  no_LF (y ∷ []) m = plain y LF (omega arith) m
  no_LF (y ∷ z ∷ ys) m = elim (Memᴰ.append_cases (g y) m) [
    | inl i ↦ plain y LF (omega arith) i
    | inr i ↦ elim (Memᴰ.cases_cons i) [ inl e ↦ omega arith | inr k ↦ no_LF (z ∷ ys) k ]
  ]

each_complete : {Y Z : Type 0} (f : Z → Checked Y) (g : Y → Z) (ys : List Y) → ((y : Y) → Memᴰ y ys → f (g y) ≡ says y) → each f (map g ys) ≡ says ys
unfolding each Checked.◌>>=◌
each_complete f g [] h = refl
each_complete f g (y ∷ ys) h = rw (h y (Memᴰ.head refl), each_complete f g ys (λ z m. h z (Memᴰ.tail m)))

-- Numbers are read back.
numbers_complete : (n : ℕ) (ns : List ℕ) → ((m : ℕ) → Memᴰ m (n ∷ ns) → m < 10 ^ most_digits) → numbers (decimals (n ∷ ns)) ≡ says (n ∷ ns)
unfolding numbers
numbers_complete n ns h = rw (← commas_decimals (n ∷ ns), entries_of decimal decimal_plain n ns) (each_complete number decimal (n ∷ ns) (λ m i. (number_exact (decimal m) m).1 (refl, h m i)))

-- A test that passes is passed.
pass : {Y : Type 0} (n : ℕ) (b : Bool) (j : Checked Y) {k : Checked Y} → b ≡ true → j ≡ k → Checked.◌>>◌ (n unless b) j ≡ k
unfolding ◌unless◌ Checked.◌>>◌
pass n b j e d = rw e d

-- What follows something said follows.
follow : {X Y : Type 0} (j : Checked X) (k : X → Checked Y) {x : X} {l : Checked Y} → j ≡ says x → k x ≡ l → Checked.◌>>=◌ j k ≡ l
unfolding Checked.◌>>=◌
follow j k e d = rw e d

-- A text of numbers is not empty.
pub decimals_cons : (n : ℕ) (ns : List ℕ) → (b : ℕ) × (bs : List ℕ) × (decimals (n ∷ ns) ≡ b ∷ bs)
unfolding decimals
decimals_cons n [] = let f = decimal_first n in (f.first, f.rest, f.is)
decimals_cons n (m ∷ ns) = let f = decimal_first n in (f.first, f.rest ++ (comma ∷ decimals (m ∷ ns)), ap (λ ds. ds ++ (comma ∷ decimals (m ∷ ns))) f.is)

pub numbers_of_complete : (b : Bool) (ns : List ℕ) → (b ≡ false → 1 ≤ length ns) → ((m : ℕ) → Memᴰ m ns → m < 10 ^ most_digits) → numbers_of b (decimals ns) ≡ says ns
unfolding numbers_of decimals
numbers_of_complete true [] l h = refl
numbers_of_complete false [] l h = absurd (omega (arith, l refl))
numbers_of_complete false (n ∷ ns) l h = numbers_complete n ns h
numbers_of_complete true (n ∷ ns) l h = let (b, bs, e) = decimals_cons n ns in rw (e, numbers_of) (rw e at (numbers_complete n ns h))

within_complete : (kind : Kind) (n : ℕ) → (row kind).least ≤ n → n ≤ (row kind).greatest → within kind n ≡ true
unfolding within
within_complete kind n l h = (and-eq-true_iff (leb (row kind).least n) (leb n (row kind).greatest)).1 (le-leb _ _ l, le-leb _ _ h)

greatest_small : (kind : Kind) → (row kind).greatest < 10 ^ most_digits
unfolding row
greatest_small Budget = lit< tt
greatest_small Arities = lit< tt
greatest_small States = lit< tt
greatest_small Final = lit< tt
greatest_small Trans = lit< tt
greatest_small BadStates = lit< tt
greatest_small BadFinal = lit< tt
greatest_small BadTrans = lit< tt
greatest_small Rules = lit< tt
greatest_small Merge = lit< tt

one_complete : (kind : Kind) (n : ℕ) → (row kind).least ≤ n → n ≤ (row kind).greatest → single_number kind (decimal n) ≡ says n
unfolding single_number decimals
one_complete kind n l h =
    follow _ _ (numbers_of_complete (row kind).empty (n ∷ []) (λ e. omega arith) (all_cons (omega (arith, greatest_small kind)) (λ m i. absurd (Memᴰ.not-nil i))))
    (pass 4 _ _ refl (pass 5 _ _ (mem_all (within kind) (n ∷ []) (all_cons (within_complete kind n l h) (λ m i. absurd (Memᴰ.not-nil i)))) refl))

list_complete : (kind : Kind) (ns : List ℕ) → ((row kind).empty ≡ false → 1 ≤ length ns)
    → ((m : ℕ) → Memᴰ m ns → ((row kind).least ≤ m) × (m ≤ (row kind).greatest)) → number_list kind (decimals ns) ≡ says ns
unfolding number_list
list_complete kind ns l h =
    follow _ _ (numbers_of_complete (row kind).empty ns l (λ m i. omega (arith, greatest_small kind, (h m i).1)))
    (pass 5 _ _ (mem_all (within kind) ns (λ m i. within_complete kind m (h m i).0 (h m i).1)) refl)

arities_complete : (ns : List ℕ) → 1 ≤ length ns → length ns ≤ most_symbols → ((a : ℕ) → Memᴰ a ns → a ≤ most_arity) → arity_list (decimals ns) ≡ says ns
unfolding arity_list row
arities_complete ns s l h = follow _ _ (list_complete Arities ns (λ e. s) (λ a m. (omega arith, h a m))) (pass 6 _ _ (le-leb _ _ l) refl)

final_complete : (kind : Kind) (n : ℕ) (qs : List ℕ) → (row kind).empty ≡ true → (row kind).least ≡ 0 → (row kind).greatest ≡ last_state → n ≤ most_states
    → ((q : ℕ) → Memᴰ q qs → q < n) → ascending 0 qs ≡ true → final_list kind n (decimals qs) ≡ says qs
unfolding final_list
final_complete kind n qs e z g l h a =
    follow _ _ (list_complete kind qs (λ f. absurd (false≢true (sym f ∙ e))) (λ q m. (omega arith, omega (arith, h q m))))
    (pass 5 _ _ (mem_all (λ q. ltb q n) qs (λ q m. lt-ltb _ _ (h q m))) (pass 7 _ _ a refl))

merge_complete : (n : ℕ) (cs : List ℕ) → 1 ≤ n → length cs ≡ n → ((c : ℕ) → Memᴰ c cs → c ≤ last_state) → numbered 0 cs ≡ true → class_list n (decimals cs) ≡ says cs
unfolding class_list row
merge_complete n cs s e h t = follow _ _ (list_complete Merge cs (λ f. omega arith) (λ c m. (omega arith, h c m))) (pass 6 _ _ (eq-eqb _ _ e) (pass 11 _ _ t refl))

-- A transition's states are parted again.
drop_last_lem : (qs : List ℕ) (q : ℕ) → drop_last (qs ++ (q ∷ [])) ≡ qs
drop_last_lem [] q = refl
drop_last_lem (p ∷ []) q = refl
drop_last_lem (p ∷ r ∷ qs) q = ap (λ l. p ∷ l) (drop_last_lem (r ∷ qs) q)

last_of_lem : (qs : List ℕ) (q : ℕ) → last_of (qs ++ (q ∷ [])) ≡ q
unfolding last_of
last_of_lem [] q = refl
last_of_lem (p ∷ []) q = refl
last_of_lem (p ∷ r ∷ qs) q = last_of_lem (r ∷ qs) q

transition_complete : (arities : List ℕ) (n : ℕ) (t : Transition) → length arities ≤ most_symbols → n ≤ most_states → GoodTransition arities n t
    → transition arities n (decimals (transition_numbers t)) ≡ says t
unfolding transition transition_of from_numbers
transition_complete arities n t la ln g =
    let states : (q : ℕ) → Memᴰ q (t.arguments ++ (t.target ∷ [])) → q < n = either_last t.arguments t.target g.arguments g.target in
    follow _ _ (numbers_complete t.symbol (t.arguments ++ (t.target ∷ [])) (all_cons (omega (arith, g.symbol)) (λ q m. omega (arith, states q m)))) (
    pass _ _ _ ((and-eq-true_iff (ltb t.symbol (length arities)) (all (t.arguments ++ (t.target ∷ [])) (λ q. ltb q n))).1
    (lt-ltb _ _ g.symbol, mem_all (λ q. ltb q n) (t.arguments ++ (t.target ∷ [])) (λ q m. lt-ltb _ _ (states q m)))) (
    pass _ _ _ (eq-eqb _ _ (length-append t.arguments (t.target ∷ []) ∙ omega (arith, g.count))) (rw (drop_last_lem t.arguments t.target, last_of_lem t.arguments t.target))))

-- The number in a token.
unfoldable pub numeral : Token → ℕ
numeral (symbol f) = f
numeral (variable x) = x

-- A token with a number of at most 8 digits is read back.
pub token_complete : (t : Token) → numeral t < 10 ^ most_digits → token (token_text t) ≡ says t
unfolding token token_text numeral all
token_complete (symbol f) small =
    let d = decimal_first f in
    let here : all (d.first ∷ d.rest) digit ≡ true = sym (ap (λ l. all l digit) d.is) ∙ decimal_digits f in
    let (low, high) = digit_facts d.first ((and-eq-true_iff (digit d.first) (all d.rest digit)).0 here).0 in
    let other : eqb d.first letter_x ≡ false = ne_eqb d.first letter_x (λ e. omega arith) in
    rw (d.is, other, token) (follow _ _ (rw d.is at ((number_exact (decimal f) f).1 (refl, small))) refl)
token_complete (variable x) small = follow _ _ ((number_exact (decimal x) x).1 (refl, small)) refl

known_short : (t : Token) (arities : List ℕ) → length arities ≤ most_symbols → permitted arities t ≡ true → numeral t < 10 ^ most_digits
unfolding numeral permitted
known_short (symbol f) arities l h = omega (arith, ltb-true f (length arities) h)
known_short (variable x) arities l h = omega (arith, leb-true x last_variable h)

pub tokens_complete : (y : Token) (ys : List Token) → ((t : Token) → Memᴰ t (y ∷ ys) → token (token_text t) ≡ says t) → each token (entries (tokens_text (y ∷ ys))) ≡ says (y ∷ ys)
tokens_complete y ys h = rw (← commas_tokens (y ∷ ys), entries_of token_text token_plain y ys) (each_complete token token_text (y ∷ ys) h)

no_tokens : (t : Term ℕ) → preorder t ≡ [] → ⊥
unfolding preorder
no_tokens (var x) e = let z : ◌≡◌ {A = ℕ} 0 1 = cc in omega arith
no_tokens (node f ts) e = let z : ◌≡◌ {A = ℕ} 0 1 = cc in omega arith

term_complete : (arities : List ℕ) (t : Term ℕ) → length arities ≤ most_symbols → GoodTerm arities t → term arities (tokens_text (preorder t)) ≡ says t
unfolding term
term_complete arities t l g = go (preorder t) refl
  where
    go : (toks : List Token) → preorder t ≡ toks → term arities (tokens_text (preorder t)) ≡ says t
    go [] e = absurd (no_tokens t e)
    go (y ∷ ys) e =
        let known-all : all (y ∷ ys) (permitted arities) ≡ true = sym (ap (λ l. all l (permitted arities)) e) ∙ (tokens_exact arities t).1 (g.listed, g.low) in
        let few : length (y ∷ ys) ≤ most_tokens = omega (arith, g.tokens, ap length e) in
        rw e (follow _ _ (tokens_complete y ys (λ u m. token_complete u (known_short u arities l (all_mem (permitted arities) (y ∷ ys) known-all u m))))
        (pass 5 _ _ known-all (pass 6 _ _ (le-leb _ _ few) ((preorder_exact arities (y ∷ ys) t).1 (e, g.ranked)))))

pub same_complete : (xs ys : List ℕ) → xs ≡ ys → same xs ys ≡ true
unfolding same
same_complete [] [] e = refl
same_complete [] (y ∷ ys) e = let z : ◌≡◌ {A = ℕ} 0 1 = cc in absurd (omega arith)
same_complete (x ∷ xs) [] e = let z : ◌≡◌ {A = ℕ} 0 1 = cc in absurd (omega arith)
same_complete (x ∷ xs) (y ∷ ys) e = (and-eq-true_iff (eqb x y) (same xs ys)).1 (eq-eqb x y cc, same_complete xs ys cc)

not_bare : (l : Term ℕ) → ((x : ℕ) → l ≡ var x → ⊥) → not (bare l) ≡ true
unfolding bare
not_bare (var x) h = absurd (h x refl)
not_bare (node f ts) h = refl

left_complete : (arities : List ℕ) (rule : Rule) → length arities ≤ most_symbols → GoodRule arities rule → left_side arities (tokens_text (preorder rule.left)) ≡ says rule.left
unfolding left_side variable_count
left_complete arities rule l g =
    follow _ _ (term_complete arities rule.left l g.left)
    (pass _ _ _ ((and-eq-true_iff (not (bare rule.left)) _).1 (not_bare rule.left g.shaped.not_bare, same_complete _ _ g.shaped.in_order)) refl)

right_complete : (arities : List ℕ) (rule : Rule) → length arities ≤ most_symbols → GoodRule arities rule → right_side arities rule.left (tokens_text (preorder rule.right)) ≡ says rule.right
unfolding right_side
right_complete arities rule l g =
    follow _ _ (term_complete arities rule.right l g.right)
    (pass _ _ _ (mem_all (λ x. any (variables rule.left) (eqb x)) (variables rule.right) (λ x m. (listed_iff x (variables rule.left)).1 (g.shaped.from_left x m))) refl)

-- The reader takes the text t and gives x, whatever follows.
abbrev Back : {X : Type 0} → Reader X → X → List ℕ → Type 0
Back r x t = (line : ℕ) (rest : List ℕ) → (line' : ℕ) × (r line (t ++ rest) ≡ gave x line' rest)

back_line : {X : Type 0} (key : String) (judge : List ℕ → Checked X) (value : List ℕ) (x : X) → judge value ≡ says x → Without LF value → Back (line_of key judge) x (line_with key value)
unfolding line_of checked_line at_line Checked.◌>>=◌
back_line key judge value x e w line rest = (suc line, rw ((take_exact key _ (record { what = value; rest = rest })).1 (refl, w), e))

back_bind : {X Y : Type 0} (r : Reader X) (k : X → Reader Y) {x : X} {y : Y} (t u : List ℕ) → Back r x t → Back (k x) y u → Back (r >>= k) y (t ++ u)
unfolding ◌>>=◌ go_on
back_bind r k t u h g line rest =
    let (n, e) = h line (u ++ rest) in
    let (m, d) = g n rest in
    (m, rw (append_assoc t u rest, e) d)

back_give : {Y : Type 0} (y : Y) → Back (give y) y []
unfolding give
back_give y line rest = (line, refl)

back_times : {X : Type 0} (f : X → List ℕ) (r : Reader X) (xs : List X) → ((x : X) → Memᴰ x xs → Back r x (f x)) → Back (times (length xs) r) xs (text_of_all f xs)
unfolding times text_of_all
back_times f r [] h = back_give []
back_times f r (x ∷ xs) h =
    rw (← append-nil (text_of_all f xs)) (back_bind r _ (f x) (text_of_all f xs ++ []) (h x (Memᴰ.head refl))
    (back_bind (times (length xs) r) _ (text_of_all f xs) [] (back_times f r xs (λ y m. h y (Memᴰ.tail m))) (back_give (x ∷ xs))))

pub decimals_LF : (ns : List ℕ) → Without LF (decimals ns)
decimals_LF ns = rw (← commas_decimals ns) (no_LF decimal decimal_plain ns)

tokens_LF : (ts : List Token) → Without LF (tokens_text ts)
tokens_LF ts = rw (← commas_tokens ts) (no_LF token_text token_plain ts)

back_rule : (arities : List ℕ) (r : Rule) → length arities ≤ most_symbols → GoodRule arities r → Back (rule arities) r (rule_text r)
unfolding rule rule_text
back_rule arities r l g =
    rw (← append-nil (line_with "r" (tokens_text (preorder r.right))))
    (back_bind _ _ (line_with "l" (tokens_text (preorder r.left))) (line_with "r" (tokens_text (preorder r.right)) ++ [])
    (back_line "l" _ _ r.left (left_complete arities r l g) (tokens_LF _))
    (back_bind _ _ (line_with "r" (tokens_text (preorder r.right))) [] (back_line "r" _ _ r.right (right_complete arities r l g) (tokens_LF _)) (back_give r)))

back_transition : (key : String) (arities : List ℕ) (n : ℕ) (t : Transition) → length arities ≤ most_symbols → n ≤ most_states → GoodTransition arities n t
    → Back (line_of key (transition arities n)) t (transition_text key t)
unfolding transition_text
back_transition key arities n t la ln g = back_line key _ _ t (transition_complete arities n t la ln g) (decimals_LF _)

back_number : (kind : Kind) (n : ℕ) → (row kind).least ≤ n → n ≤ (row kind).greatest → Back (fixed kind single_number) n (fixed_text kind (decimal n))
unfolding fixed fixed_text
back_number kind n l h = back_line _ _ _ n (one_complete kind n l h) (decimal_plain n LF (omega arith))

back_list : (kind : Kind) (judge : Kind → List ℕ → Checked (List ℕ)) (ns : List ℕ) → judge kind (decimals ns) ≡ says ns → Back (fixed kind judge) ns (fixed_text kind (decimals ns))
unfolding fixed fixed_text
back_list kind judge ns e = back_line _ _ _ ns e (decimals_LF ns)

-- Go on with what follows the text.
on_with : {X Y : Type 0} (r : Reader X) (k : X → Reader Y) (x : X) {y : Y} (t u : List ℕ) {bs : List ℕ} → Back r x t → ((n : ℕ) → (m : ℕ) × (k x n u ≡ gave y m bs))
    → (line : ℕ) → (m : ℕ) × ((r >>= k) line (t ++ u) ≡ gave y m bs)
unfolding ◌>>=◌ go_on
on_with r k x t u h g line = let (n, e) = h line u in let (m, d) = g n in (m, rw e d)

on_last : {X Y : Type 0} (r : Reader X) (k : X → Reader Y) (x : X) {y : Y} (t : List ℕ) {bs : List ℕ} → Back r x t → ((n : ℕ) → (m : ℕ) × (k x n [] ≡ gave y m bs))
    → (line : ℕ) → (m : ℕ) × ((r >>= k) line t ≡ gave y m bs)
on_last r k x t h g line = let (m, e) = on_with r k x t [] h g line in (m, rw (append-nil t) at e)

finish : (c : Certificate) (n : ℕ) → (m : ℕ) × ((end >> give c) n [] ≡ gave c m [])
unfolding ◌>>◌ go_on end give
finish c n = (n, refl)

certificate_back : (c : Certificate) → WellFormed c → (line : ℕ) → (m : ℕ) × (certificate line (file_of c) ≡ gave c m [])
unfolding certificate file_of row
certificate_back c w =
    on_with _ _ c.budget (fixed_text Budget (decimal c.budget)) _ (back_number Budget c.budget (omega arith) w.budget) (
    on_with _ _ c.arities (fixed_text Arities (decimals c.arities)) _ (back_list Arities _ c.arities (arities_complete c.arities w.some_arities w.most_arities w.arities)) (
    on_with _ _ c.A.states (fixed_text States (decimal c.A.states)) _ (back_number States c.A.states w.A.some_states w.A.states_bound) (
    on_with _ _ c.A.final (fixed_text Final (decimals c.A.final)) _
    (back_list Final _ c.A.final (final_complete Final c.A.states c.A.final refl refl refl w.A.states_bound w.A.final
    ((ascending_exact c.A.final).1 w.A.final_ascending))) (
    on_with _ _ (length c.A.transitions) (fixed_text Trans (decimal (length c.A.transitions))) _ (back_number Trans (length c.A.transitions) (omega arith) w.A.transitions_bound) (
    on_with _ _ c.A.transitions (text_of_all (transition_text "t") c.A.transitions) _
    (back_times (transition_text "t") _ c.A.transitions (λ t m. back_transition "t" c.arities c.A.states t w.most_arities w.A.states_bound (w.A.transitions t m))) (
    on_with _ _ c.B.states (fixed_text BadStates (decimal c.B.states)) _ (back_number BadStates c.B.states w.B.some_states w.B.states_bound) (
    on_with _ _ c.B.final (fixed_text BadFinal (decimals c.B.final)) _
    (back_list BadFinal _ c.B.final (final_complete BadFinal c.B.states c.B.final refl refl refl w.B.states_bound w.B.final
    ((ascending_exact c.B.final).1 w.B.final_ascending))) (
    on_with _ _ (length c.B.transitions) (fixed_text BadTrans (decimal (length c.B.transitions))) _ (back_number BadTrans (length c.B.transitions) (omega arith) w.B.transitions_bound) (
    on_with _ _ c.B.transitions (text_of_all (transition_text "u") c.B.transitions) _
    (back_times (transition_text "u") _ c.B.transitions (λ t m. back_transition "u" c.arities c.B.states t w.most_arities w.B.states_bound (w.B.transitions t m))) (
    on_with _ _ (length c.rules) (fixed_text Rules (decimal (length c.rules))) _ (back_number Rules (length c.rules) (omega arith) w.rules_bound) (
    on_with _ _ c.rules (text_of_all rule_text c.rules) _ (back_times rule_text _ c.rules (λ r m. back_rule c.arities r w.most_arities (w.rules r m))) (
    on_last _ _ c.merge (fixed_text Merge (decimals c.merge))
    (back_list Merge _ c.merge (merge_complete c.A.states c.merge w.A.some_states w.merge_count w.merge ((numbered_exact c.merge).1 w.merge_numbered))) (
    finish c)))))))))))))

-- The file that says a well-formed certificate is read as that certificate: it is never too long.
pub read_back : (c : Certificate) → WellFormed c → read_file (file_of c) ≡ holds c
unfolding read_file whole_file
read_back c w = let (m, e) = certificate_back c w 1 in rw (le-leb (length (file_of c)) most_bytes (omega (arith, longest_file c w)), read_file, e)

-- A file holds c exactly when it is the file that says c, and c is well formed.
pub format_exact : (file : List ℕ) (c : Certificate) → (read_file file ≡ holds c) ↔ ((file_of c ≡ file) × WellFormed c)
format_exact file c = (λ e. (spelled file c e, admitted file c e), λ (e, w). rw (← e) (read_back c w))
