-- What the passes find of a side's bytes is what paper says of its tokens: one term or not, its variables, its first token.
use mathlib.Core.Path.{◌≡◌, refl, sym, ap, ◌∙◌}
use mathlib.Core.Bool.{Bool, true, false, and-eq-true_iff, false≢true}
use mathlib.Core.Logic.{inl, inr}
use mathlib.Core.List.{List, [], ◌∷◌, ◌++◌, map}
use Prim.Native.Nat.{ℕ, zero, suc, ◌+◌, ◌-◌, ◌≤◌, ◌<◌}
use native.Mathlib.Omega.{arith}
use borrow.Author.Tests.{eqb-true, eqb-false, eq-eqb, ne_eqb, le-leb, lt-leb, leb-true, leb-false, lt-ltb, le-ltb, ltb-true, ltb-false}
use lib.Dec.{eqb, leb, ltb}
use lib.ListN.{length, get_or}
use Rattle.std.specs.Prelude.{Option, Some, None}
use Rattle.std.specs.List.{list_all}
use Rattle.theory.specs.Lists.{count_from, any}
use Rattle.theory.specs.Term.{Term, Terms, var, node, none, ◌then◌, variables, variables_all}
use Rattle.theory.specs.Preorder.{Token, symbol, variable, preorder, preorder_all}
use Rattle.paper.specs.Checked.{Checked, fault, says, ◌>>=◌}
use Rattle.paper.specs.Fields.{all}
use Rattle.paper.specs.Sides.{permitted, Parts, part, before, terms, single, term_of, same, bare}
use Rattle.paper.proofs.Smallest.{decided}
use Rattle.paper.proofs.Admitted.{same_lists}
use Rattle.paper.proofs.Exact.{listed_iff}
use Rattle.paper.proofs.Tokens.{tokens_exact}
use Rattle.theory.proofs.Count.{mem_order, order_mem}
use Rattle.tables.specs.Held.{token_of, byte_of, side_of}
use Rattle.sides.specs.Tokens.{closes, open_terms, is_one, step_lined, lined, known}

-- How many terms a row has, and how many are left behind its first n.
size : Terms ℕ → ℕ
size none = 0
size (t then ts) = suc (size ts)

part_size : (n : ℕ) (us : Terms ℕ) → n ≤ size us → (p : Parts) × (part n us ≡ says p) × (size p.behind + n ≡ size us)
unfolding part size ◌>>=◌
part_size zero us h = (_, refl, omega arith)
part_size (suc n) none h = absurd (omega arith)
part_size (suc n) (t then ts) h = let (p, e, f) = part_size n ts (omega arith) in (record { front = t then p.front; behind = p.behind }, rw e, omega arith)

part_short : (n : ℕ) (us : Terms ℕ) → size us < n → part n us ≡ fault 8
unfolding part size ◌>>=◌
part_short zero us h = absurd (omega arith)
part_short (suc n) none h = refl
part_short (suc n) (t then ts) h = rw (part_short n ts (omega arith))

-- What paper's row of terms and the count of them have in common: as many, or none of both, paper's refused by 8.
Same : Checked (Terms ℕ) → Option ℕ → Type 0
Same (says us) (Some n) = n ≡ size us
Same (says us) None = ⊥
Same (fault r) (Some n) = ⊥
Same (fault r) None = r ≡ 8

single_one : (us : Terms ℕ) → eqb (size us) 1 ≡ true → (t : Term ℕ) × (single us ≡ says t)
unfolding single size
single_one none e = absurd (omega (arith, eqb-true 0 1 e))
single_one (t then none) e = (t, refl)
single_one (t then (u then us)) e = absurd (omega (arith, eqb-true (suc (suc (size us))) 1 e))

single_not : (us : Terms ℕ) → eqb (size us) 1 ≡ false → single us ≡ fault 8
unfolding single size
single_not none e = refl
single_not (t then none) e = absurd (eqb-false 1 1 e refl)
single_not (t then (u then us)) e = refl

module _ (ar : List ℕ) (most : length ar ≤ 64) where
  before_size : (t : Token) (us : Terms ℕ) → permitted ar t ≡ true → Same (before ar t us) (closes ar (byte_of t) (size us))
  unfolding before permitted byte_of closes Same size ◌>>=◌
  before_size (variable x) us k = rw (le-ltb (64 + x) 64 (omega arith), closes) (omega arith)
  before_size (symbol f) us k =
      let low = lt-ltb f 64 (omega (arith, ltb-true f (length ar) k)) in
      elim (decided (leb (get_or ar f 0) (size us))) [
        | inl q ↦ let (p, e, g) = part_size (get_or ar f 0) us (leb-true _ _ q) in rw (low, q, e, closes) (omega arith)
        | inr q ↦ rw (low, q, part_short (get_or ar f 0) us (leb-false _ _ q), closes)
      ]

  terms_size : (ts : List Token) → all ts (permitted ar) ≡ true → Same (terms ar ts) (open_terms ar (map byte_of ts))
  unfolding terms all open_terms Same size ◌>>=◌
  terms_size [] e = refl
  terms_size (t ∷ ts) e =
      let (a, b) = (and-eq-true_iff (permitted ar t) (all ts (permitted ar))).0 e in
      go a (terms ar ts) (open_terms ar (map byte_of ts)) (terms_size ts b)
    where
      go : permitted ar t ≡ true → (j : Checked (Terms ℕ)) (k : Option ℕ) → Same j k → Same (j >>= before ar t) (elim k [ None ↦ None | Some n ↦ closes ar (byte_of t) n ])
      go a (says us) (Some n) e = rw e (before_size t us a)
      go a (says us) None e = absurd e
      go a (fault r) (Some n) e = absurd e
      go a (fault r) None e = e

  module _ (ts : List Token) (k : all ts (permitted ar) ≡ true) where
    -- 8: not one term.
    pub one_term : is_one (open_terms ar (map byte_of ts)) ≡ true → (t : Term ℕ) × (term_of ar ts ≡ says t)
    unfolding term_of is_one Same ◌>>=◌
    one_term e = go (terms ar ts) (open_terms ar (map byte_of ts)) (terms_size ts k) e
      where
        go : (j : Checked (Terms ℕ)) (k : Option ℕ) → Same j k → is_one k ≡ true → (t : Term ℕ) × ((j >>= single) ≡ says t)
        go (says us) (Some n) h e = single_one us (rw h at e)
        go (says us) None h e = absurd h
        go (fault r) (Some n) h e = absurd h
        go (fault r) None h e = absurd (false≢true e)

    pub not_term : is_one (open_terms ar (map byte_of ts)) ≡ false → term_of ar ts ≡ fault 8
    unfolding term_of is_one Same ◌>>=◌
    not_term e = go (terms ar ts) (open_terms ar (map byte_of ts)) (terms_size ts k) e
      where
        go : (j : Checked (Terms ℕ)) (k : Option ℕ) → Same j k → is_one k ≡ false → (j >>= single) ≡ fault 8
        go (says us) (Some n) h e = single_not us (rw h at e)
        go (says us) None h e = absurd h
        go (fault r) (Some n) h e = absurd h
        go (fault r) None h e = ap fault h

-- The variables of a term are those of its tokens.
vars : List Token → List ℕ
vars [] = []
vars (variable x ∷ ts) = x ∷ vars ts
vars (symbol f ∷ ts) = vars ts

vars_append : (ts us : List Token) → vars (ts ++ us) ≡ vars ts ++ vars us
unfolding vars
vars_append [] us = refl
vars_append (variable x ∷ ts) us = ap (λ xs. x ∷ xs) (vars_append ts us)
vars_append (symbol f ∷ ts) us = vars_append ts us

mutual
  unfolding vars preorder variables

  term_vars : (t : Term ℕ) → variables t ≡ vars (preorder t)
  term_vars (var x) = refl
  term_vars (node f ts) = row_vars ts

  row_vars : (ts : Terms ℕ) → variables_all ts ≡ vars (preorder_all ts)
  row_vars none = refl
  row_vars (t then ts) = rw (term_vars t, row_vars ts) (sym (vars_append (preorder t) (preorder_all ts)))

-- The variables' bytes begin at 64.
eqb_up : (x k : ℕ) → eqb (64 + x) (64 + k) ≡ eqb x k
eqb_up x k = elim (decided (eqb x k)) [
  | inl p ↦ rw (p, eq-eqb (64 + x) (64 + k) (omega (arith, eqb-true x k p)))
  | inr p ↦ rw (p, ne_eqb (64 + x) (64 + k) (λ e. eqb-false x k p (omega arith)))
]

step_variable : (x k : ℕ) → step_lined (64 + x) k ≡ elim (eqb x k) [ true ↦ Some (k + 1) | false ↦ None ]
unfolding step_lined
step_variable x k = rw (le-ltb (64 + x) 64 (omega arith), eqb_up x k, step_lined)

step_symbol : (f k : ℕ) → f < 64 → step_lined f k ≡ Some k
unfolding step_lined
step_symbol f k h = rw (lt-ltb f 64 h, step_lined)

ordered : Bool → ℕ → Option ℕ
ordered true n = Some n
ordered false n = None

known_variable : (v x : ℕ) → known v (64 + x) ≡ any (count_from 0 v) (eqb x)
known_variable v x = elim (decided (ltb (64 + x) (64 + v))) [
  | inl p ↦ rw p (sym ((listed_iff x (count_from 0 v)).1 (order_mem 0 v x (omega arith) (omega (arith, ltb-true (64 + x) (64 + v) p)))))
  | inr p ↦ rw p (elim (decided (any (count_from 0 v) (eqb x))) [
    | inl q ↦ absurd (omega (arith, mem_order 0 v ((listed_iff x (count_from 0 v)).0 q), ltb-false (64 + x) (64 + v) p))
    | inr q ↦ sym q
  ])
]

-- Listed tokens, over 64 symbols at most.
module _ (ar : List ℕ) (most : length ar ≤ 64) where
  listed_symbol : (f : ℕ) → permitted ar (symbol f) ≡ true → f < 64
  unfolding permitted
  listed_symbol f k = omega (arith, ltb-true f (length ar) k)

  -- Bytes are tokens.
  token_back : (t : Token) → permitted ar t ≡ true → token_of (byte_of t) ≡ t
  unfolding token_of byte_of
  token_back (symbol f) k = rw (lt-ltb f 64 (listed_symbol f k))
  token_back (variable x) k = let p : 64 + x - 64 ≡ x = omega arith in rw (le-ltb (64 + x) 64 (omega arith), p)

  pub tokens_back : (ts : List Token) → all ts (permitted ar) ≡ true → map token_of (map byte_of ts) ≡ ts
  unfolding all
  tokens_back [] e = refl
  tokens_back (t ∷ ts) e =
      let (a, b) = (and-eq-true_iff (permitted ar t) (all ts (permitted ar))).0 e in
      rw (token_back t a, tokens_back ts b)

  lined_vars : (ts : List Token) (k : ℕ) → all ts (permitted ar) ≡ true → lined k (map byte_of ts) ≡ ordered (same (vars ts) (count_from k (length (vars ts)))) (k + length (vars ts))
  unfolding ordered all byte_of vars count_from same lined
  lined_vars [] k e = ap Some (omega arith)
  lined_vars (symbol f ∷ ts) k e =
      let (a, b) = (and-eq-true_iff (permitted ar (symbol f)) (all ts (permitted ar))).0 e in
      rw (step_symbol f k (listed_symbol f a), lined) (lined_vars ts k b)
  lined_vars (variable x ∷ ts) k e =
      let (a, b) = (and-eq-true_iff (permitted ar (variable x)) (all ts (permitted ar))).0 e in
      elim (decided (eqb x k)) [
        | inl p ↦
            let q : k + 1 ≡ suc k = omega arith in
            let r : k + suc (length (vars ts)) ≡ suc k + length (vars ts) = omega arith in
            rw (step_variable x k, p, lined) (rw (q, r) (lined_vars ts (suc k) b))
        | inr p ↦ rw (step_variable x k, p, lined)
      ]

  known_vars : (v : ℕ) (ts : List Token) → all ts (permitted ar) ≡ true → list_all (known v) (map byte_of ts) ≡ all (vars ts) (λ x. any (count_from 0 v) (eqb x))
  unfolding all byte_of vars
  known_vars v [] e = refl
  known_vars v (symbol f ∷ ts) e =
      let (a, b) = (and-eq-true_iff (permitted ar (symbol f)) (all ts (permitted ar))).0 e in
      rw (lt-ltb f (64 + v) (omega (arith, listed_symbol f a))) (known_vars v ts b)
  known_vars v (variable x ∷ ts) e =
      let (a, b) = (and-eq-true_iff (permitted ar (variable x)) (all ts (permitted ar))).0 e in
      rw (known_variable v x, known_vars v ts b)

  module _ (t : Term ℕ) (k : all (preorder t) (permitted ar) ≡ true) where
    -- 9: bare, or not in order.
    pub bare_first : bare t ≡ leb 64 (get_or (side_of t) 0 0)
    unfolding bare side_of preorder byte_of all
    bare_first = go t k
      where
        go : (t : Term ℕ) → all (preorder t) (permitted ar) ≡ true → bare t ≡ leb 64 (get_or (map byte_of (preorder t)) 0 0)
        go (var x) k = sym (le-leb 64 (64 + x) (omega arith))
        go (node f ts) k =
            let (a, b) = (and-eq-true_iff (permitted ar (symbol f)) (all (preorder_all ts) (permitted ar))).0 k in
            sym (lt-leb 64 f (listed_symbol f a))

    in_line : lined 0 (side_of t) ≡ ordered (same (variables t) (count_from 0 (length (variables t)))) (0 + length (variables t))
    unfolding side_of
    in_line = rw (term_vars t) (lined_vars (preorder t) 0 k)

    few_variables : (v : ℕ) → variables t ≡ count_from 0 v → v ≤ 4
    few_variables v e = elim (decided (leb v 4)) [
      | inl p ↦ leb-true v 4 p
      | inr p ↦ absurd (omega (arith, ((tokens_exact ar t).0 k).1 4 (rw (← e) at (order_mem 0 v 4 (omega arith) (omega (arith, leb-false v 4 p))))))
    ]

    pub in_order : (v : ℕ) → lined 0 (side_of t) ≡ Some v → (same (variables t) (count_from 0 (length (variables t))) ≡ true) × (variables t ≡ count_from 0 v) × (v ≤ 4)
    unfolding ordered
    in_order v e = elim (decided (same (variables t) (count_from 0 (length (variables t))))) [
      | inl p ↦
          let f = rw p at (sym in_line ∙ e) in
          let n : 0 + length (variables t) ≡ v = cc in
          let q : variables t ≡ count_from 0 v = same_lists _ _ p ∙ ap (count_from 0) (omega arith) in
          (p, q, few_variables v q)
      | inr p ↦ let f = rw p at (sym in_line ∙ e) in let z : ◌≡◌ {A = ℕ} 0 1 = cc in absurd (omega arith)
    ]

    pub out_of_order : lined 0 (side_of t) ≡ None → same (variables t) (count_from 0 (length (variables t))) ≡ false
    unfolding ordered
    out_of_order e = elim (decided (same (variables t) (count_from 0 (length (variables t))))) [
      | inl p ↦ let f = rw p at (sym in_line ∙ e) in let z : ◌≡◌ {A = ℕ} 0 1 = cc in absurd (omega arith)
      | inr p ↦ p
    ]

    -- 10: a variable that the left side lacks.
    pub right_known : (l : Term ℕ) (v : ℕ) → variables l ≡ count_from 0 v → all (variables t) (λ x. any (variables l) (eqb x)) ≡ list_all (known v) (side_of t)
    unfolding side_of
    right_known l v e = rw (e, term_vars t) (sym (known_vars v (preorder t) k))
