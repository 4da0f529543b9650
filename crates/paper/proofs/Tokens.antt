-- The test of a term's tokens is a range for its symbols and one for its variables.
use mathlib.Core.Path.{◌≡◌, refl}
use mathlib.Core.Logic.{inl, inr, ◌↔◌}
use mathlib.Core.Bool.{Bool, true, and-eq-true_iff}
use mathlib.Core.List.Memᴰ
use mathlib.Core.List.{List, [], ◌∷◌, ◌++◌, Memᴰ}
use Prim.Native.Nat.{ℕ, ◌≤◌, ◌<◌}
use lib.Dec.{leb, ltb}
use lib.ListN.{length}
use borrow.Author.Tests.{leb-true, ltb-true, le-leb, lt-ltb}
use Rattle.theory.specs.Term.{Term, Terms, var, node, none, ◌then◌, variables, variables_all, symbols, symbols_all}
use Rattle.theory.specs.Preorder.{preorder, preorder_all}
use Rattle.theory.proofs.Nth.{all_cons}
use Rattle.paper.specs.Limits.{last_variable}
use Rattle.paper.specs.Fields.{all}
use Rattle.paper.specs.Sides.{permitted}

-- A test of all elements is a test of each.
pub all_mem : {Y : Type 0} (test : Y → Bool) (ys : List Y) → all ys test ≡ true → (y : Y) → Memᴰ y ys → test y ≡ true
unfolding all
all_mem test [] e y m = elim m [ ]
all_mem test (x ∷ ys) e y (Memᴰ.head h) = rw h ((and-eq-true_iff (test x) (all ys test)).0 e).0
all_mem test (x ∷ ys) e y (Memᴰ.tail m) = all_mem test ys ((and-eq-true_iff (test x) (all ys test)).0 e).1 y m

pub mem_all : {Y : Type 0} (test : Y → Bool) (ys : List Y) → ((y : Y) → Memᴰ y ys → test y ≡ true) → all ys test ≡ true
unfolding all
mem_all test [] h = refl
mem_all test (y ∷ ys) h = (and-eq-true_iff (test y) (all ys test)).1 (h y (Memᴰ.head refl), mem_all test ys (λ z m. h z (Memᴰ.tail m)))

-- The symbols are listed, and the variables are x0 to x3.
record Fit (arities fs xs : List ℕ) : Type 0 where
  symbols : (f : ℕ) → Memᴰ f fs → f < length arities
  variables : (x : ℕ) → Memᴰ x xs → x ≤ last_variable

module _ (arities : List ℕ) where
  fit_nil : Fit arities [] []
  fit_nil = record { symbols = λ f m. absurd (Memᴰ.not-nil m); variables = λ x m. absurd (Memᴰ.not-nil m) }

  fit_append : (fs gs xs ys : List ℕ) → Fit arities fs xs → Fit arities gs ys → Fit arities (fs ++ gs) (xs ++ ys)
  fit_append fs gs xs ys v w = record {
    symbols = λ f m. elim (Memᴰ.append_cases fs m) [ inl i ↦ v.symbols f i | inr i ↦ w.symbols f i ];
    variables = λ x m. elim (Memᴰ.append_cases xs m) [ inl i ↦ v.variables x i | inr i ↦ w.variables x i ];
  }

  mutual
    unfolding preorder variables symbols permitted all

    to : (t : Term ℕ) → all (preorder t) (permitted arities) ≡ true → Fit arities (symbols t) (variables t)
    to (var y) e = record { symbols = λ f m. absurd (Memᴰ.not-nil m); variables = all_cons (leb-true y last_variable ((and-eq-true_iff (leb y last_variable) true).0 e).0) fit_nil.variables }
    to (node g ts) e =
        let (h, hs) = (and-eq-true_iff (ltb g (length arities)) (all (preorder_all ts) (permitted arities))).0 e in
        let w = to_all ts hs in
        record { symbols = all_cons (ltb-true g (length arities) h) w.symbols; variables = w.variables }

    to_all : (ts : Terms ℕ) → all (preorder_all ts) (permitted arities) ≡ true → Fit arities (symbols_all ts) (variables_all ts)
    to_all none e = fit_nil
    to_all (t then ts) e =
        let each = all_mem (permitted arities) (preorder t ++ preorder_all ts) e in
        fit_append (symbols t) (symbols_all ts) (variables t) (variables_all ts)
        (to t (mem_all (permitted arities) (preorder t) (λ k m. each k (Memᴰ.append_left (preorder_all ts) m))))
        (to_all ts (mem_all (permitted arities) (preorder_all ts) (λ k m. each k (Memᴰ.append_right (preorder t) m))))

  mutual
    unfolding preorder variables symbols permitted all

    from : (t : Term ℕ) → Fit arities (symbols t) (variables t) → all (preorder t) (permitted arities) ≡ true
    from (var y) w = (and-eq-true_iff (leb y last_variable) true).1 (le-leb y last_variable (w.variables y (Memᴰ.head refl)), refl)
    from (node g ts) w =
        (and-eq-true_iff (ltb g (length arities)) (all (preorder_all ts) (permitted arities))).1
        (lt-ltb g (length arities) (w.symbols g (Memᴰ.head refl)), from_all ts (record { symbols = λ f m. w.symbols f (Memᴰ.tail m); variables = w.variables }))

    from_all : (ts : Terms ℕ) → Fit arities (symbols_all ts) (variables_all ts) → all (preorder_all ts) (permitted arities) ≡ true
    from_all none w = refl
    from_all (t then ts) w =
        let a = from t (record { symbols = λ f m. w.symbols f (Memᴰ.append_left (symbols_all ts) m); variables = λ x m. w.variables x (Memᴰ.append_left (variables_all ts) m) }) in
        let b = from_all ts (record { symbols = λ f m. w.symbols f (Memᴰ.append_right (symbols t) m); variables = λ x m. w.variables x (Memᴰ.append_right (variables t) m) }) in
        mem_all (permitted arities) (preorder t ++ preorder_all ts)
        (λ k m. elim (Memᴰ.append_cases (preorder t) m) [ inl i ↦ all_mem (permitted arities) (preorder t) a k i | inr i ↦ all_mem (permitted arities) (preorder_all ts) b k i ])

  pub tokens_exact : (t : Term ℕ) → (all (preorder t) (permitted arities) ≡ true)
      ↔ (((f : ℕ) → Memᴰ f (symbols t) → f < length arities) × ((x : ℕ) → Memᴰ x (variables t) → x ≤ last_variable))
  tokens_exact t = (λ e. let w = to t e in (w.symbols, w.variables), λ (a, b). from t (record { symbols = a; variables = b }))
