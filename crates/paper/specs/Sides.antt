-- The lines of terms, with the refusals 4, 5, 6, 8, 9 and 10.
use Rattle.std.specs.Prelude.{Bool, true, false, ◌&&◌, not, List, [], ◌∷◌, ℕ, zero, suc, eqb, leb, ltb, length, get_or}
use Rattle.theory.specs.Lists.{count_from, any}
use Rattle.theory.specs.Term.{Term, Terms, var, node, none, ◌then◌, variables}
use Rattle.theory.specs.Preorder.{Token, symbol, variable}
use Rattle.paper.specs.Limits.{most_tokens, last_variable}
use Rattle.paper.specs.Checked.{Checked, fault, says, ◌>>=◌, ◌>>◌, ◌unless◌}
use Rattle.paper.specs.Fields.{all, each, entries, token}

-- The token's symbol is listed, or its variable is x0 to x3.
unfoldable pub permitted : List ℕ → Token → Bool
permitted arities (symbol f) = ltb f (length arities)
permitted arities (variable x) = leb x last_variable

-- The first terms of a row, and the row behind them.
pub record Parts : Type 0 where
  pub front : Terms ℕ
  pub behind : Terms ℕ

-- The first n terms of a row. 8: there are fewer.
unfoldable pub part : ℕ → Terms ℕ → Checked Parts
part zero ts = says (record { front = none; behind = ts })
part (suc n) none = fault 8
part (suc n) (t then ts) = do
  p ← part n ts
  says (record { front = t then p.front; behind = p.behind })

-- A token put before a row of terms: a symbol takes as many of them as its arity says.
unfoldable pub before : List ℕ → Token → Terms ℕ → Checked (Terms ℕ)
before arities (variable x) ts = says (var x then ts)
before arities (symbol f) ts = do
  p ← part (get_or arities f 0) ts
  says (node f p.front then p.behind)

-- The row of terms that the tokens write in preorder.
unfoldable pub terms : List ℕ → List Token → Checked (Terms ℕ)
terms arities [] = says none
terms arities (t ∷ ts) = do
  us ← terms arities ts
  before arities t us

-- The row is one term. 8: it is none or more.
unfoldable pub single : Terms ℕ → Checked (Term ℕ)
single none = fault 8
single (t then none) = says t
single (t then (u then us)) = fault 8

-- The term that the tokens write. 8: they end before the term does, or run on after it.
unfoldable pub term_of : List ℕ → List Token → Checked (Term ℕ)
term_of arities ts = do
  us ← terms arities ts
  single us

-- A term. 4: not tokens; 5: a symbol not listed, or a variable above 3; 6: over 24 tokens; 8: not one term.
unfoldable pub term : List ℕ → List ℕ → Checked (Term ℕ)
term arities value = do
  ts ← each token (entries value)
  5 unless all ts (permitted arities)
  6 unless leb (length ts) most_tokens
  term_of arities ts

-- The lists are equal.
unfoldable pub same : List ℕ → List ℕ → Bool
same [] [] = true
same [] (y ∷ ys) = false
same (x ∷ xs) [] = false
same (x ∷ xs) (y ∷ ys) = eqb x y && same xs ys

-- The term is a bare variable.
unfoldable pub bare : Term ℕ → Bool
bare (var x) = true
bare (node f ts) = false

-- A left side. 9: a bare variable, or its variables not x0, x1, .. once each.
unfoldable pub left_side : List ℕ → List ℕ → Checked (Term ℕ)
left_side arities value = do
  l ← term arities value
  9 unless (not (bare l) && same (variables l) (count_from 0 (length (variables l))))
  says l

-- A right side. 10: a variable that the left side lacks.
unfoldable pub right_side : List ℕ → Term ℕ → List ℕ → Checked (Term ℕ)
right_side arities l value = do
  r ← term arities value
  10 unless all (variables r) (λ x. any (variables l) (eqb x))
  says r
