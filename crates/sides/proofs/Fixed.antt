-- A side's line fixes what the code answers: two answers that a contract allows are equal, zeros included.
use mathlib.Core.Path.{◌≡◌, refl, sym, ap, ◌∙◌}
use mathlib.Core.List.{List, ◌∷◌}
use Prim.Native.Nat.{ℕ, zero, suc}
use lib.ListN.{length, take}
use Rattle.std.specs.Prelude.{Result}
use Rattle.theory.specs.Lists.{count_from}
use Rattle.theory.specs.Term.{Term, Terms, var, node, none, ◌then◌, variables, variables_all}
use Rattle.theory.specs.Preorder.{preorder}
use Rattle.theory.proofs.Count.{length_count}
use Rattle.tables.specs.Held.{side_of}
use Rattle.verdicts.specs.declared.refusals.Refusal.{Refusal}
use Rattle.fields.specs.declared.cursor.Cursor.{Cursor}
use Rattle.fields.specs.Padded.{padded}
use Rattle.fields.proofs.Fixed.{one_answer}
use Rattle.sides.specs.declared.Side.{Side}
use Rattle.sides.specs.Tokens.{side_term, WholeTokens, LeftSide, RightSide, LeftLine, RightLine}

-- A side is known by its term and the number of its variables.
one_side : (ar : List ℕ) (x y : Side) → WholeTokens ar x.tokens x.count → WholeTokens ar y.tokens y.count → side_term ar x ≡ side_term ar y → x.variables ≡ y.variables → x ≡ y
one_side ar x y p q e v =
    let many : x.count ≡ y.count = p.many ∙ ap (λ t. length (preorder t)) e ∙ sym q.many in
    let spelt : take x.count x.tokens ≡ take y.count y.tokens = p.are ∙ ap side_of e ∙ sym q.are in
    let tokens : x.tokens ≡ y.tokens = p.behind ∙ ap (padded 64) spelt ∙ sym q.behind in
    λ i. record { tokens = tokens i; count = many i; variables = v i }

pub one_left : (file ar : List ℕ) (c : Cursor) (a b : Result (Side × Cursor) Refusal) → LeftLine file ar c a → LeftLine file ar c b → a ≡ b
one_left file ar c = one_answer (side_term ar) (LeftSide ar) same file c.line _
  where
    same : (x y : Side) → LeftSide ar x → LeftSide ar y → side_term ar x ≡ side_term ar y → x ≡ y
    same x y s t e = one_side ar x y s.whole t.whole e (sym (length_count 0 x.variables) ∙ ap length (sym s.counted ∙ ap variables e ∙ t.counted) ∙ length_count 0 y.variables)

-- There is a left side for every number of variables.
variables_from : ℕ → ℕ → Terms ℕ
variables_from n zero = none
variables_from n (suc k) = var n then variables_from (suc n) k

in_order : (n k : ℕ) → variables_all (variables_from n k) ≡ count_from n k
unfolding variables variables_all variables_from count_from
in_order n zero = refl
in_order n (suc k) = ap (λ (l : List ℕ). n ∷ l) (in_order (suc n) k)

pub one_right : (file ar : List ℕ) (c : Cursor) (a b : Result (Side × Cursor) Refusal) (v : ℕ) → RightLine file ar c v a → RightLine file ar c v b → a ≡ b
one_right file ar c a b v p q =
    let l : Term ℕ = node 0 (variables_from 0 v) in
    let h : variables l ≡ count_from 0 v = unfold variables in (in_order 0 v) in
    one_answer (side_term ar) (RightSide ar v) (λ x y s t e. one_side ar x y s.whole t.whole e (s.carried ∙ sym t.carried)) file c.line _ a b
    (record { said = p.said l h; whole = p.whole }) (record { said = q.said l h; whole = q.whole })
