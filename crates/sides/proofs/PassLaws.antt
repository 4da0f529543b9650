-- The passes over a term's tokens, turn by turn.
use Rattle.std.proofs.Common.{◌≡◌, ℕ, zero, suc, ◌+◌, ◌-◌, ◌≤◌, ◌<◌, List, [], ◌∷◌, length, drop, get_or, reverse, Option, Some, None, sym, ap, ◌∙◌, arith}
use Rattle.std.proofs.lemmas.List.{at_drop_more, at_drop_all, get_or-reverse, length-reverse}
use Rattle.sides.specs.Tokens.{closes, open_terms, step_lined, lined}

pub closes_most : (ar : List ℕ) (c n m : ℕ) → Some m ≡ closes ar c n → m ≤ n + 1
unfolding closes
closes_most ar c n m e = grind arith

-- No terms before more tokens.
pub open_none : (ar cs : List ℕ) (i : ℕ) → open_terms ar (drop i cs) ≡ None → open_terms ar cs ≡ None
unfolding open_terms
open_none ar cs zero e = e
open_none ar [] (suc i) e = e
open_none ar (c ∷ cs) (suc i) e = rw (open_none ar cs i e)

-- One token before terms.
open_before : (ar cs : List ℕ) (c n : ℕ) → open_terms ar cs ≡ Some n → open_terms ar (c ∷ cs) ≡ closes ar c n
unfolding open_terms
open_before ar cs c n e = rw e

-- The token that a pass from the right meets behind k others.
pub open_back : (ar cs : List ℕ) (k c n : ℕ) (o : Option ℕ) → (k < length (reverse cs)) × (c ≡ get_or (reverse cs) k c) → open_terms ar (drop (length cs - k) cs) ≡ Some n
    → o ≡ closes ar c n → open_terms ar (drop (length cs - (k + 1)) cs) ≡ o
open_back ar cs k c n o t e f =
    let inside : k < length cs = omega (arith, t.0, length-reverse cs) in
    let place : length cs - 1 - k ≡ length cs - (k + 1) = omega arith in
    let token : get_or cs (length cs - (k + 1)) c ≡ c = ap (λ i. get_or cs i c) (sym place) ∙ sym (t.1 ∙ get_or-reverse cs k c inside) in
    let behind : length cs - (k + 1) + 1 ≡ length cs - k = omega arith in
    at_drop_more (open_terms ar) cs (length cs - (k + 1)) c (omega arith)
    ∙ open_before ar (drop (length cs - (k + 1) + 1) cs) (get_or cs (length cs - (k + 1)) c) n (rw behind e) ∙ ap (λ x. closes ar x n) token ∙ sym f

pub step_most : (c v w : ℕ) → Some w ≡ step_lined c v → w ≤ v + 1
unfolding step_lined
step_most c v w e = grind arith

-- The next token that a pass from the left meets.
pub lined_more : (cs : List ℕ) (v i : ℕ) → i < length cs → lined v (drop i cs) ≡ elim (step_lined (get_or cs i 0) v) [ Some w ↦ lined w (drop (i + 1) cs) | None ↦ None ]
unfolding lined
lined_more cs v i h = at_drop_more (lined v) cs i 0 h

pub lined_all : (cs : List ℕ) (v i : ℕ) → length cs ≤ i → lined v (drop i cs) ≡ Some v
unfolding lined
lined_all cs v i h = at_drop_all (lined v) cs i h
