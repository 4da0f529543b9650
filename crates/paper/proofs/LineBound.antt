-- There are at most 330 lines: no reader refuses on a line behind those that it may take, or behind the last.
use mathlib.Core.Path.{◌≡◌, refl}
use mathlib.Core.List.{List, [], ◌∷◌}
use Prim.Native.Nat.{ℕ, zero, suc, ◌+◌, ◌*◌, ◌≤◌, ◌<◌}
use Prim.Native.String.{String}
use native.Mathlib.Omega.{arith}
use Rattle.paper.specs.Limits.{most_transitions, most_rules, most_lines}
use Rattle.paper.specs.Certificate.{Kind, row, Trans, BadTrans, Rules}
use Rattle.paper.specs.Checked.{Checked, fault, says}
use Rattle.paper.specs.Lines.{Said, checked_line}
use Rattle.paper.specs.Tables.{single_number}
use Rattle.paper.specs.Format.{Reading, refused, gave, Reader, go_on, ◌>>=◌, ◌>>◌, give, at_line, line_of, fixed, times, rule, end, certificate}
use Rattle.paper.proofs.Admitted.{InRow, one_in, Reads, line_read, any_read}

-- The reader takes at most k lines, and refuses on one of k.
pub record AtMost {X : Type 0} (k : ℕ) (r : Reader X) : Type 0 where
  pub gives : (number : ℕ) (bs : List ℕ) (x : X) (L : ℕ) (rest : List ℕ) → r number bs ≡ gave x L rest → L ≤ number + k
  pub refuses : (number : ℕ) (bs : List ℕ) (n L : ℕ) → r number bs ≡ refused n L → L < number + k

lines_more : {X : Type 0} {i j : ℕ} {r : Reader X} → i ≤ j → AtMost i r → AtMost j r
lines_more l h = record { gives = λ number bs x L rest e. omega (arith, h.gives number bs x L rest e); refuses = λ number bs n L e. omega (arith, h.refuses number bs n L e) }

lines_line : {X : Type 0} (key : String) (judge : List ℕ → Checked X) → AtMost 1 (line_of key judge)
unfolding line_of at_line
lines_line {X} key judge = record { gives = λ number bs x L rest e. gives number (checked_line key judge bs) x L rest e; refuses = λ number bs n L e. refuses number (checked_line key judge bs) n L e }
  where
    gives : (number : ℕ) (j : Checked (Said X)) (x : X) (L : ℕ) (rest : List ℕ) → at_line number j ≡ gave x L rest → L ≤ number + 1
    gives number (fault m) x L rest e = let z : ◌≡◌ {A = ℕ} 0 1 = cc in absurd (omega arith)
    gives number (says s) x L rest e = let here : suc number ≡ L = cc in omega arith

    refuses : (number : ℕ) (j : Checked (Said X)) (n L : ℕ) → at_line number j ≡ refused n L → L < number + 1
    refuses number (fault m) n L e = let here : number ≡ L = cc in omega arith
    refuses number (says s) n L e = let z : ◌≡◌ {A = ℕ} 0 1 = cc in absurd (omega arith)

lines_give : {X : Type 0} (x : X) → AtMost 0 (give x)
unfolding give
lines_give x = record { gives = λ number bs y L rest e. let here : number ≡ L = cc in omega arith; refuses = λ number bs n L e. let z : ◌≡◌ {A = ℕ} 0 1 = cc in absurd (omega arith) }

module _ {X Y : Type 0} {P : X → Type 0} {i j : ℕ} (r : Reader X) (k : X → Reader Y) (reads : Reads P r) (h : AtMost i r) (g : (x : X) → P x → AtMost j (k x)) where
  lines_on : AtMost (i + j) (r >>= k)
  unfolding ◌>>=◌ go_on
  lines_on = record { gives = λ number bs y L rest e. gives number bs (r number bs) refl y L rest e; refuses = λ number bs n L e. refuses number bs (r number bs) refl n L e }
    where
      gives : (number : ℕ) (bs : List ℕ) (q : Reading X) → r number bs ≡ q → (y : Y) (L : ℕ) (rest : List ℕ) → go_on q k ≡ gave y L rest → L ≤ number + (i + j)
      gives number bs (refused n M) d y L rest e = let z : ◌≡◌ {A = ℕ} 0 1 = cc in absurd (omega arith)
      gives number bs (gave x M cs) d y L rest e = omega (arith, h.gives number bs x M cs d, (g x (reads number bs x M cs d)).gives M cs y L rest e)

      refuses : (number : ℕ) (bs : List ℕ) (q : Reading X) → r number bs ≡ q → (n L : ℕ) → go_on q k ≡ refused n L → L < number + (i + j)
      refuses number bs (refused m M) d n L e = let here : M ≡ L = cc in omega (arith, h.refuses number bs m M d)
      refuses number bs (gave x M cs) d n L e = omega (arith, h.gives number bs x M cs d, (g x (reads number bs x M cs d)).refuses M cs n L e)

lines_times : {X : Type 0} {i : ℕ} (n : ℕ) (r : Reader X) → AtMost i r → AtMost (n * i) (times n r)
unfolding times
lines_times zero r h = lines_more (omega arith) (lines_give [])
lines_times (suc n) r h = lines_more (omega arith) (lines_on r _ (any_read r) h (λ x u. lines_on (times n r) _ (any_read (times n r)) (lines_times n r h) (λ xs u. lines_give (x ∷ xs))))

lines_rule : (arities : List ℕ) → AtMost 2 (rule arities)
unfolding rule
lines_rule arities = lines_on _ _ (any_read _) (lines_line "l" _) (λ l u. lines_on _ _ (any_read _) (lines_line "r" _) (λ r u. lines_give _))

lines_end : {X : Type 0} (x : X) → AtMost 1 (end >> give x)
unfolding end ◌>>◌ go_on give
lines_end {X} x = record { gives = gives; refuses = refuses }
  where
    gives : (number : ℕ) (bs : List ℕ) (y : X) (L : ℕ) (rest : List ℕ) → (end >> give x) number bs ≡ gave y L rest → L ≤ number + 1
    gives number [] y L rest e = let here : number ≡ L = cc in omega arith
    gives number (b ∷ bs) y L rest e = let z : ◌≡◌ {A = ℕ} 0 1 = cc in absurd (omega arith)

    refuses : (number : ℕ) (bs : List ℕ) (n L : ℕ) → (end >> give x) number bs ≡ refused n L → L < number + 1
    refuses number [] n L e = let z : ◌≡◌ {A = ℕ} 0 1 = cc in absurd (omega arith)
    refuses number (b ∷ bs) n L e = let here : number ≡ L = cc in omega arith

-- A line of one number, of which a count is made.
count_read : (kind : Kind) → Reads (InRow kind) (fixed kind single_number)
unfolding fixed
count_read kind = line_read _ (one_in kind) _

pub certificate_lines : AtMost (suc most_lines) certificate
unfolding certificate fixed row
certificate_lines =
    lines_on _ _ (any_read _) (lines_line _ _) (λ budget u.
    lines_on _ _ (any_read _) (lines_line _ _) (λ arities u.
    lines_on _ _ (any_read _) (lines_line _ _) (λ n u.
    lines_on _ _ (any_read _) (lines_line _ _) (λ final u.
    lines_on _ _ (count_read Trans) (lines_line _ _) (λ count c.
    lines_on _ _ (any_read _) (lines_more {j = most_transitions} (omega arith) (lines_times count _ (lines_line "t" _))) (λ ts u.
    lines_on _ _ (any_read _) (lines_line _ _) (λ m u.
    lines_on _ _ (any_read _) (lines_line _ _) (λ badfinal u.
    lines_on _ _ (count_read BadTrans) (lines_line _ _) (λ badcount c.
    lines_on _ _ (any_read _) (lines_more {j = most_transitions} (omega arith) (lines_times badcount _ (lines_line "u" _))) (λ us u.
    lines_on _ _ (count_read Rules) (lines_line _ _) (λ rulecount c.
    lines_on _ _ (any_read _) (lines_more {j = most_rules + most_rules} (omega arith) (lines_times rulecount _ (lines_rule arities))) (λ rules u.
    lines_on _ _ (any_read _) (lines_line _ _) (λ merge u.
    lines_end _)))))))))))))
