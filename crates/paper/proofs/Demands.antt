-- The theorems of the scope for every file.
use mathlib.Core.Path.{◌≡◌, refl, sym, ◌∙◌}
use mathlib.Core.Logic.{◌↔◌}
use mathlib.Core.List.{List}
use mathlib.Core.Option.{Option}
use Prim.Native.Nat.{ℕ, suc, ◌+◌, ◌≤◌}
use native.Mathlib.Omega.{arith}
use lib.ListN.{take}
use Rattle.theory.specs.Term.{Tree}
use Rattle.theory.specs.Preorder.{Ground}
use Rattle.theory.specs.Rewriting.{Rewrites, Safe}
use Rattle.theory.specs.Automaton.{Automaton, Reaches, Accepts, classes, merged}
use Rattle.theory.specs.Critical.{Acritical, Share, Suitable}
use Rattle.theory.proofs.Safety.{complete}
use Rattle.theory.proofs.Ranked.{FitsAll, reached_ground, merged_fits}
use Rattle.paper.specs.Limits.{most_budget}
use Rattle.paper.specs.Certificate.{Certificate}
use Rattle.paper.specs.Format.{File, unreadable, holds, read_file}
use Rattle.paper.specs.Meaning.{malformed, unsuitable, critical, accepted, stopped, Verdict, examined, total, place_of, SharingMeans, ClosureMeans, Means, Given}
use Rattle.paper.specs.Computed.{verdict_on, verdict_of}
use Rattle.paper.specs.WellFormed.{GoodAutomaton}
use Rattle.paper.proofs.First.{first_count}
use Rattle.paper.proofs.Exact.{verdict_exact, accepted_safe}
use Rattle.paper.proofs.Admitted.{admitted}
use Rattle.paper.proofs.Bounds.{total_most}

-- Demand 2: a file that holds a certificate has the verdict v exactly when v's row of the table holds of the certificate.
pub given_exactly : (file : List ℕ) (c : Certificate) → read_file file ≡ holds c → (v : Verdict) → (verdict_of file ≡ v) ↔ Given c v
unfolding verdict_of verdict_on
given_exactly file c e v = rw e (verdict_exact c (admitted file c e) v)

-- Two verdicts that the table allows are equal.
pub one_verdict : (file : List ℕ) (c : Certificate) → read_file file ≡ holds c → (v w : Verdict) → Given c v → Given c w → v ≡ w
one_verdict file c e v w g h = sym ((given_exactly file c e v).1 g) ∙ (given_exactly file c e w).1 h

-- A file is malformed, by that number and on that line, exactly when it is refused so.
pub malformed_exactly : (file : List ℕ) (number : ℕ) (line : Option ℕ) → (verdict_of file ≡ malformed number line) ↔ (read_file file ≡ unreadable number line)
unfolding verdict_of verdict_on Given Means
malformed_exactly file number line = (back (read_file file) refl, λ e. rw e)
  where
    back : (f : File) → read_file file ≡ f → verdict_on f ≡ malformed number line → f ≡ unreadable number line
    back (unreadable n l) r e = let same : n ≡ number = cc in let here : l ≡ line = cc in cc
    back (holds c) r e = absurd ((verdict_exact c (admitted file c r) (malformed number line)).0 e)

-- Demand 3: an accepted file's system is safe: no rewriting leads from a tree that A accepts to a tree that B accepts.
pub accepted_is_safe : (file : List ℕ) (n : ℕ) → verdict_of file ≡ accepted n → (c : Certificate) → read_file file ≡ holds c → Safe c.A c.rules c.B
unfolding verdict_of verdict_on
accepted_is_safe file n e c r = accepted_safe c (admitted file c r) n (rw r at e)

-- Closure: without a critical pair, whatever the rules make of a tree that A accepts is accepted by the merged automaton.
pub closed_under_rewriting : (file : List ℕ) (c : Certificate) → read_file file ≡ holds c → Acritical (merged c.merge c.A) c.rules → (s t : Tree)
    → Accepts c.A s → Rewrites c.rules s t → Accepts (merged c.merge c.A) t
closed_under_rewriting file c e a = complete c.merge c.A c.rules (λ rule m. ((admitted file c e).rules rule m).shaped) a

all_fit : (arities : List ℕ) (A : Automaton) → GoodAutomaton arities A → FitsAll arities A
all_fit arities A g t m = record { listed = (g.transitions t m).symbol; full = (g.transitions t m).count }

-- What an automaton of a file reaches is a ground term of the scope: the merged automaton (so A too), and B.
pub ground_merged : (file : List ℕ) (c : Certificate) → read_file file ≡ holds c → (t : Tree) (q : ℕ) → Reaches (merged c.merge c.A) t q → Ground c.arities t
ground_merged file c e t q d = reached_ground c.arities _ (merged_fits c.merge c.arities c.A (all_fit c.arities c.A (admitted file c e).A)) d

pub ground_B : (file : List ℕ) (c : Certificate) → read_file file ≡ holds c → (t : Tree) (p : ℕ) → Reaches c.B t p → Ground c.arities t
ground_B file c e t p d = reached_ground c.arities c.B (all_fit c.arities c.B (admitted file c e).B) d

-- So the tree that an unsuitable merging shares with B is one.
pub shared_ground : (file : List ℕ) (c : Certificate) → read_file file ≡ holds c → (q p : ℕ) → verdict_of file ≡ unsuitable q p
    → (t : Tree) × Ground c.arities t × Reaches (merged c.merge c.A) t q × Reaches c.B t p
unfolding Given Means SharingMeans Share
shared_ground file c e q p v =
    let (least, pair) = (given_exactly file c e (unsuitable q p)).0 v in
    let (t, d, f) = pair.itself.shared in
    (t, ground_B file c e t p f, d, f)

means_within : (c : Certificate) (v : Verdict) → Given c v → examined v ≤ c.budget
unfolding Given Means ClosureMeans examined
means_within c (malformed number line) m = absurd m
means_within c (unsuitable class bad) m = omega arith
means_within c (critical rule xs class n) m = m.1.1
means_within c (accepted n) m = omega (arith, m.1.1, m.1.2)
means_within c (stopped n) m = omega (arith, m.1.2)

-- The examined count never exceeds the budget.
pub within_budget : (file : List ℕ) (c : Certificate) → read_file file ≡ holds c → examined (verdict_of file) ≤ c.budget
within_budget file c e = means_within c (verdict_of file) ((given_exactly file c e (verdict_of file)).0 refl)

-- The row of the table for accepted, written out.
pub accepted_exactly : (file : List ℕ) (c : Certificate) → read_file file ≡ holds c → (n : ℕ) → (verdict_of file ≡ accepted n)
    ↔ (Suitable (merged c.merge c.A) c.B × Acritical (merged c.merge c.A) c.rules × (total (classes c.merge) c.rules ≤ c.budget)
    × (n ≡ total (classes c.merge) c.rules))
unfolding Given Means ClosureMeans merged
accepted_exactly file c e n = (λ v. let (s, (a, l, m)) = (given_exactly file c e (accepted n)).0 v in (s, a, l, m), λ (s, a, l, m). (given_exactly file c e (accepted n)).1 (s, (a, l, m)))

-- The count of a critical verdict: the earlier rules' powers of k, and the substitution's place in its rule, from 1.
pub critical_count : (file : List ℕ) (c : Certificate) → read_file file ≡ holds c → (rule : ℕ) (xs : List ℕ) (class n : ℕ) → verdict_of file ≡ critical rule xs class n
    → n ≡ total (classes c.merge) (take rule c.rules) + suc (place_of (classes c.merge) xs)
unfolding Given Means ClosureMeans merged
critical_count file c e rule xs class n v = first_count (merged c.merge c.A) c.rules ((given_exactly file c e (critical rule xs class n)).0 v).1.0

-- The total's largest value is 32 x 1,048,576 = 33,554,432, the largest budget.
pub total_bound : (file : List ℕ) (c : Certificate) → read_file file ≡ holds c → total (classes c.merge) c.rules ≤ most_budget
total_bound file c e = total_most c (admitted file c e)
