-- The two questions on bytes: each answer exactly when it holds, the whole verdict put together from the two, and what closed promises.
use mathlib.Core.Path.{◌≡◌, refl}
use mathlib.Core.Logic.{◌⊎◌, inl, inr, ◌↔◌}
use mathlib.Core.List.{List}
use mathlib.Core.Option.{Option}
use Prim.Native.Nat.{ℕ, suc, ◌+◌, ◌≤◌}
use native.Mathlib.Omega.{arith}
use lib.ListN.{take}
use Rattle.theory.specs.Term.{Tree}
use Rattle.theory.specs.Rewriting.{Rewrites}
use Rattle.theory.specs.Automaton.{Accepts, classes, merged}
use Rattle.theory.specs.Critical.{Acritical, Suitable}
use Rattle.paper.specs.Certificate.{Certificate}
use Rattle.paper.specs.Format.{File, unreadable, holds, Refusal, read_file}
use Rattle.paper.specs.Meaning.{Sharing, Closure, Asked, together, total, place_of, SharingMeans, ClosureMeans, SharingGiven, ClosureGiven}
use Rattle.paper.specs.Computed.{judge, verdict, sharing_in, closure_in, verdict_on, asked, verdict_of, sharing_of, closure_of}
use Rattle.paper.proofs.First.{first_count}
use Rattle.paper.proofs.Exact.{sharing_given, closure_given}
use Rattle.paper.proofs.Admitted.{admitted}
use Rattle.paper.proofs.Refused.{refused_or_holds}
use Rattle.paper.proofs.Demands.{closed_under_rewriting}

-- Any question: a file that holds c gets the answer on c ..
module _ {Answer : Type 0} (question : Certificate → Answer) (file : List ℕ) where
  asked_holds : (c : Certificate) → read_file file ≡ holds c → (a : Answer) → (asked question (read_file file) ≡ Asked.answered a) ↔ (question c ≡ a)
  unfolding asked
  asked_holds c e a = (λ h. let is : ◌≡◌ {A = Asked Answer} (Asked.answered (question c)) (Asked.answered a) = rw (e, asked) at h in cc, λ h. rw (e, asked, h))

  -- .. so it gets that answer exactly when M holds, if the question on c has it exactly when M holds, ..
  asked_exactly : {M : Type 0} (c : Certificate) → read_file file ≡ holds c → (a : Answer) → (question c ≡ a) ↔ M → (asked question (read_file file) ≡ Asked.answered a) ↔ M
  asked_exactly c e a (means, is) = let (to, from) = asked_holds c e a in (λ h. means (to h), λ g. from (is g))

  -- .. and is refused, by that number and on that line, exactly when the file is.
  asked_refused : (number : ℕ) (line : Option ℕ) → (asked question (read_file file) ≡ Asked.refused number line) ↔ (read_file file ≡ unreadable number line)
  unfolding asked
  asked_refused number line = (back (read_file file), λ e. rw e)
    where
      back : (f : File) → asked question f ≡ Asked.refused number line → f ≡ unreadable number line
      back (unreadable n l) e = let same : n ≡ number = cc in let here : l ≡ line = cc in cc
      back (holds c) e = let z : ◌≡◌ {A = ℕ} 0 1 = cc in absurd (omega arith)

  -- Every file is refused, by 2 without a line or by 3 to 11 on a line, or holds a certificate and gets the answer on it.
  asked_answers : ((number : ℕ) × (line : Option ℕ) × (asked question (read_file file) ≡ Asked.refused number line) × Refusal number line)
      ⊎ ((c : Certificate) × (read_file file ≡ holds c) × (asked question (read_file file) ≡ Asked.answered (question c)))
  asked_answers = elim (refused_or_holds file) [
    | inl (number, line, e, r) ↦ inl (number, line, (asked_refused number line).1 e, r)
    | inr (c, e) ↦ inr (c, e, (asked_holds c e (question c)).1 refl)
  ]

-- The first question: a file that holds a certificate is answered by s exactly when s is what there is of final pairs that share a tree.
pub sharing_exactly : (file : List ℕ) (c : Certificate) → read_file file ≡ holds c → (s : Sharing) → (sharing_of file ≡ Asked.answered s) ↔ SharingGiven c s
unfolding sharing_of
sharing_exactly file c e s = asked_exactly sharing_in file c e s (sharing_given c (admitted file c e) s)

-- The second: it is answered by k exactly when k is what there is of critical pairs within the budget, whether the merging is suitable or not.
pub closure_exactly : (file : List ℕ) (c : Certificate) → read_file file ≡ holds c → (k : Closure) → (closure_of file ≡ Asked.answered k) ↔ ClosureGiven c k
unfolding closure_of
closure_exactly file c e k = asked_exactly closure_in file c e k (closure_given c (admitted file c e) k)

-- Each is refused, by that number and on that line, exactly when the file is ..
pub sharing_refused : (file : List ℕ) (number : ℕ) (line : Option ℕ) → (sharing_of file ≡ Asked.refused number line) ↔ (read_file file ≡ unreadable number line)
unfolding sharing_of
sharing_refused file = asked_refused sharing_in file

pub closure_refused : (file : List ℕ) (number : ℕ) (line : Option ℕ) → (closure_of file ≡ Asked.refused number line) ↔ (read_file file ≡ unreadable number line)
unfolding closure_of
closure_refused file = asked_refused closure_in file

-- .. and every file is refused, by 2 without a line or by 3 to 11 on a line, or answered.
pub sharing_answers : (file : List ℕ) → ((number : ℕ) × (line : Option ℕ) × (sharing_of file ≡ Asked.refused number line) × Refusal number line)
    ⊎ ((c : Certificate) × (read_file file ≡ holds c) × (sharing_of file ≡ Asked.answered (sharing_in c)))
unfolding sharing_of
sharing_answers file = asked_answers sharing_in file

pub closure_answers : (file : List ℕ) → ((number : ℕ) × (line : Option ℕ) × (closure_of file ≡ Asked.refused number line) × Refusal number line)
    ⊎ ((c : Certificate) × (read_file file ≡ holds c) × (closure_of file ≡ Asked.answered (closure_in c)))
unfolding closure_of
closure_answers file = asked_answers closure_in file

-- The whole verdict is put together from the two.
pub put_together : (file : List ℕ) → verdict_of file ≡ together (sharing_of file) (closure_of file)
unfolding verdict_of sharing_of closure_of together verdict_on asked verdict judge sharing_in closure_in
put_together file = go (read_file file)
  where
    go : (f : File) → verdict_on f ≡ together (asked sharing_in f) (asked closure_in f)
    go (unreadable number line) = refl
    go (holds c) = refl

-- No final pair is named exactly when the merging is suitable ..
pub nothing_exactly : (file : List ℕ) (c : Certificate) → read_file file ≡ holds c → (sharing_of file ≡ Asked.answered Sharing.nothing) ↔ Suitable (merged c.merge c.A) c.B
unfolding SharingGiven SharingMeans
nothing_exactly file c e = sharing_exactly file c e Sharing.nothing

-- .. and closed is said, with the total as count, exactly when there is no critical pair and the budget covers every substitution.
pub closed_exactly : (file : List ℕ) (c : Certificate) → read_file file ≡ holds c → (n : ℕ) → (closure_of file ≡ Asked.answered (Closure.closed n))
    ↔ (Acritical (merged c.merge c.A) c.rules × (total (classes c.merge) c.rules ≤ c.budget) × (n ≡ total (classes c.merge) c.rules))
unfolding ClosureGiven ClosureMeans merged
closed_exactly file c e n = closure_exactly file c e (Closure.closed n)

-- Closed promises closure: every tree that A accepts, rewritten any number of times, is accepted by the merged automaton. Nothing is said of B.
pub closed_closes : (file : List ℕ) (n : ℕ) → closure_of file ≡ Asked.answered (Closure.closed n) → (c : Certificate) → read_file file ≡ holds c → (s t : Tree)
    → Accepts c.A s → Rewrites c.rules s t → Accepts (merged c.merge c.A) t
closed_closes file n e c r = closed_under_rewriting file c r ((closed_exactly file c r n).0 e).0

-- The count of a critical pair: the earlier rules' powers of k, and the substitution's place in its rule, from 1.
pub pair_count : (file : List ℕ) (c : Certificate) → read_file file ≡ holds c → (rule : ℕ) (xs : List ℕ) (class n : ℕ)
    → closure_of file ≡ Asked.answered (Closure.critical rule xs class n)
    → n ≡ total (classes c.merge) (take rule c.rules) + suc (place_of (classes c.merge) xs)
unfolding ClosureGiven ClosureMeans merged
pair_count file c e rule xs class n k = first_count (merged c.merge c.A) c.rules ((closure_exactly file c e (Closure.critical rule xs class n)).0 k).0
