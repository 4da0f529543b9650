-- The five verdicts and the answers to the two questions they are put together from, and when each is given: the scope's table, in the words of Boichut, Hugot and Boiret.
use Rattle.std.specs.Prelude.{◌≡◌, ◌⊎◌, ℕ, suc, ◌+◌, ◌*◌, ◌^◌, ◌≤◌, ◌<◌, length, take}
use mathlib.Core.List.{List, [], ◌∷◌, Memᴰ}
use Rattle.std.proofs.Math.Option.{Option}
use Rattle.theory.specs.Rewriting.{Rule, variable_count}
use Rattle.theory.specs.Automaton.{Automaton, merged}
use Rattle.theory.specs.Critical.{CriticalPair, Acritical, Share, Suitable}
use Rattle.paper.specs.Certificate.{Certificate}

-- Each with what the answer says of it.
pub data Verdict : Type 0 where
  malformed : (number : ℕ) → (line : Option ℕ) → Verdict
  unsuitable : (class bad : ℕ) → Verdict
  critical : (rule : ℕ) → (xs : List ℕ) → (class examined : ℕ) → Verdict
  accepted : (examined : ℕ) → Verdict
  stopped : (examined : ℕ) → Verdict

-- The first question, does a final pair share a tree: the first such pair, or nothing.
pub data Sharing : Type 0 where
  shared : (class bad : ℕ) → Sharing
  nothing : Sharing

-- The second, is there a critical pair within the budget: the first, or none at all, or none as far as the budget goes; each with its count.
pub data Closure : Type 0 where
  critical : (rule : ℕ) → (xs : List ℕ) → (class examined : ℕ) → Closure
  closed : (examined : ℕ) → Closure
  stopped : (examined : ℕ) → Closure

-- A question asked of a file: the refusal with its line, or the answer.
pub data Asked (Answer : Type 0) : Type 0 where
  refused : (number : ℕ) → (line : Option ℕ) → Asked Answer
  answered : Answer → Asked Answer

-- The whole verdict, put together from the two.
unfoldable pub whole : Sharing → Closure → Verdict
whole (Sharing.shared class bad) k = unsuitable class bad
whole Sharing.nothing (Closure.critical rule xs class n) = critical rule xs class n
whole Sharing.nothing (Closure.closed n) = accepted n
whole Sharing.nothing (Closure.stopped n) = stopped n

-- The same of a file; both questions refuse the same files.
unfoldable pub together : Asked Sharing → Asked Closure → Verdict
together (Asked.refused number line) k = malformed number line
together (Asked.answered s) (Asked.refused number line) = malformed number line
together (Asked.answered s) (Asked.answered k) = whole s k

-- The examined count of a verdict; a malformed file has none.
unfoldable pub examined : Verdict → ℕ
examined (malformed number line) = 0
examined (unsuitable class bad) = 0
examined (critical rule xs class n) = n
examined (accepted n) = n
examined (stopped n) = n

-- The total: the sum of k^v over the rules.
unfoldable pub total : ℕ → List Rule → ℕ
total k [] = 0
total k (rule ∷ rules) = k ^ variable_count rule + total k rules

-- The place of a substitution among those of its rule, from 0: x0 most significant.
unfoldable pub place_of : ℕ → List ℕ → ℕ
place_of k [] = 0
place_of k (x ∷ xs) = x * k ^ length xs + place_of k xs

-- The substitution σ comes before τ: at the first variable where they differ it has the smaller class.
unfoldable pub Earlier : List ℕ → List ℕ → Type 0
Earlier [] τ = ⊥
Earlier (x ∷ σ) [] = ⊥
Earlier (x ∷ σ) (y ∷ τ) = (x < y) ⊎ ((x ≡ y) × Earlier σ τ)

-- The place of a critical pair in the order of the substitutions, from 1: all those of earlier rules, then those of its own rule.
unfoldable pub place : (M : Automaton) (R : List Rule) → CriticalPair M R → ℕ
place M R pair = total M.states (take pair.number R) + suc (place_of M.states pair.σ)

-- The smallest number of which P holds.
pub record Smallest (P : ℕ → Type 0) (q : ℕ) : Type 0 where
  pub itself : P q
  pub least : (r : ℕ) → P r → q ≤ r

-- A final class and a final state of B share a tree.
pub record FinalPair (M B : Automaton) (q p : ℕ) : Type 0 where
  pub class : Memᴰ q M.final
  pub state : Memᴰ p B.final
  pub shared : Share M B q p

-- The class q is in such a pair.
abbrev pub InFinalPair : Automaton → Automaton → ℕ → Type 0
InFinalPair M B q = (p : ℕ) × FinalPair M B q p

-- The first critical pair: every other stands at a later place, or at the same place with a class that is not smaller.
pub record FirstCritical (M : Automaton) (R : List Rule) (rule : ℕ) (xs : List ℕ) (class examined : ℕ) : Type 0 where
  pub pair : CriticalPair M R
  pub number : pair.number ≡ rule
  pub classes : pair.σ ≡ xs
  pub named : pair.q ≡ class
  pub first : (other : CriticalPair M R) → (place M R pair < place M R other) ⊎ ((place M R pair ≡ place M R other) × (class ≤ other.q))
  pub count : examined ≡ place M R pair

-- What each answer to the first question says of the merged automaton M and the bad automaton B ..
unfoldable pub SharingMeans : Automaton → Automaton → Sharing → Type 0
SharingMeans M B (Sharing.shared q p) = Smallest (InFinalPair M B) q × Smallest (FinalPair M B q) p
SharingMeans M B Sharing.nothing = Suitable M B

-- .. and each answer to the second of the merged automaton, the rules and the budget. Nothing is said of B.
unfoldable pub ClosureMeans : Automaton → List Rule → ℕ → Closure → Type 0
ClosureMeans M R budget (Closure.critical rule xs q n) = FirstCritical M R rule xs q n × (n ≤ budget)
ClosureMeans M R budget (Closure.closed n) = Acritical M R × (total M.states R ≤ budget) × (n ≡ total M.states R)
ClosureMeans M R budget (Closure.stopped n) = ((pair : CriticalPair M R) → budget < place M R pair) × (budget < total M.states R) × (n ≡ budget)

-- What each verdict says of them: unsuitable says what the first question says, and all others that it finds nothing, and what the second says.
unfoldable pub Means : Automaton → Automaton → List Rule → ℕ → Verdict → Type 0
Means M B R budget (malformed number line) = ⊥
Means M B R budget (unsuitable q p) = SharingMeans M B (Sharing.shared q p)
Means M B R budget (critical rule xs q n) = Suitable M B × ClosureMeans M R budget (Closure.critical rule xs q n)
Means M B R budget (accepted n) = Suitable M B × ClosureMeans M R budget (Closure.closed n)
Means M B R budget (stopped n) = Suitable M B × ClosureMeans M R budget (Closure.stopped n)

-- The verdict is given exactly when this holds of the certificate ..
unfoldable pub Given : Certificate → Verdict → Type 0
Given c v = Means (merged c.merge c.A) c.B c.rules c.budget v

-- .. and so each answer to a question.
unfoldable pub SharingGiven : Certificate → Sharing → Type 0
SharingGiven c s = SharingMeans (merged c.merge c.A) c.B s

unfoldable pub ClosureGiven : Certificate → Closure → Type 0
ClosureGiven c k = ClosureMeans (merged c.merge c.A) c.rules c.budget k
