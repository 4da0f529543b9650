-- What the format admits: the conditions that the scope states of a certificate's parts; and when two mergings are the same.
use Rattle.std.specs.Prelude.{◌≡◌, ◌↔◌, ℕ, suc, ◌≤◌, ◌<◌, length, get_or}
use mathlib.Core.List.{List, Memᴰ}
use Rattle.theory.specs.Term.{Term, variables, symbols}
use Rattle.theory.specs.Rewriting.{Rule, WellShaped, variable_count}
use Rattle.theory.specs.Preorder.{preorder, Ranked}
use Rattle.theory.specs.Automaton.{Automaton, Transition}
use Rattle.paper.specs.Limits.{most_budget, most_symbols, most_arity, most_states, last_state, most_transitions, most_rules, most_tokens, last_variable, most_variables}
use Rattle.paper.specs.Certificate.{Certificate}

-- Entries ascend strictly: each is below the next.
pub record Ascends (qs : List ℕ) : Type 0 where
  pub below : (i : ℕ) → suc i < length qs → get_or qs i 0 < get_or qs (suc i) 0

-- Classes are numbered as they come: the first entry is 0, and each later one is at most one more than some entry before it.
pub record Numbered (cs : List ℕ) : Type 0 where
  pub first : 0 < length cs → get_or cs 0 0 ≡ 0
  pub later : (i : ℕ) → 0 < i → i < length cs → (j : ℕ) × (j < i) × (get_or cs i 0 ≤ suc (get_or cs j 0))

-- A transition: a listed symbol, as many arguments as its arity, and states below n.
pub record GoodTransition (arities : List ℕ) (n : ℕ) (t : Transition) : Type 0 where
  pub symbol : t.symbol < length arities
  pub count : length t.arguments ≡ get_or arities t.symbol 0
  pub arguments : (q : ℕ) → Memᴰ q t.arguments → q < n
  pub target : t.target < n

-- An automaton: 1 to 32 states, 0 to 128 transitions, final states strictly ascending. One definition, for A and for B.
pub record GoodAutomaton (arities : List ℕ) (A : Automaton) : Type 0 where
  pub some_states : 1 ≤ A.states
  pub states_bound : A.states ≤ most_states
  pub transitions : (t : Transition) → Memᴰ t A.transitions → GoodTransition arities A.states t
  pub transitions_bound : length A.transitions ≤ most_transitions
  pub final : (q : ℕ) → Memᴰ q A.final → q < A.states
  pub final_ascending : Ascends A.final

-- A side: each symbol over as many subterms as its arity says, symbols listed, variables x0 to x3, at most 24 tokens.
pub record GoodTerm (arities : List ℕ) (t : Term ℕ) : Type 0 where
  pub ranked : Ranked arities t
  pub listed : (f : ℕ) → Memᴰ f (symbols t) → f < length arities
  pub low : (x : ℕ) → Memᴰ x (variables t) → x ≤ last_variable
  pub tokens : length (preorder t) ≤ most_tokens

-- A rule: its sides fit the arities, and it is left-linear with at most four variables.
pub record GoodRule (arities : List ℕ) (rule : Rule) : Type 0 where
  pub shaped : WellShaped rule
  pub left : GoodTerm arities rule.left
  pub right : GoodTerm arities rule.right
  pub few : variable_count rule ≤ most_variables

-- A certificate that a file can hold.
pub record WellFormed (c : Certificate) : Type 0 where
  pub budget : c.budget ≤ most_budget
  pub some_arities : 1 ≤ length c.arities
  pub most_arities : length c.arities ≤ most_symbols
  pub arities : (a : ℕ) → Memᴰ a c.arities → a ≤ most_arity
  pub A : GoodAutomaton c.arities c.A
  pub B : GoodAutomaton c.arities c.B
  pub rules_bound : length c.rules ≤ most_rules
  pub rules : (rule : Rule) → Memᴰ rule c.rules → GoodRule c.arities rule
  pub merge_count : length c.merge ≡ c.A.states
  pub merge : (q : ℕ) → Memᴰ q c.merge → q ≤ last_state
  pub merge_numbered : Numbered c.merge

-- Two lists of classes say the same partition: they are equally long, and two states share a class in the one exactly when they do in the other.
pub record SamePartition (cs ds : List ℕ) : Type 0 where
  pub count : length cs ≡ length ds
  pub same : (i j : ℕ) → i < length cs → j < length cs → (get_or cs i 0 ≡ get_or cs j 0) ↔ (get_or ds i 0 ≡ get_or ds j 0)
