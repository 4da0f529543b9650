-- The lines in paper's words, in the parts that the code reads one after another.
use Rattle.std.specs.Prelude.{List, ℕ}
use Prim.Native.String.{String}
use Rattle.theory.specs.Automaton.{Automaton}
use Rattle.theory.specs.Rewriting.{Rule}
use Rattle.paper.specs.Certificate.{Certificate, Kind, Budget, Arities, States, Final, Trans, BadStates, BadFinal, BadTrans, Rules, Merge}
use Rattle.paper.specs.Tables.{single_number, arity_list, final_list, transition, class_list}
use Rattle.paper.specs.Format.{Reader, ◌>>=◌, ◌>>◌, give, fixed, line_of, times, rule, end}

-- All of a certificate but its merging.
pub record Draft : Type 0 where
  pub budget : ℕ
  pub arities : List ℕ
  pub A : Automaton
  pub B : Automaton
  pub rules : List Rule

-- An automaton's lines: A's or B's.
unfoldable pub automaton : (states final trans : Kind) → String → List ℕ → Reader Automaton
automaton states final trans key arities = do
  n ← fixed states single_number
  qs ← fixed final (λ kind. final_list kind n)
  count ← fixed trans single_number
  ts ← times count (line_of key (transition arities n))
  give (record { states = n; transitions = ts; final = qs })

-- All lines before `merge`.
unfoldable pub draft : Reader Draft
draft = do
  budget ← fixed Budget single_number
  arities ← fixed Arities (λ kind. arity_list)
  A ← automaton States Final Trans "t" arities
  B ← automaton BadStates BadFinal BadTrans "u" arities
  n ← fixed Rules single_number
  rules ← times n (rule arities)
  give (record { budget = budget; arities = arities; A = A; B = B; rules = rules })

-- The line `merge`, for n states.
unfoldable pub merge_line : ℕ → Reader (List ℕ)
merge_line n = fixed Merge (λ kind. class_list n)

-- The draft with its merging.
unfoldable pub merged : Draft → List ℕ → Certificate
merged d merge = record { budget = d.budget; arities = d.arities; A = d.A; B = d.B; rules = d.rules; merge = merge }

-- What is left behind the tables.
unfoldable pub closing : Draft → Reader Certificate
closing d = do
  merge ← merge_line d.A.states
  end
  give (merged d merge)
