-- What the tables hold, in the paper's words.
use Rattle.std.specs.Prelude.{cond, List, [], ◌∷◌, map, ℕ, zero, suc, ◌+◌, ◌*◌, ◌-◌, ltb, get_or, take, drop}
use Rattle.theory.specs.Lists.{count_from}
use Rattle.theory.specs.Term.{Term, var}
use Rattle.theory.specs.Preorder.{Token, symbol, variable, preorder}
use Rattle.theory.specs.Rewriting.{Rule}
use Rattle.theory.specs.Automaton.{Automaton, Transition, ◌of◌gives◌}
use Rattle.paper.specs.Checked.{Checked, fault, says}
use Rattle.paper.specs.Sides.{term_of}
use Rattle.paper.specs.Certificate.{Certificate}
use Rattle.sets.specs.Sets.{mem}
use Rattle.tables.specs.declared.Table.{Table}
use Rattle.tables.specs.declared.Rule.{Rule as Kept}
use Rattle.tables.specs.declared.Rules.{Rules}
use Rattle.tables.specs.declared.Tables.{Tables}
use Rattle.tables.specs.declared.Merging.{Merging}

-- Transition i: as many arguments as its symbol's arity.
unfoldable pub move_at : (arities rows : List ℕ) → ℕ → Transition
move_at arities rows i =
    get_or rows (i * 5) 0
    of take (get_or arities (get_or rows (i * 5) 0) 0) (get_or rows (i * 5 + 1) 0 ∷ (get_or rows (i * 5 + 2) 0 ∷ (get_or rows (i * 5 + 3) 0 ∷ [])))
    gives get_or rows (i * 5 + 4) 0

-- The first n transitions.
unfoldable pub moves_of : (arities rows : List ℕ) → ℕ → List Transition
moves_of arities rows n = map (move_at arities rows) (count_from 0 n)

-- The members of a mask among the k numbers from n on, ascending.
unfoldable pub members : (mask n k : ℕ) → List ℕ
members mask n zero = []
members mask n (suc k) = cond (mem mask n) (n ∷ members mask (suc n) k) (members mask (suc n) k)

-- The automaton of a table.
unfoldable pub automaton_of : (arities : List ℕ) → Table → Automaton
automaton_of arities t = record { states = t.states; transitions = moves_of arities t.rows t.count; final = members t.finals 0 t.states }

-- The token of a byte.
unfoldable pub token_of : ℕ → Token
token_of b = cond (ltb b 64) (symbol b) (variable (b - 64))

-- The byte of a token.
unfoldable pub byte_of : Token → ℕ
byte_of (symbol f) = f
byte_of (variable x) = 64 + x

-- The bytes of a side.
unfoldable pub side_of : Term ℕ → List ℕ
side_of t = map byte_of (preorder t)

-- The term that was said; where none was, any term.
unfoldable pub spoken : Checked (Term ℕ) → Term ℕ
spoken (says t) = t
spoken (fault n) = var 0

-- The n tokens from the byte `at` on, read as a term.
unfoldable pub side_at : (arities tokens : List ℕ) → (at n : ℕ) → Checked (Term ℕ)
side_at arities tokens at n = term_of arities (map token_of (take n (drop at tokens)))

-- A rule without tokens, for what is past the last.
unfoldable pub no_rule : Kept
no_rule = record { tokens = []; left = 0; right = 0; variables = 0 }

-- The sides of a rule.
unfoldable pub rule_in : (arities : List ℕ) → Kept → Rule
rule_in arities r = record { left = spoken (side_at arities r.tokens 0 r.left); right = spoken (side_at arities r.tokens 24 r.right) }

-- Rule i.
unfoldable pub rule_at : (arities : List ℕ) → Rules → ℕ → Rule
rule_at arities r i = rule_in arities (get_or r.rules i no_rule)

-- All rules.
unfoldable pub rules_of : (arities : List ℕ) → Rules → List Rule
rules_of arities r = map (rule_at arities r) (count_from 0 r.count)

-- The listed symbols' arities.
unfoldable pub arities_of : Tables → List ℕ
arities_of t = take t.symbols t.arities

-- The class of each state of A.
unfoldable pub merge_of : Tables → Merging → List ℕ
merge_of t m = take t.initial.states m.merge

-- The certificate that the tables and the merging mean.
unfoldable pub held : Tables → Merging → Certificate
held t m = record {
  budget = t.budget;
  arities = arities_of t;
  A = automaton_of (arities_of t) t.initial;
  B = automaton_of (arities_of t) t.bad;
  rules = rules_of (arities_of t) t.rules;
  merge = merge_of t m;
}
