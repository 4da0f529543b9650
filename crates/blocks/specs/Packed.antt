-- How the tables hold what a file says: the arrays that one certificate fills, zeros wherever nothing stands.
use Rattle.std.specs.Prelude.{List, [], ◌∷◌, ◌++◌, map, ℕ, zero, suc, ◌*◌, ◌^◌, length}
use Rattle.std.specs.Int.Bits.{bit_or}
use Rattle.theory.specs.Preorder.{preorder}
use Rattle.theory.specs.Rewriting.{Rule, variable_count}
use Rattle.theory.specs.Automaton.{Automaton, Transition, classes}
use Rattle.paper.specs.Limits.{most_symbols, most_transitions, most_rules, most_tokens}
use Rattle.fields.specs.Padded.{padded}
use Rattle.tables.specs.Held.{side_of}
use Rattle.tables.specs.declared.Table.{Table}
use Rattle.tables.specs.declared.Rule.{Rule as Kept}
use Rattle.tables.specs.declared.Rules.{Rules}
use Rattle.tables.specs.declared.Tables.{Tables}
use Rattle.tables.specs.declared.Merging.{Merging}
use Rattle.blocks.specs.Draft.{Draft}

-- The five bytes of a transition.
unfoldable pub row_of : Transition → List ℕ
row_of t = t.symbol ∷ (padded 3 t.arguments ++ (t.target ∷ []))

-- The bytes of things, one after another.
unfoldable pub flat : {X : Type 0} → (X → List ℕ) → List X → List ℕ
flat f [] = []
flat f (x ∷ xs) = f x ++ flat f xs

-- The mask with these states besides.
unfoldable pub mask_from : ℕ → List ℕ → ℕ
mask_from mask [] = mask
mask_from mask (q ∷ qs) = mask_from (bit_or mask (2 ^ q)) qs

-- A table of transitions.
unfoldable pub packed_rows : List Transition → List ℕ
packed_rows ts = padded (5 * most_transitions) (flat row_of ts)

-- An automaton.
unfoldable pub table_of : Automaton → Table
table_of A = record { states = A.states; finals = mask_from 0 A.final; count = length A.transitions; rows = packed_rows A.transitions }

-- A rule: 48 bytes of tokens, how many of them each side has, and how many variables the rule has.
unfoldable pub rule_of : Rule → Kept
rule_of r =
    record {
      tokens = padded most_tokens (side_of r.left) ++ padded most_tokens (side_of r.right);
      left = length (preorder r.left);
      right = length (preorder r.right);
      variables = variable_count r;
    }

-- Zeros, where there is no rule.
unfoldable pub zero_rule : Kept
zero_rule = record { tokens = padded (2 * most_tokens) []; left = 0; right = 0; variables = 0 }

-- xs in n places, and z in those behind; what does not fit is left out.
unfoldable pub filled : {X : Type 0} → (z : X) → ℕ → List X → List X
filled z zero xs = []
filled z (suc n) [] = z ∷ filled z n []
filled z (suc n) (x ∷ xs) = x ∷ filled z n xs

-- The rules.
unfoldable pub packed_rules : List Rule → Rules
packed_rules rs = record { count = length rs; rules = filled zero_rule most_rules (map rule_of rs) }

-- All tables.
unfoldable pub tables_of : Draft → Tables
tables_of d =
    record {
      budget = d.budget;
      symbols = length d.arities;
      arities = padded most_symbols d.arities;
      initial = table_of d.A;
      bad = table_of d.B;
      rules = packed_rules d.rules;
    }

-- The merging.
unfoldable pub merging_of : List ℕ → Merging
merging_of merge = record { classes = classes merge; merge = padded 64 merge }
