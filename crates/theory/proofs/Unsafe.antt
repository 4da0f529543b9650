-- Systems that are not safe, each by one thing that rewriting can do, and by that alone.
use mathlib.Core.Path.{◌≡◌, refl}
use mathlib.Core.Bool.{true}
use mathlib.Core.List.Memᴰ
use mathlib.Core.List.{List, [], ◌∷◌}
use Prim.Native.Nat.{ℕ}
use lib.ListN.{get_or}
use Rattle.theory.specs.Lists.{any}
use Rattle.theory.specs.Term.{Term, Tree, var, node, none, ◌then◌, plug}
use Rattle.theory.specs.Rewriting.{Rule, here, below, first, later, Rewrites, stop, ◌and_then◌, Safe}
use Rattle.theory.specs.Automaton.{Automaton, ◌of◌gives◌, Accepts}
use Rattle.theory.specs.Value.{value}
use Rattle.theory.proofs.Value.{value_exact}

infix 80 ◌becomes◌
-- Three constants, a symbol over one subterm, and a symbol over two.
abbrev a : {X : Type 0} → Term X
a = node 0 none

abbrev b : {X : Type 0} → Term X
b = node 1 none

abbrev c : {X : Type 0} → Term X
c = node 2 none

abbrev f : {X : Type 0} → Term X → Term X
f t = node 3 (t then none)

abbrev g : {X : Type 0} → Term X → Term X → Term X
g t u = node 4 (t then u then none)

-- A rule, written as a sentence.
abbrev ◌becomes◌ : Term ℕ → Term ℕ → Rule
l becomes r = record { left = l; right = r }

-- The automaton that accepts one tree alone, the one with this number: a, b, c, f a, f b, g a b, g a c, g a a.
abbrev only : ℕ → Automaton
only q = record {
  states = 8;
  transitions = (0 of [] gives 0) ∷ (1 of [] gives 1) ∷ (2 of [] gives 2)
      ∷ (3 of 0 ∷ [] gives 3) ∷ (3 of 1 ∷ [] gives 4)
      ∷ (4 of 0 ∷ 1 ∷ [] gives 5) ∷ (4 of 0 ∷ 2 ∷ [] gives 6) ∷ (4 of 0 ∷ 0 ∷ [] gives 7) ∷ [];
  final = q ∷ [];
}

-- The trees for x0, x1, .., and c for the variables after them.
abbrev trees : List Tree → ℕ → Tree
trees ts x = get_or ts x c

abbrev Unsafe : Automaton → List Rule → Automaton → Type 0
Unsafe A R B = Safe A R B → ⊥

-- The tree has this number.
abbrev HasNumber : ℕ → Tree → Type 0
HasNumber q t = value (only q) (λ x. absurd x) t q ≡ true

accepts_only : (q : ℕ) (t : Tree) → HasNumber q t → Accepts (only q) t
unfolding Accepts
accepts_only q t e = (q, (value_exact (only q) (λ x. absurd x) t q).0 e, Memᴰ.head refl)

rewritten : {R : List Rule} (q p : ℕ) (s t : Tree) → HasNumber q s → HasNumber p t → Rewrites R s t → Unsafe (only q) R (only p)
unfolding Safe
rewritten q p s t d e steps safe = safe s t (accepts_only q s d) steps (accepts_only p t e)

-- No step: both accept a.
pub no_step : Unsafe (only 0) [] (only 0)
unfolding value any
no_step = rewritten 0 0 a a refl refl stop

-- Two steps: a becomes b becomes c.
pub two_steps : Unsafe (only 0) (a becomes b ∷ b becomes c ∷ []) (only 2)
unfolding value any plug
two_steps = rewritten 0 2 a c refl refl (here (a becomes b) (Memᴰ.head refl) (trees []) and_then here (b becomes c) (Memᴰ.tail (Memᴰ.head refl)) (trees []) and_then stop)

-- A step below the root: f a becomes f b.
pub below_the_root : Unsafe (only 3) (a becomes b ∷ []) (only 4)
unfolding value any plug
below_the_root = rewritten 3 4 (f a) (f b) refl refl (below (first (here (a becomes b) (Memᴰ.head refl) (trees []))) and_then stop)

-- A step in the second of two subtrees: g a b becomes g a c.
pub second_subtree : Unsafe (only 5) (b becomes c ∷ []) (only 6)
unfolding value any plug
second_subtree = rewritten 5 6 (g a b) (g a c) refl refl (below (later (first (here (b becomes c) (Memᴰ.head refl) (trees [])))) and_then stop)

-- A variable twice on the right, the same tree for both: f a becomes g a a.
pub repeated_variable : Unsafe (only 3) (f (var 0) becomes g (var 0) (var 0) ∷ []) (only 7)
unfolding value any plug
repeated_variable = rewritten 3 7 (f a) (g a a) refl refl (here (f (var 0) becomes g (var 0) (var 0)) (Memᴰ.head refl) (trees (a ∷ [])) and_then stop)

-- A variable that the right side drops: g a b becomes f b.
pub dropped_variable : Unsafe (only 5) (g (var 0) (var 1) becomes f (var 1) ∷ []) (only 4)
unfolding value any plug
dropped_variable = rewritten 5 4 (g a b) (f b) refl refl (here (g (var 0) (var 1) becomes f (var 1)) (Memᴰ.head refl) (trees (a ∷ b ∷ [])) and_then stop)
