-- Rewriting has every instance of a rule, composes, and goes on inside a tree: at any place of a row, and in every context.
use mathlib.Core.Path.{◌≡◌, refl, ap}
use mathlib.Core.List.{List, Memᴰ}
use Prim.Native.Nat.{ℕ}
use Rattle.theory.specs.Term.{Term, Terms, Tree, var, node, none, ◌then◌, plug, plug_all}
use Rattle.theory.specs.Rewriting.{Rule, Step, here, below, StepIn, first, later, Rewrites, stop, ◌and_then◌}

-- One row of terms behind another.
unfoldable pub join : {X : Type 0} → Terms X → Terms X → Terms X
join none us = us
join (t then ts) us = t then join ts us

join_one : {X : Type 0} (ts us : Terms X) (u : Term X) → join (join ts (u then none)) us ≡ join ts (u then us)
unfolding join
join_one none us u = refl
join_one (t then ts) us u = ap (λ vs. t then vs) (join_one ts us u)

module _ {R : List Rule} where
  pub reflexive : (t : Tree) → Rewrites R t t
  reflexive t = stop

  pub one_step : {s t : Tree} → Step R s t → Rewrites R s t
  one_step w = w and_then stop

  -- Every instance of a rule.
  pub instance : (rule : Rule) → Memᴰ rule R → (τ : ℕ → Tree) → Rewrites R (plug τ rule.left) (plug τ rule.right)
  instance rule m τ = one_step (here rule m τ)

  pub transitive : {s t u : Tree} → Rewrites R s t → Rewrites R t u → Rewrites R s u
  transitive stop vs = vs
  transitive (w and_then ws) vs = w and_then transitive ws vs

  -- A step at any place of a row.
  pub step_inside : {s t : Tree} (before after : Terms ⊥) → Step R s t → StepIn R (join before (s then after)) (join before (t then after))
  unfolding join
  step_inside none after w = first w
  step_inside (u then before) after w = later (step_inside before after w)

  -- Under a symbol, at any place.
  pub inside : {s t : Tree} (f : ℕ) (before after : Terms ⊥) → Rewrites R s t → Rewrites R (node f (join before (s then after))) (node f (join before (t then after)))
  inside f before after stop = stop
  inside f before after (w and_then ws) = below (step_inside before after w) and_then inside f before after ws

-- In every context: where the trees for a term's variables are rewritten, so is the term.
module _ {R : List Rule} {X : Type 0} {τ ρ : X → Tree} (each : (x : X) → Rewrites R (τ x) (ρ x)) where
  mutual
    unfolding plug join

    pub in_context : (t : Term X) → Rewrites R (plug τ t) (plug ρ t)
    in_context (var x) = each x
    in_context (node f ts) = in_row f none ts

    in_row : (f : ℕ) (before : Terms ⊥) (ts : Terms X) → Rewrites R (node f (join before (plug_all τ ts))) (node f (join before (plug_all ρ ts)))
    in_row f before none = stop
    in_row f before (t then ts) = transitive (inside f before (plug_all τ ts) (in_context t)) (simp join_one at (in_row f (join before (plug ρ t then none)) ts))
