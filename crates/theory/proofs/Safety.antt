-- An acritical automaton is closed under rewriting, and an acritical and suitable merging proves safety.
use mathlib.Core.Path.{◌≡◌, ◌∙◌}
use mathlib.Core.Logic.{◌↔◌}
use mathlib.Core.List.Memᴰ
use mathlib.Core.List.{List, map, Memᴰ}
use Prim.Native.Nat.{ℕ, ◌+◌, ◌<◌}
use native.Mathlib.Omega.{arith}
use lib.ListN.{length, length-map}
use Rattle.theory.specs.Lists.{count_from}
use Rattle.theory.specs.Term.{Terms, Tree, node, ◌then◌, plug, variables}
use Rattle.theory.specs.Rewriting.{Rule, variable_count, WellShapedRules, Step, here, below, first, later, Rewrites, stop, ◌and_then◌, Safe}
use Rattle.theory.specs.Automaton.{Automaton, InRange, Gives, applied, ◌next◌, Reaches, ReachesAll, Accepts, class_of, merged}
use Rattle.theory.specs.Critical.{Substitutable, entry, Acritical, Share, Suitable}
use Rattle.theory.proofs.Nth.{mem_nth}
use Rattle.theory.proofs.Count.{mem_order, length_count, get_or_values}
use Rattle.theory.proofs.Factor.{plugs, Chosen, factor}
use Rattle.theory.proofs.Merged.{reaches_class, merged_in_range, reached_below}
use Rattle.theory.proofs.Value.{gives_decided}

-- Whatever state the first reaches, the second reaches: for trees, and for rows of trees.
abbrev Kept : Automaton → Tree → Tree → Type 0
Kept M s t = (q : ℕ) → Reaches M s q → Reaches M t q

abbrev KeptIn : Automaton → Terms ⊥ → Terms ⊥ → Type 0
KeptIn M ss ts = (qs : List ℕ) → ReachesAll M ss qs → ReachesAll M ts qs

module _ (M : Automaton) where
  under : {f : ℕ} {ss ts : Terms ⊥} → KeptIn M ss ts → Kept M (node f ss) (node f ts)
  under kept q (applied m ds) = applied m (kept _ ds)

  in_first : {s t : Tree} {ts : Terms ⊥} → Kept M s t → KeptIn M (s then ts) (t then ts)
  in_first kept qs (d next ds) = kept _ d next ds

  in_later : {t : Tree} {ss ts : Terms ⊥} → KeptIn M ss ts → KeptIn M (t then ss) (t then ts)
  in_later kept qs (d next ds) = d next kept _ ds

module _ (M : Automaton) (R : List Rule)
    (shaped : WellShapedRules R)
    (usable : (t : Tree) (q : ℕ) → Reaches M t q → Substitutable M q)
    (acritical : Acritical M R) where
  -- Without a critical pair the right side gives what the left side gives: membership is decided.
  carried : {q : ℕ} (rule : Rule) → Memᴰ rule R → (σ : List ℕ) → length σ ≡ variable_count rule → ((c : ℕ) → Memᴰ c σ → Substitutable M c)
      → Gives M (entry σ) rule.left q → Gives M (entry σ) rule.right q
  unfolding Acritical
  carried {q} rule m σ complete allowed left = elim (gives_decided M (entry σ) rule.right q) [
    | yes right ↦ right
    | no not_right ↦ absurd (acritical (record {
      number = (mem_nth m).0;
      rule = rule;
      listed = (mem_nth m).1;
      σ = σ;
      complete = complete;
      allowed = allowed;
      q = q;
      left = left;
      not_right = not_right;
    }))
  ]

  -- One rule at the root.
  root : {q : ℕ} (rule : Rule) → Memᴰ rule R → (τ : ℕ → Tree) → Reaches M (plug τ rule.left) q → Reaches M (plug τ rule.right) q
  unfolding variable_count entry
  root {q} rule m τ d =
      plugs M τ (carried rule m σ (length-map (count_from 0 v) c.σ ∙ length_count 0 v) allowed (c.enough (entry σ) (λ x l h. entries x h))) reached
    where
      v : ℕ
      v = variable_count rule

      c : Chosen M τ 0 v (λ ρ. Gives M ρ rule.left q)
      c = factor M τ rule.left 0 (shaped rule m).in_order d

      σ : List ℕ
      σ = map c.σ (count_from 0 v)

      entries : (x : ℕ) → x < 0 + v → entry σ x ≡ c.σ x
      entries x h = get_or_values c.σ 0 v x (omega arith)

      allowed : (p : ℕ) → Memᴰ p σ → Substitutable M p
      allowed p n = let (x, i, e) = Memᴰ.of_map c.σ (count_from 0 v) n in let (l, h) = mem_order 0 v i in rw e at (usable (τ x) (c.σ x) (c.reached x l h))

      reached : (x : ℕ) → Memᴰ x (variables rule.right) → Reaches M (τ x) (entry σ x)
      reached x n = let (l, h) = mem_order 0 v (rw (shaped rule m).in_order at ((shaped rule m).from_left x n)) in rw (entries x h) (c.reached x l h)

  -- One step anywhere.
  kept : {s t : Tree} → Step R s t → Kept M s t
  kept w = elim w as (λ s t v. Kept M s t) (λ ss ts v. KeptIn M ss ts) [
    | here rule m τ ↦ λ q. root rule m τ
    | below (v → ih) ↦ under M ih
    | first (v → ih) ↦ in_first M ih
    | later (v → ih) ↦ in_later M ih
  ]

  -- Any number of steps.
  kept_on : {s t : Tree} → Rewrites R s t → {q : ℕ} → Reaches M s q → Reaches M t q
  kept_on stop d = d
  kept_on (w and_then ws) d = kept_on ws (kept w _ d)

-- An automaton with no critical pair is closed under rewriting: a rewritten tree reaches whatever the tree reached.
pub closed : (M : Automaton) (R : List Rule) → WellShapedRules R → InRange M → Acritical M R → {s t : Tree} → Rewrites R s t → {q : ℕ} → Reaches M s q → Reaches M t q
unfolding Substitutable
closed M R shaped range = kept_on M R shaped (λ t q. reached_below range)

-- An acritical merging is complete (Boichut, Hugot and Boiret, Definition 3): what A's trees are rewritten to, the merged automaton accepts.
pub complete : (merge : List ℕ) (A : Automaton) (R : List Rule) → WellShapedRules R → Acritical (merged merge A) R → (s t : Tree) → Accepts A s → Rewrites R s t → Accepts (merged merge A) t
unfolding Accepts merged
complete merge A R shaped acritical s t (q, d, f) steps =
    (class_of merge q, closed (merged merge A) R shaped (merged_in_range merge A) acritical steps (reaches_class merge A d), Memᴰ.map (class_of merge) f)

-- Suitable is what Boichut, Hugot and Boiret call so: no tree is accepted by both.
pub suitable_disjoint : (M B : Automaton) → Suitable M B ↔ ((t : Tree) → Accepts M t → Accepts B t → ⊥)
unfolding Suitable Share Accepts
suitable_disjoint M B = (λ s t (q, d, f) (p, e, g). s q p f g (t, d, e), λ h q p f g (t, d, e). h t (q, d, f) (p, e, g))

-- A merging with no critical pair and no shared final pair shows the system safe: the heart of demand 3.
pub safe : (merge : List ℕ) (A B : Automaton) (R : List Rule) → WellShapedRules R → Acritical (merged merge A) R → Suitable (merged merge A) B → Safe A R B
unfolding Safe
safe merge A B R shaped acritical suitable s t a steps = (suitable_disjoint (merged merge A) B).0 suitable t (complete merge A R shaped acritical s t a steps)
