-- Nothing is kept at first, and which pairs of classes are passed as the batches of two variables are gone through.
use mathlib.Core.Path.{◌≡◌}
use mathlib.Core.Bool.{true, false}
use mathlib.Core.List.{List, [], ◌∷◌, ◌++◌}
use Prim.Native.Nat.{ℕ, ◌+◌, ◌*◌, ◌≤◌, ◌<◌}
use lib.ListN.{length, replicate, get_or}
use Rattle.std.specs.declared.option.Option.{Option}
use Rattle.theory.specs.Rewriting.{Rule}
use Rattle.theory.proofs.Bools.{zero_at}
use Rattle.sets.specs.Sets.{Set, mem}
use Rattle.woven.specs.Woven.{woven_moves}
use Rattle.values.specs.Standing.{Each, Spelled, Kept}
use Rattle.values.proofs.Keeping.{kept_none}
use Rattle.lanes.specs.Automaton.{woven_automaton}
use Rattle.lanes.specs.Batches.{CalmAll, Swept, differ}
use Rattle.lanes.proofs.Calm.{each_below, Laid, Seen, seen_none, seen_more, seen_all, swept}

module _ (arities words heads tokens : List ℕ) (k : ℕ) (near : Option ℕ) (m : List (List ℕ)) where
  -- Nothing is kept.
  pub none_kept : Kept (woven_moves arities words (get_or heads 64 0)) arities tokens k near m (replicate 48 0)
  none_kept = kept_none (woven_moves arities words (get_or heads 64 0)) arities tokens k near m (replicate 48 0) (zero_at 48)

module _ (arities words heads tokens : List ℕ) (k : ℕ) where
  -- For the rule of these tokens, if it has v variables: behind the classes zs the pairs of classes whose number is below n have no critical pair.
  abbrev pub Passed : (zs : List ℕ) (v n : ℕ) → Type 0
  Passed zs v n = (rule : Rule) → Spelled arities tokens rule → Each (λ x. x < v) rule.left → Each (λ x. x < v) rule.right → Seen (woven_automaton arities words heads k) rule zs n

  pub passed_none : (zs : List ℕ) (v : ℕ) → Passed zs v 0
  passed_none zs v rule s left right = seen_none (woven_automaton arities words heads k) rule zs

  -- One batch more.
  pub passed_more : (zs : List ℕ) (v start : ℕ) (ρ : ℕ → ℕ → Set) → v ≡ length zs + 2 → Laid k zs start ρ
      → ((rule : Rule) → Spelled arities tokens rule → (l : ℕ) → l < 512 → (q : ℕ) → q < k → differ (woven_moves arities words (get_or heads 64 0)) (ρ l) rule q ≡ false)
      → Passed zs v start → Passed zs v (start + 512)
  unfolding woven_automaton
  passed_more zs v start ρ is laid clear old rule s left right =
      seen_more (woven_automaton arities words heads k) rule zs start ρ (each_below is left) (each_below is right) laid (clear rule s) (old rule s left right)

  -- All pairs.
  pub passed_all : (zs : List ℕ) (n : ℕ) → k * k ≤ n → Passed zs (length zs + 2) n
      → (rule : Rule) → Spelled arities tokens rule → Each (λ x. x < length zs + 2) rule.left → Each (λ x. x < length zs + 2) rule.right → CalmAll (woven_automaton arities words heads k) rule zs
  unfolding woven_automaton
  passed_all zs n all passed rule s left right = seen_all (woven_automaton arities words heads k) rule zs n all (passed rule s left right)

  -- The same behind the classes xs and one more, which is in the mask `live` and not found.
  abbrev pub PassedEach : (xs : List ℕ) (live found n : ℕ) → Type 0
  PassedEach xs live found n = (y : ℕ) → y < k → mem live y ≡ true → mem found y ≡ false → Passed (xs ++ (y ∷ [])) (length xs + 3) n

  pub passed_each : (xs : List ℕ) (live found n : ℕ) → k * k ≤ n → PassedEach xs live found n
      → (rule : Rule) → Spelled arities tokens rule → Each (λ x. x < length xs + 3) rule.left → Each (λ x. x < length xs + 3) rule.right
      → Swept (woven_automaton arities words heads k) rule xs live found
  unfolding woven_automaton
  passed_each xs live found n all passed rule s left right y hy on out = swept (woven_automaton arities words heads k) rule xs y n all (passed y hy on out rule s left right)
