-- Where each variable has in a lane the one class that a substitution gives it, the lane's two values differ exactly at the critical pairs of the substitution.
use mathlib.Core.Path.{◌≡◌, ap, ap₂}
use mathlib.Core.Bool.{not, ◌&&◌}
use mathlib.Core.List.{List}
use Prim.Native.Nat.{ℕ}
use Rattle.theory.specs.Rewriting.{Rule}
use Rattle.theory.specs.Automaton.{Automaton}
use Rattle.theory.specs.Critical.{entry}
use Rattle.theory.specs.Value.{is_critical}
use Rattle.sets.specs.Sets.{Set, none, plus}
use Rattle.values.specs.Standing.{Each}
use Rattle.values.proofs.Spanned.{spanned_exact}
use Rattle.lanes.specs.Batches.{differ}

pub critical_lane : (M : Automaton) (rule : Rule) (ρ : ℕ → Set) (σ : List ℕ) → Each (λ x. ρ x ≡ plus none (entry σ x)) rule.left
    → Each (λ x. ρ x ≡ plus none (entry σ x)) rule.right → (q : ℕ) → differ M.transitions ρ rule q ≡ is_critical M rule σ q
unfolding is_critical
critical_lane M rule ρ σ left right q =
    ap₂ (λ a b. a && not b) (ap (λ (s : Set). s q) (spanned_exact M (entry σ) ρ left)) (ap (λ (s : Set). s q) (spanned_exact M (entry σ) ρ right))
