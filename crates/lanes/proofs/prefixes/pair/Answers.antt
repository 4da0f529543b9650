-- `lanes::prefixes::pair` meets its contract, by the number of variables: it is the pair of that substitution, and says its classes.
use mathlib.Core.Path.{◌≡◌, refl, ap, ◌∙◌}
use Prim.Native.Nat.{ℕ, zero, suc, ◌≤◌}
use native.Mathlib.Omega.{arith}
use Rattle.verdicts.specs.declared.critical_pair.CriticalPair.{CriticalPair}
use Rattle.verdicts.specs.Said.{classes_of}
use Rattle.lanes.specs.Prefixes.{chosen, shown, pair_of}
use Rattle.lanes.proofs.Shown.{pair_classes}
use Rattle.lanes.proofs.prefixes.pair.Goals as goal

same : (rule v x0 x1 x2 j q : ℕ) → v ≤ 4
    → ◌≡◌ {A = CriticalPair} (record { rule = rule; x0 = shown v 0 x0 j; x1 = shown v 1 x1 j; x2 = shown v 2 x2 j; x3 = shown v 3 j j; class = q }) (pair_of rule v x0 x1 x2 j q)
unfolding chosen pair_of
same rule zero x0 x1 x2 j q few = refl
same rule (suc zero) x0 x1 x2 j q few = refl
same rule (suc (suc zero)) x0 x1 x2 j q few = refl
same rule (suc (suc (suc zero))) x0 x1 x2 j q few = refl
same rule (suc (suc (suc (suc zero)))) x0 x1 x2 j q few = refl
same rule (suc (suc (suc (suc (suc v))))) x0 x1 x2 j q few = absurd (omega arith)

pub returns-clause-is : goal.returns-clause-is
returns-clause-is c =
    let a = c.args in
    rw (c.shown.ensures, c.shown-2.ensures, c.shown-3.ensures, c.shown-4.ensures) (same a.rule a.v a.x0 a.x1 a.x2 a.j a.q c.requires.few)

pub returns-clause-said : goal.returns-clause-said
unfolding pair_of
returns-clause-said c =
    let a = c.args in
    let r = c.requires in
    let is = returns-clause-is c in
    (refl, ap classes_of is ∙ pair_classes a.rule a.x0 a.x1 a.x2 a.j a.q r.low0 r.low1 r.low2 r.low_last a.v, refl)
