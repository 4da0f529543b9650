-- The test `value` is exact: it passes for the states that the term evaluates to, and for no others.
use mathlib.Core.Path.{◌≡◌, refl, sym, ◌∙◌}
use mathlib.Core.Logic.{◌↔◌}
use mathlib.Core.Bool.{Bool, true, false, and-eq-true_iff, false≢true, true≢false}
use mathlib.Core.List.{List, [], ◌∷◌}
use Prim.Native.Nat.{ℕ}
use Rattle.theory.specs.Term.{Term, Terms, var, node, none, ◌then◌}
use Rattle.theory.specs.Automaton.{Automaton, Gives, GivesAll, assigned, applied, nothing, ◌next◌}
use Rattle.theory.specs.Value.{value, values}
use Rattle.theory.proofs.Tests.{equal_iff, match_iff, retarget, any_sound, any_complete}

module _ {X : Type 0} (A : Automaton) (σ : X → ℕ) where
  mutual
    unfolding value

    value_complete : {t : Term X} {q : ℕ} → Gives A σ t q → value A σ t q ≡ true
    value_complete (assigned e) = (equal_iff _ _).1 e
    value_complete (applied {f = f} {q = q} m ds) = any_complete _ m ((match_iff f f q q _).1 (refl, refl, values_complete ds))

    values_complete : {ts : Terms X} {qs : List ℕ} → GivesAll A σ ts qs → values A σ ts qs ≡ true
    values_complete nothing = refl
    values_complete (d next ds) = (and-eq-true_iff _ _).1 (value_complete d, values_complete ds)

  mutual
    unfolding value

    value_sound : (t : Term X) {q : ℕ} → value A σ t q ≡ true → Gives A σ t q
    value_sound (var x) {q} e = assigned ((equal_iff (σ x) q).0 e)
    value_sound (node f ts) {q} e =
        let (tr, m, i) = any_sound A.transitions e in
        let (g, p, h) = (match_iff tr.symbol f tr.target q (values A σ ts tr.arguments)).0 i in
        applied (retarget g p m) (values_sound ts tr.arguments h)

    values_sound : (ts : Terms X) (qs : List ℕ) → values A σ ts qs ≡ true → GivesAll A σ ts qs
    values_sound none [] e = nothing
    values_sound none (q ∷ qs) e = absurd (false≢true e)
    values_sound (t then ts) [] e = absurd (false≢true e)
    values_sound (t then ts) (q ∷ qs) e = let (h, hs) = (and-eq-true_iff (value A σ t q) (values A σ ts qs)).0 e in value_sound t h next values_sound ts qs hs

  -- The test passes exactly for the states that the term evaluates to.
  pub value_exact : (t : Term X) (q : ℕ) → (value A σ t q ≡ true) ↔ Gives A σ t q
  value_exact t q = (value_sound t, value_complete)

  -- Whether the term evaluates to the state is decided.
  pub gives_decided : (t : Term X) (q : ℕ) → Dec (Gives A σ t q)
  gives_decided t q = go (value A σ t q) refl
    where
      go : (b : Bool) → value A σ t q ≡ b → Dec (Gives A σ t q)
      go true e = yes (value_sound t e)
      go false e = no (λ d. true≢false (sym (value_complete d) ∙ e))
