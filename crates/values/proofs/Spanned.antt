-- What the values of sets say of the values of classes, and which variables they depend on.
use mathlib.Core.Path.{◌≡◌, refl, ap, ap₂, fun_ext}
use mathlib.Core.Bool.{true, ◌&&◌, and-eq-true_iff}
use mathlib.Core.List.{List, [], ◌∷◌}
use Prim.Native.Nat.{ℕ}
use lib.Dec.{eqb}
use Rattle.theory.specs.Lists.{any}
use Rattle.theory.specs.Term.{Term, Terms}
use Rattle.theory.specs.Automaton.{Automaton, Transition, Gives, GivesAll, assigned, applied, nothing, ◌next◌}
use Rattle.theory.specs.Value.{value, values}
use Rattle.theory.proofs.Tests.{match_iff, any_complete}
use Rattle.sets.specs.Sets.{Set, none as empty, plus}
use Rattle.values.specs.Sets.{drawn, fires, gathered, spanned, spanned_all}
use Rattle.values.specs.Standing.{Each, EachRow, one, over, empty as no_terms, ◌beside◌}

-- The value depends on the sets of the term's own variables alone.
module _ (Δ : List Transition) (ρ τ : ℕ → Set) where
  mutual
    unfolding spanned

    pub spanned_same : {t : Term ℕ} → Each (λ x. ρ x ≡ τ x) t → spanned Δ ρ t ≡ spanned Δ τ t
    spanned_same (one e) = e
    spanned_same (over {f = f} es) = ap (gathered Δ f) (spanned_same_all es)

    spanned_same_all : {ts : Terms ℕ} → EachRow (λ x. ρ x ≡ τ x) ts → spanned_all Δ ρ ts ≡ spanned_all Δ τ ts
    spanned_same_all no_terms = refl
    spanned_same_all (e beside es) = ap₂ ◌∷◌ (spanned_same e) (spanned_same_all es)

-- One test for another.
module _ (P Q : ℕ → Type 0) (so : (x : ℕ) → P x → Q x) where
  mutual
    pub each_then : {t : Term ℕ} → Each P t → Each Q t
    each_then (one {x = x} p) = one (so x p)
    each_then (over ps) = over (each_then_all ps)

    each_then_all : {ts : Terms ℕ} → EachRow P ts → EachRow Q ts
    each_then_all no_terms = no_terms
    each_then_all (p beside ps) = each_then p beside each_then_all ps

module _ (A : Automaton) (σ : ℕ → ℕ) (ρ : ℕ → Set) where
  mutual
    unfolding spanned gathered fires drawn value

    -- Where each of its variables has the set of its one class, that is the term's value.
    pub spanned_exact : {t : Term ℕ} → Each (λ x. ρ x ≡ plus empty (σ x)) t → spanned A.transitions ρ t ≡ value A σ t
    spanned_exact (one single) = single
    spanned_exact (over {f = f} {ts = ts} es) = fun_ext (λ q. ap (any A.transitions) (fun_ext (λ tr. ap (λ b. eqb tr.symbol f && eqb tr.target q && b) (drawn_exact es tr.arguments))))

    drawn_exact : {ts : Terms ℕ} → EachRow (λ x. ρ x ≡ plus empty (σ x)) ts → (qs : List ℕ) → drawn (spanned_all A.transitions ρ ts) qs ≡ values A σ ts qs
    drawn_exact no_terms [] = refl
    drawn_exact no_terms (q ∷ qs) = refl
    drawn_exact (e beside es) [] = refl
    drawn_exact (e beside es) (q ∷ qs) = ap₂ ◌&&◌ (ap (λ (s : Set). s q) (spanned_exact e)) (drawn_exact es qs)

  mutual
    unfolding spanned gathered fires drawn

    -- Where each of its variables' sets has its class, the sets' value has all of the term's value.
    pub spanned_more : {t : Term ℕ} {q : ℕ} → Each (λ x. ρ x (σ x) ≡ true) t → Gives A σ t q → spanned A.transitions ρ t q ≡ true
    spanned_more (one allowed) (assigned e) = rw e at allowed
    spanned_more (over es) (applied {f = f} {q = q} m ds) = any_complete _ m ((match_iff f f q q _).1 (refl, refl, drawn_more es ds))

    drawn_more : {ts : Terms ℕ} {qs : List ℕ} → EachRow (λ x. ρ x (σ x) ≡ true) ts → GivesAll A σ ts qs → drawn (spanned_all A.transitions ρ ts) qs ≡ true
    drawn_more no_terms nothing = refl
    drawn_more (e beside es) (d next ds) = (and-eq-true_iff _ _).1 (spanned_more e d, drawn_more es ds)
