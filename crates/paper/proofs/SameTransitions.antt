-- A term's value, and so the whole search, goes by which transitions there are: neither their order nor a repetition counts, nor which states are final.
use mathlib.Core.Path.{◌≡◌, refl, fun_ext}
use mathlib.Core.Bool.{◌&&◌, not}
use mathlib.Core.List.{List, [], ◌∷◌}
use mathlib.Core.Option.{none, some}
use Prim.Native.Nat.{ℕ, zero, suc}
use Rattle.theory.specs.Term.{Term}
use Rattle.theory.specs.Rewriting.{Rule}
use Rattle.theory.specs.Automaton.{Automaton}
use Rattle.theory.specs.Value.{value, is_critical}
use Rattle.theory.specs.Critical.{entry}
use Rattle.theory.proofs.Grow.{Contained, gives_more}
use Rattle.theory.proofs.Value.{value_exact}
use Rattle.theory.proofs.Bools.{same_test}
use Rattle.paper.specs.Meaning.{Closure}
use Rattle.paper.specs.Computed.{Case, smallest, critical_class, examine}

module _ (A B : Automaton) (there : Contained A B) (back : Contained B A) where
  pub value_same : {X : Type 0} (σ : X → ℕ) (t : Term X) → value A σ t ≡ value B σ t
  value_same σ t = fun_ext (λ q. same_test (value A σ t q) (value B σ t q)
      (λ e. (value_exact B σ t q).1 (gives_more there ((value_exact A σ t q).0 e)))
      (λ e. (value_exact A σ t q).1 (gives_more back ((value_exact B σ t q).0 e))))

  critical_same : (rule : Rule) (σ : List ℕ) → is_critical A rule σ ≡ is_critical B rule σ
  unfolding is_critical
  critical_same rule σ = fun_ext (λ q. λ i. value_same (entry σ) rule.left i q && not (value_same (entry σ) rule.right i q))

  module _ (states : A.states ≡ B.states) where
    class_same : (c : Case) → critical_class A c ≡ critical_class B c
    unfolding critical_class
    class_same c = λ i. smallest (critical_same c.rule c.σ i) 0 (states i)

    pub examine_same : (cs : List Case) (b n : ℕ) → examine A cs b n ≡ examine B cs b n
    unfolding examine
    examine_same [] b n = refl
    examine_same (c ∷ cs) zero n = refl
    examine_same (c ∷ cs) (suc b) n = λ i. elim (class_same c i) [ some q ↦ Closure.critical c.number c.σ q (suc n) | none ↦ examine_same cs b (suc n) i ]
