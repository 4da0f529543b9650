-- The substitutions in order: how many there are, and that they are those of the critical pairs.
use mathlib.Core.Path.{◌≡◌, refl, sym, ap, ◌∙◌}
use mathlib.Core.Logic.{inl, inr, ◌↔◌}
use mathlib.Core.Bool.{true, and-eq-true_iff}
use mathlib.Core.List.{List, [], ◌∷◌, map, Memᴰ}
use mathlib.Core.Option.{none, some}
use Prim.Native.Nat.{ℕ, zero, suc, ◌+◌, ◌*◌, ◌^◌}
use native.Mathlib.Omega.{arith}
use native.Mathlib.Nat.{zero-mul, suc-mul, pow-zero, pow-succ'}
use lib.ListN.{length, length-append, length-map}
use Rattle.theory.specs.Lists.{count_from, Nth}
use Rattle.theory.specs.Rewriting.{Rule, variable_count, WellShaped}
use Rattle.theory.specs.Automaton.{Automaton, InRange}
use Rattle.theory.specs.Critical.{entry}
use Rattle.theory.specs.Value.{value, spread, substitutions, is_critical}
use Rattle.theory.proofs.Count.{length_count}
use Rattle.theory.proofs.Tests.{not_iff}
use Rattle.theory.proofs.Value.{value_exact}
use Rattle.theory.proofs.Search.{left_below}
use Rattle.paper.specs.Computed.{Case, case, cases, critical_class}
use Rattle.paper.specs.Meaning.{total, Smallest}
use Rattle.paper.proofs.Smallest.{smallest_some, smallest_none}
use Rattle.paper.proofs.Listed.{CriticalFor}

length_spread : (cs : List ℕ) (ls : List (List ℕ)) → length (spread cs ls) ≡ length cs * length ls
unfolding spread
length_spread [] ls = sym (zero-mul (length ls))
length_spread (c ∷ cs) ls = length-append (map (λ l. c ∷ l) ls) (spread cs ls) ∙ rw (length-map ls (λ l. c ∷ l), length_spread cs ls, suc-mul) (omega arith)

-- A rule with v variables has k^v substitutions.
pub length_substitutions : (k v : ℕ) → length (substitutions k v) ≡ k ^ v
unfolding substitutions
length_substitutions k zero = sym (pow-zero k)
length_substitutions k (suc v) = length_spread (count_from 0 k) (substitutions k v) ∙ rw (length_count, length_substitutions k v, pow-succ')

-- There are as many as the total says.
pub length_cases : (k n : ℕ) (R : List Rule) → length (cases k n R) ≡ total k R
unfolding cases total
length_cases k n [] = refl
length_cases k n (rule ∷ R) =
    length-append (map (case n rule) (substitutions k (variable_count rule))) (cases k (suc n) R)
    ∙ rw (length-map (substitutions k (variable_count rule)) (case n rule), length_substitutions, length_cases k (suc n) R)

pub cases_sound : (k n : ℕ) (R : List Rule) {c : Case} → Memᴰ c (cases k n R) → Memᴰ c.rule R × Memᴰ c.σ (substitutions k (variable_count c.rule))
unfolding cases
cases_sound k n [] m = absurd (mathlib.Core.List.Memᴰ.not-nil m)
cases_sound k n (rule ∷ R) m = elim (mathlib.Core.List.Memᴰ.append_cases (map (case n rule) (substitutions k (variable_count rule))) m) [
  | inl i ↦ let (σ, j, e) = mathlib.Core.List.Memᴰ.of_map (case n rule) (substitutions k (variable_count rule)) i in rw (← e) (mathlib.Core.List.Memᴰ.head refl, j)
  | inr i ↦ let (l, j) = cases_sound k (suc n) R i in (mathlib.Core.List.Memᴰ.tail l, j)
]

-- The substitutions of the rule number i stand there under its number.
pub cases_complete : (k n : ℕ) (R : List Rule) (i j : ℕ) (rule : Rule) {σ : List ℕ} → Nth R i rule → Memᴰ σ (substitutions k (variable_count rule)) → j ≡ n + i
    → Memᴰ (case j rule σ) (cases k n R)
unfolding cases Nth
cases_complete k n [] i j rule l m e = absurd l
cases_complete k n (r ∷ R) zero j rule {σ} l m e =
    let same : j ≡ n = omega arith in
    let here : Memᴰ (case n rule σ) (map (case n r) (substitutions k (variable_count r))) = rw l (mathlib.Core.List.Memᴰ.map (case n rule) m) in
    mathlib.Core.List.Memᴰ.append_left (cases k (suc n) R) (mathlib.Core.List.Memᴰ.cast (ap (λ n. case n rule σ) same) here)
cases_complete k n (r ∷ R) (suc i) j rule l m e = mathlib.Core.List.Memᴰ.append_right (map (case n r) (substitutions k (variable_count r))) (cases_complete k (suc n) R i j rule l m (omega arith))

module _ (M : Automaton) (R : List Rule) where
  pub critical_iff : (c : Case) (q : ℕ) → (is_critical M c.rule c.σ q ≡ true) ↔ CriticalFor M c q
  unfolding is_critical
  critical_iff c q = (
    λ e.
        let (l, r) = (and-eq-true_iff (value M (entry c.σ) c.rule.left q) _).0 e in
        record { left = (value_exact M (entry c.σ) c.rule.left q).0 l; not_right = λ g. (not_iff _).0 r ((value_exact M (entry c.σ) c.rule.right q).1 g) },
    λ k. (and-eq-true_iff _ _).1 ((value_exact M (entry c.σ) c.rule.left q).1 k.left, (not_iff _).1 (λ v. k.not_right ((value_exact M (entry c.σ) c.rule.right q).0 v))),
  )

  -- The class found is the smallest critical one.
  pub class_some : (c : Case) {q : ℕ} → critical_class M c ≡ some q → Smallest (CriticalFor M c) q
  unfolding critical_class
  class_some c {q} e = let f = smallest_some _ 0 M.states e in record { itself = (critical_iff c q).0 f.passes; least = λ r k. f.first r (omega arith) ((critical_iff c r).1 k) }

  module _ (range : InRange M) (shaped : (rule : Rule) → Memᴰ rule R → WellShaped rule) where
    -- Where no class is found none is critical.
    pub class_none : (c : Case) → Memᴰ c (cases M.states 0 R) → critical_class M c ≡ none → (q : ℕ) → CriticalFor M c q → ⊥
    unfolding critical_class
    class_none c m e q k =
        let listed = (cases_sound M.states 0 R m).0 in
        smallest_none _ 0 M.states e q (omega arith) (omega (arith, left_below range c.rule.left (shaped c.rule listed).not_bare k.left)) ((critical_iff c q).1 k)
