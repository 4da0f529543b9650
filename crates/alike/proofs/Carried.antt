-- Alike classes give the same value: one argument at a time, so that a variable may stand in several, and the state of each is wanted.
use mathlib.Core.Path.{◌≡◌, refl, sym, ap, ◌∙◌, subst}
use mathlib.Core.Bool.{true}
use mathlib.Core.List.{List, [], ◌∷◌, Memᴰ}
use Prim.Native.Nat.{ℕ, suc, ◌+◌, ◌<◌}
use native.Mathlib.Omega.{arith}
use native.Mathlib.Decide.{ℕ_discrete, dec_lt}
use lib.ListN.{length, get_or, set}
use lib.Seq.{get_or-set_same, get_or-set_other, set_out}
use Rattle.theory.specs.Term.{Term, Terms, var, node, none, ◌then◌}
use Rattle.theory.specs.Automaton.{Automaton, Transition, ◌of◌gives◌, Gives, GivesAll, assigned, applied, nothing, ◌next◌}
use Rattle.theory.specs.Critical.{entry}
use Rattle.sets.specs.Sets.{mem}
use Rattle.alike.specs.Alike.{AlikeAt, Calls, AlikeIn, AlikeRow, leaf, over, end, more, AlikeFor, SameValue}

-- Alike goes both ways.
alike_sym : {Δ : List Transition} {wanted f p c d : ℕ} → AlikeAt Δ wanted f p c d → AlikeAt Δ wanted f p d c
alike_sym a = record { same = λ qs q h. ((a.same qs q h).1, (a.same qs q h).0) }

mutual
  in_sym : {Δ : List Transition} {x c d wanted : ℕ} {t : Term ℕ} → AlikeIn Δ x c d wanted t → AlikeIn Δ x d c wanted t
  in_sym leaf = leaf
  in_sym (over r) = over (row_sym r)

  row_sym : {Δ : List Transition} {x c d wanted f n : ℕ} {ts : Terms ℕ} → AlikeRow Δ x c d wanted f n ts → AlikeRow Δ x d c wanted f n ts
  row_sym end = end
  row_sym (more below here calls within later) = more below (λ e. alike_sym (here e)) calls (in_sym within) (row_sym later)

alike_for_sym : {M : Automaton} {x c d : ℕ} {t : Term ℕ} → AlikeFor M x c d t → AlikeFor M x d c t
alike_for_sym a = record { not_bare = a.not_bare; wanted = a.wanted; targets = a.targets; places = in_sym a.places }

-- Two choices that differ at x alone, where the one has c and the other d.
module _ (M : Automaton) (x c d : ℕ) (ρ τ : ℕ → ℕ) (has-c : ρ x ≡ c) (has-d : τ x ≡ d) (agree : (y : ℕ) → (y ≡ x → ⊥) → ρ y ≡ τ y) where
  mutual
    -- One argument, in a wanted state: what holds of the state, and stays when d stands for c where the argument is x, holds of a state that it has with d.
    argument : (t : Term ℕ) {wanted r : ℕ} (W : ℕ → Type 0) → (t ≡ var x → W c → W d) → mem wanted r ≡ true → AlikeIn M.transitions x c d wanted t → Gives M ρ t r → W r
        → (s : ℕ) × Gives M τ t s × W s
    argument (var y) {r = r} W swap live alike (assigned e) w = elim (ℕ_discrete y x) [
      | yes same ↦ let is_c : r ≡ c = sym e ∙ (ap ρ same ∙ has-c) in let is-d : τ y ≡ d = ap τ same ∙ has-d in (d, assigned is-d, swap (ap var same) (subst W is_c w))
      | no other ↦ (r, assigned (sym (agree y other) ∙ e), w)
    ]
    argument (node g us) {wanted} {r} W swap live (over alike) (applied m ds) w =
        let (qs, es, n) = row us {wanted = wanted} {f = g} {n = 0} (λ qs. Memᴰ (g of qs gives r) M.transitions)
        (λ i p at a qs. let same : p ≡ i = omega arith in rw same at (a.same qs r live).0)
        (λ i p at below k qs m h. let same : p ≡ i = omega arith in rw same at (k.all qs r live m (rw same h))) alike ds m in
        (r, applied n es, w)

    -- A row of arguments, from argument n of the symbol f on.
    row : (ts : Terms ℕ) {wanted f n : ℕ} {rs : List ℕ} (W : List ℕ → Type 0) → ((i p : ℕ) → p ≡ n + i → AlikeAt M.transitions wanted f p c d → (qs : List ℕ) → W (set qs i c) → W (set qs i d))
        → ((i p : ℕ) → p ≡ n + i → (below : ℕ) → Calls M.transitions wanted f p below → (qs : List ℕ) → W qs → i < length qs → mem below (get_or qs i 0) ≡ true)
        → AlikeRow M.transitions x c d wanted f n ts → GivesAll M ρ ts rs → W rs → (ss : List ℕ) × GivesAll M τ ts ss × W ss
    row none W swap live end nothing w = ([], nothing, w)
    row (t then ts) {n = n} W swap live (more below here calls within later) (◌next◌ {qs = rs} e es) w =
        let (s, h, v) = argument t (λ s. W (s ∷ rs)) (λ same. swap 0 n (omega arith) (here same) (c ∷ rs)) (live 0 n (omega arith) below calls (_ ∷ rs) w (omega arith)) within e w in
        let (ss, hs, u) = row ts (λ ss. W (s ∷ ss)) (λ i p same a qs. swap (suc i) p (omega arith) a (s ∷ qs))
        (λ i p same below k qs v h. live (suc i) p (omega arith) below k (s ∷ qs) v (omega arith)) later es v in
        (s ∷ ss, h next hs, u)

  -- A term that is not x itself gives with d what it gives with c.
  pub carries : {t : Term ℕ} {q : ℕ} → AlikeFor M x c d t → Gives M ρ t q → Gives M τ t q
  carries {t = var y} a (assigned e) = assigned (sym (agree y (λ same. a.not_bare (ap var same))) ∙ e)
  carries {t = node f us} {q} a (applied {qs = qs} m ds) =
      let (s, h, same) = argument (node f us) (λ s. s ≡ q) (λ bare. absurd (a.not_bare bare)) (a.targets f qs q m) a.places (applied m ds) refl in rw same at h

into : {M : Automaton} {x c d : ℕ} {t : Term ℕ} {q : ℕ} (σ : List ℕ) → AlikeFor M x c d t → x < length σ → Gives M (entry (set σ x c)) t q → Gives M (entry (set σ x d)) t q
unfolding entry
into {M} {x} {c} {d} σ a l =
    carries M x c d (entry (set σ x c)) (entry (set σ x d)) (get_or-set_same σ x c 0 l) (get_or-set_same σ x d 0 l) (λ y n. get_or-set_other σ x y c 0 n ∙ sym (get_or-set_other σ x y d 0 n)) a

-- The key: the value is the same with c as with d.
pub same_value : {M : Automaton} {x c d : ℕ} {t : Term ℕ} → AlikeFor M x c d t → SameValue M x c d t
same_value {x = x} {c} {d} a = record {
  same = λ σ q. elim (dec_lt x (length σ)) [
    | yes l ↦ (into σ a l, into σ (alike_for_sym a) l)
    | no n ↦ rw (set_out σ x c (omega arith), set_out σ x d (omega arith)) (λ g. g, λ g. g)
  ];
}
