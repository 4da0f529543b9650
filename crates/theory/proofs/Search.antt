-- Which substitutions are examined, and which states a left side can have.
use mathlib.Core.Path.{◌≡◌, refl, ap}
use mathlib.Core.Logic.{inl, inr}
use mathlib.Core.List.Memᴰ
use mathlib.Core.List.{List, [], ◌∷◌, map, Memᴰ}
use Prim.Native.Nat.{ℕ, zero, suc, ◌<◌}
use native.Mathlib.Omega.{arith}
use lib.ListN.{length}
use Rattle.theory.specs.Lists.{count_from}
use Rattle.theory.specs.Term.{Term, var, node}
use Rattle.theory.specs.Automaton.{Automaton, InRange, Gives, applied}
use Rattle.theory.specs.Value.{spread, substitutions}
use Rattle.theory.proofs.Nth.{all_cons}
use Rattle.theory.proofs.Count.{mem_order, order_mem}

spread_sound : {σ : List ℕ} (cs : List ℕ) (ls : List (List ℕ)) → Memᴰ σ (spread cs ls) → (c : ℕ) × (l : List ℕ) × Memᴰ c cs × Memᴰ l ls × (c ∷ l ≡ σ)
unfolding spread
spread_sound [] ls m = absurd (Memᴰ.not-nil m)
spread_sound (c ∷ cs) ls m = elim (Memᴰ.append_cases (map (λ l. c ∷ l) ls) m) [
  | inl n ↦ let (l, i, e) = Memᴰ.of_map (λ l. c ∷ l) ls n in (c, l, Memᴰ.head refl, i, e)
  | inr n ↦ let (d, l, i, j, e) = spread_sound cs ls n in (d, l, Memᴰ.tail i, j, e)
]

spread_complete : {c : ℕ} {l : List ℕ} {cs : List ℕ} (ls : List (List ℕ)) → Memᴰ c cs → Memᴰ l ls → Memᴰ (c ∷ l) (spread cs ls)
unfolding spread
spread_complete {cs = []} ls n m = elim n [ ]
spread_complete {l = l} {cs = d ∷ cs} ls (Memᴰ.head e) m = Memᴰ.append_left (spread cs ls) (Memᴰ.cast (ap (λ x. x ∷ l) e) (Memᴰ.map (λ l. d ∷ l) m))
spread_complete {cs = d ∷ cs} ls (Memᴰ.tail n) m = Memᴰ.append_right (map (λ l. d ∷ l) ls) (spread_complete ls n m)

-- Each has an entry for every variable, and its entries are below k.
pub substitutions_sound : {σ : List ℕ} (k v : ℕ) → Memᴰ σ (substitutions k v) → (length σ ≡ v) × ((c : ℕ) → Memᴰ c σ → c < k)
unfolding substitutions
substitutions_sound k zero (Memᴰ.head e) = rw e (refl, λ c m. absurd (Memᴰ.not-nil m))
substitutions_sound k zero (Memᴰ.tail m) = absurd (Memᴰ.not-nil m)
substitutions_sound {σ} k (suc v) m =
    let (c, l, i, j, e) = spread_sound (count_from 0 k) (substitutions k v) m in
    let (n, b) = substitutions_sound {σ = l} k v j in
    rw (← e) (ap suc n, all_cons (omega (arith, (mem_order 0 k i).1)) b)

-- All such are there.
pub substitutions_complete : (k : ℕ) (σ : List ℕ) → ((c : ℕ) → Memᴰ c σ → c < k) → Memᴰ σ (substitutions k (length σ))
unfolding substitutions
substitutions_complete k [] b = Memᴰ.head refl
substitutions_complete k (c ∷ σ) b =
    spread_complete (substitutions k (length σ)) (order_mem 0 k c (omega arith) (omega (arith, b c (Memᴰ.head refl)))) (substitutions_complete k σ (λ d m. b d (Memᴰ.tail m)))

-- A term that is no bare variable evaluates to states in range only.
pub left_below : {M : Automaton} → InRange M → (t : Term ℕ) {σ : ℕ → ℕ} {q : ℕ} → ((x : ℕ) → t ≡ var x → ⊥) → Gives M σ t q → q < M.states
left_below range (var x) bare d = absurd (bare x refl)
left_below range (node f ts) bare (applied m ds) = range.targets _ m
