-- A critical pair's place is the scope's order: rules as written, then x0 most significant, classes ascending.
use mathlib.Core.Path.{◌≡◌, refl, sym, ap, ◌∙◌}
use mathlib.Core.Logic.{◌⊎◌, inl, inr, ◌↔◌}
use mathlib.Core.List.{List, [], ◌∷◌, Memᴰ}
use Prim.Native.Nat.{ℕ, zero, suc, ◌+◌, ◌*◌, ◌^◌, ◌≤◌, ◌<◌}
use native.Mathlib.Omega.{arith}
use native.Mathlib.Decide.{dec_lt}
use native.Mathlib.Nat.{suc-mul, pow-zero, pow-succ', mul-le-mul_right}
use lib.ListN.{length, take}
use Rattle.theory.specs.Lists.{Nth}
use Rattle.theory.specs.Rewriting.{Rule, variable_count}
use Rattle.theory.specs.Automaton.{Automaton}
use Rattle.theory.specs.Critical.{Substitutable, CriticalPair}
use Rattle.theory.proofs.Nth.{nth_one}
use Rattle.paper.specs.Meaning.{total, place_of, Earlier, place}

-- Every class of the substitution is below k.
abbrev Below : ℕ → List ℕ → Type 0
Below k σ = (c : ℕ) → Memᴰ c σ → c < k

-- A substitution's place is below the number of substitutions.
place_below : (k : ℕ) (σ : List ℕ) → Below k σ → place_of k σ < k ^ length σ
unfolding place_of
place_below k [] b = rw (pow-zero k) (omega arith)
place_below k (x ∷ σ) b =
    let inner = place_below k σ (λ c m. b c (Memᴰ.tail m)) in
    let step : suc x * k ^ length σ ≤ k * k ^ length σ = mul-le-mul_right (k ^ length σ) (b x (Memᴰ.head refl)) in
    rw pow-succ' (omega (arith, suc-mul x (k ^ length σ)))

earlier_place : (k : ℕ) (σ τ : List ℕ) → length σ ≡ length τ → Below k σ → Earlier σ τ → place_of k σ < place_of k τ
unfolding place_of Earlier
earlier_place k [] τ l b e = absurd e
earlier_place k (x ∷ σ) [] l b e = absurd e
earlier_place k (x ∷ σ) (y ∷ τ) l b (inl h) =
    let inner = place_below k σ (λ c m. b c (Memᴰ.tail m)) in
    let step : suc x * k ^ length σ ≤ y * k ^ length σ = mul-le-mul_right (k ^ length σ) h in
    let size : k ^ length σ ≡ k ^ length τ = ap (λ (n : ℕ). k ^ n) (omega arith) in
    rw (← size) (omega (arith, suc-mul x (k ^ length σ)))
earlier_place k (x ∷ σ) (y ∷ τ) l b (inr (e, h)) =
    let inner = earlier_place k σ τ (omega arith) (λ c m. b c (Memᴰ.tail m)) h in
    let size : k ^ length σ ≡ k ^ length τ = ap (λ (n : ℕ). k ^ n) (omega arith) in
    rw (e, size) (omega arith)

-- Of two substitutions of one rule one is earlier, or they are the same.
compared : (σ τ : List ℕ) → length σ ≡ length τ → Earlier σ τ ⊎ ((σ ≡ τ) ⊎ Earlier τ σ)
unfolding Earlier
compared [] [] l = inr (inl refl)
compared [] (y ∷ τ) l = absurd (omega arith)
compared (x ∷ σ) [] l = absurd (omega arith)
compared (x ∷ σ) (y ∷ τ) l = elim (dec_lt x y) [
  | yes h ↦ inl (inl h)
  | no h ↦ elim (dec_lt y x) [
    | yes g ↦ inr (inr (inl g))
    | no g ↦
        let same : x ≡ y = omega arith in
        elim (compared σ τ (omega arith)) [ inl e ↦ inl (inr (same, e)) | inr o ↦ elim o [ inl e ↦ inr (inl cc) | inr e ↦ inr (inr (inr (sym same, e))) ] ]
  ]
]

-- The substitutions of the rules before number j take in those of rule number i, where i is smaller.
total_before : (k : ℕ) (R : List Rule) (i j : ℕ) (rule : Rule) → Nth R i rule → i < j → total k (take i R) + k ^ variable_count rule ≤ total k (take j R)
unfolding total Nth
total_before k [] i j rule n l = absurd n
total_before k (r ∷ R) i zero rule n l = absurd (omega arith)
total_before k (r ∷ R) zero (suc j) rule e l = rw e (omega arith)
total_before k (r ∷ R) (suc i) (suc j) rule n l = omega (arith, total_before k R i j rule n (omega arith))

module _ (M : Automaton) (R : List Rule) where
  -- The pair p comes before q: its rule does, or it has the same rule and its substitution does.
  abbrev Precedes : CriticalPair M R → CriticalPair M R → Type 0
  Precedes p q = (p.number < q.number) ⊎ ((p.number ≡ q.number) × Earlier p.σ q.σ)

  precedes_place : (p q : CriticalPair M R) → Precedes p q → place M R p < place M R q
  unfolding place Substitutable
  precedes_place p q (inl h) =
      let size : k ^ length p.σ ≡ k ^ variable_count p.rule = ap (λ (n : ℕ). k ^ n) p.complete in
      omega (arith, place_below k p.σ p.allowed, total_before k R p.number q.number p.rule p.listed h)
    where
      k : ℕ
      k = M.states
  precedes_place p q (inr (e, h)) =
      let rules : q.rule ≡ p.rule = nth_one R q.number q.listed (rw e at p.listed) in
      let long : length p.σ ≡ length q.σ = p.complete ∙ (ap variable_count (sym rules) ∙ sym q.complete) in
      let front : total M.states (take p.number R) ≡ total M.states (take q.number R) = ap (λ i. total M.states (take i R)) e in
      omega (arith, earlier_place M.states p.σ q.σ long p.allowed h)

  -- A place is smaller exactly where the pair comes before.
  pub order_exact : (p q : CriticalPair M R) → (place M R p < place M R q) ↔ ((p.number < q.number) ⊎ ((p.number ≡ q.number) × Earlier p.σ q.σ))
  unfolding place
  order_exact p q = (back, precedes_place p q)
    where
      back : place M R p < place M R q → Precedes p q
      back l = elim (dec_lt p.number q.number) [
        | yes h ↦ inl h
        | no h ↦ elim (dec_lt q.number p.number) [
          | yes g ↦ absurd (omega (arith, precedes_place q p (inl g)))
          | no g ↦
              let e : p.number ≡ q.number = omega arith in
              let rules : q.rule ≡ p.rule = nth_one R q.number q.listed (rw e at p.listed) in
              let long : length p.σ ≡ length q.σ = p.complete ∙ (ap variable_count (sym rules) ∙ sym q.complete) in
              elim (compared p.σ q.σ long) [
                | inl d ↦ inr (e, d)
                | inr o ↦ elim o [
                  | inl d ↦
                      let front : total M.states (take p.number R) ≡ total M.states (take q.number R) = ap (λ i. total M.states (take i R)) e in
                      let inner : place_of M.states p.σ ≡ place_of M.states q.σ = ap (place_of M.states) d in
                      absurd (omega arith)
                  | inr d ↦ absurd (omega (arith, precedes_place q p (inr (sym e, d))))
                ]
              ]
        ]
      ]
