-- Substitutions without a critical pair: one class more of a prefix, and the pairs of classes of the two last variables, a batch after the other.
use mathlib.Core.Path.{◌≡◌, refl, sym, ap, subst, ◌∙◌}
use mathlib.Core.Bool.{false}
use mathlib.Core.Logic.{⊎_elim}
use mathlib.Core.List.Memᴰ
use mathlib.Core.List.{List, [], ◌∷◌, ◌++◌, append_assoc}
use Prim.Native.Nat.{ℕ, suc, ◌+◌, ◌-◌, ◌*◌, ◌≤◌, ◌<◌}
use native.Mathlib.Nat.{mul-le-mul_right}
use native.Mathlib.Decide.{dec_lt}
use native.Mathlib.Omega.{arith}
use lib.ListN.{length, get_or, length-append, get_or-append}
use lib.Seq.{get_or-append-add}
use Rattle.theory.specs.Term.{Term}
use Rattle.theory.specs.Rewriting.{Rule}
use Rattle.theory.specs.Automaton.{Automaton}
use Rattle.theory.specs.Critical.{entry}
use Rattle.theory.specs.Value.{is_critical}
use Rattle.sets.specs.Sets.{Set, none, plus}
use Rattle.values.specs.Standing.{Each}
use Rattle.values.proofs.Spanned.{each_then}
use Rattle.lanes.specs.Batches.{differ, Calm, CalmAll}
use Rattle.lanes.proofs.Coded.{critical_lane}

-- The same bound on a term's variables by another name.
pub each_below : {v w : ℕ} {t : Term ℕ} → v ≡ w → Each (λ x. x < v) t → Each (λ x. x < w) t
each_below {t = t} e = subst (λ n. Each (λ x. x < n) t) e

-- In each lane the first variables have the classes zs, and the next two the digits of the lane's number, to the base k, counted from `start` on.
pub record Laid (k : ℕ) (zs : List ℕ) (start : ℕ) (ρ : ℕ → ℕ → Set) : Type 0 where
  pub front : (x l : ℕ) → x < length zs → l < 512 → ρ l x ≡ plus none (get_or zs x 0)
  pub high : (a b l : ℕ) → a < k → b < k → l < 512 → a * k + b ≡ start + l → ρ l (length zs) ≡ plus none a
  pub low : (a b l : ℕ) → a < k → b < k → l < 512 → a * k + b ≡ start + l → ρ l (length zs + 1) ≡ plus none b

-- So the sets of a lane are the classes of its substitution.
laid_exact : (k : ℕ) (zs : List ℕ) (start : ℕ) (ρ : ℕ → ℕ → Set) → Laid k zs start ρ → (a b l : ℕ) → a < k → b < k → l < 512 → a * k + b ≡ start + l
    → (x : ℕ) → x < length zs + 2 → ρ l x ≡ plus none (entry (zs ++ (a ∷ (b ∷ []))) x)
unfolding entry
laid_exact k zs start ρ laid a b l ha hb hl is x h =
    elim (dec_lt x (length zs)) [
      | yes in-front ↦ laid.front x l in-front hl ∙ ap (plus none) (sym (get_or-append zs (a ∷ (b ∷ [])) 0 x in-front))
      | no late ↦ elim (dec_lt (length zs) x) [
        | yes last ↦
            let e : x ≡ length zs + 1 = omega arith in
            ap (ρ l) e ∙ laid.low a b l ha hb hl is ∙ ap (plus none) (sym (ap (λ n. get_or (zs ++ (a ∷ (b ∷ []))) n 0) e ∙ get_or-append-add zs (a ∷ (b ∷ [])) 1 0))
        | no first ↦
            let e : x ≡ length zs + 0 = omega arith in
            let f : x ≡ length zs = omega arith in
            ap (ρ l) f ∙ laid.high a b l ha hb hl is ∙ ap (plus none) (sym (ap (λ n. get_or (zs ++ (a ∷ (b ∷ []))) n 0) e ∙ get_or-append-add zs (a ∷ (b ∷ [])) 0 0))
      ]
    ]

module _ (M : Automaton) (rule : Rule) where
  -- What is calm stays so with one more class of the prefix.
  pub calm_more : (v : ℕ) (xs : List ℕ) (y : ℕ) → y < M.states → Calm M rule v xs → Calm M rule v (xs ++ (y ∷ []))
  calm_more v xs y hy calm τ long low q hq =
      ap (λ σ. is_critical M rule σ q) (append_assoc xs (y ∷ []) τ)
      ∙ calm (y ∷ τ) (omega (arith, length-append xs (y ∷ []))) (λ c w. ⊎_elim (λ e. omega arith) (λ w'. low c w') (Memᴰ.cases_cons w)) q hq

  -- The pairs of classes whose number is below n have no critical pair behind the classes zs.
  abbrev pub Seen : List ℕ → ℕ → Type 0
  Seen zs n = (a b : ℕ) → a < M.states → b < M.states → a * M.states + b < n → (q : ℕ) → q < M.states → is_critical M rule (zs ++ (a ∷ (b ∷ []))) q ≡ false

  pub seen_none : (zs : List ℕ) → Seen zs 0
  seen_none zs a b ha hb h q hq = absurd (omega arith)

  pub seen_all : (zs : List ℕ) (n : ℕ) → M.states * M.states ≤ n → Seen zs n → CalmAll M rule zs
  seen_all zs n h seen [] long low q hq = absurd (omega arith)
  seen_all zs n h seen (a ∷ []) long low q hq = absurd (omega arith)
  seen_all zs n h seen (a ∷ (b ∷ [])) long low q hq =
      let ha : a < M.states = low a (Memᴰ.head refl) in
      let hb : b < M.states = low b (Memᴰ.tail (Memᴰ.head refl)) in
      seen a b ha hb (omega (arith, mul-le-mul_right {m = suc a} {n = M.states} M.states ha)) q hq
  seen_all zs n h seen (a ∷ (b ∷ (c ∷ τ))) long low q hq = absurd (omega arith)

  pub swept : (xs : List ℕ) (y n : ℕ) → M.states * M.states ≤ n → Seen (xs ++ (y ∷ [])) n → Calm M rule (length xs + 3) (xs ++ (y ∷ []))
  swept xs y n h seen τ long = seen_all (xs ++ (y ∷ [])) n h seen τ (omega (arith, length-append xs (y ∷ [])))

  -- One batch more.
  pub seen_more : (zs : List ℕ) (start : ℕ) (ρ : ℕ → ℕ → Set) → Each (λ x. x < length zs + 2) rule.left → Each (λ x. x < length zs + 2) rule.right → Laid M.states zs start ρ
      → ((l : ℕ) → l < 512 → (q : ℕ) → q < M.states → differ M.transitions (ρ l) rule q ≡ false) → Seen zs start → Seen zs (start + 512)
  seen_more zs start ρ left right laid clear old a b ha hb h q hq =
      elim (dec_lt (a * M.states + b) start) [
        | yes before ↦ old a b ha hb before q hq
        | no after ↦
            let l = a * M.states + b - start in
            let σ = zs ++ (a ∷ (b ∷ [])) in
            let exact = laid_exact M.states zs start ρ laid a b l ha hb (omega arith) (omega arith) in
            sym (critical_lane M rule (ρ l) σ
            (each_then (λ x. x < length zs + 2) (λ x. ρ l x ≡ plus none (entry σ x)) exact left)
            (each_then (λ x. x < length zs + 2) (λ x. ρ l x ≡ plus none (entry σ x)) exact right) q)
            ∙ clear l (omega arith) q hq
      ]
