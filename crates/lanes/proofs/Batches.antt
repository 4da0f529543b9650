-- The lanes of a batch: in lane j below k each variable has the class that the lane's substitution gives it, so the sides' sheets tell its critical pairs.
use mathlib.Core.Path.{◌≡◌, refl, sym, ap, ap₂, ◌∙◌}
use mathlib.Core.Bool.{Bool}
use mathlib.Core.List.{List}
use Prim.Native.Nat.{ℕ, zero, suc, ◌+◌, ◌-◌, ◌*◌, ◌^◌, ◌≤◌, ◌<◌}
use native.Mathlib.Nat.{pow-zero, mul-le-mul}
use native.Mathlib.Decide.{dec_lt}
use native.Mathlib.Omega.{arith}
use lib.ListN.{length, get_or, take}
use lib.Seq.{length-take-le, get_or-take}
use Rattle.theory.specs.Rewriting.{Rule}
use Rattle.theory.specs.Automaton.{Automaton}
use Rattle.theory.specs.Critical.{entry}
use Rattle.theory.specs.Value.{is_critical}
use Rattle.sets.specs.Sets.{Set, none, plus, less}
use Rattle.woven.specs.Ready.{Ready}
use Rattle.woven.specs.Woven.{woven_moves}
use Rattle.values.specs.Lanes.{given}
use Rattle.values.specs.Standing.{Each}
use Rattle.values.proofs.Spanned.{each_then}
use Rattle.lanes.specs.Prefixes.{rest, chosen}
use Rattle.lanes.specs.Batches.{differ, Touched, Fixed, Paired, BothTouched, Compared, Prefix, BeforeLast, Batch}
use Rattle.lanes.specs.Automaton.{woven_automaton}
use Rattle.lanes.proofs.Coded.{critical_lane}
use Rattle.lanes.proofs.Numbers.{rest_last}
use Rattle.lanes.proofs.Stays.{given_stays}

-- A lane of a batch is below k.
lane_class : (k v j : ℕ) → 1 ≤ k → v ≤ 4 → j < k ^ rest v 3 → j < k
unfolding rest
lane_class k zero j some few h = omega (arith, pow-zero k)
lane_class k (suc v) j some few h = omega (arith, rest_last k v few)

-- The substitution in lane j, the classes of the first variables being the first of xs.
abbrev pub in_lane : (v : ℕ) → List ℕ → ℕ → List ℕ
in_lane v xs = chosen v (get_or xs 0 0) (get_or xs 1 0) (get_or xs 2 0)

-- A variable before the last has its class in xs, and the last has the lane's number.
module _ (xs : List ℕ) (j : ℕ) where
  chosen_last : (v : ℕ) → v < 4 → entry (in_lane (v + 1) xs j) v ≡ j
  unfolding chosen entry
  chosen_last zero h = refl
  chosen_last (suc zero) h = refl
  chosen_last (suc (suc zero)) h = refl
  chosen_last (suc (suc (suc zero))) h = refl
  chosen_last (suc (suc (suc (suc v)))) h = absurd (omega arith)

  chosen_before : (v x : ℕ) → v ≤ 4 → x + 1 < v → entry (in_lane v xs j) x ≡ get_or xs x 0
  unfolding chosen entry
  chosen_before zero x few h = absurd (omega arith)
  chosen_before (suc zero) x few h = absurd (omega arith)
  chosen_before (suc (suc zero)) zero few h = refl
  chosen_before (suc (suc zero)) (suc x) few h = absurd (omega arith)
  chosen_before (suc (suc (suc zero))) zero few h = refl
  chosen_before (suc (suc (suc zero))) (suc zero) few h = refl
  chosen_before (suc (suc (suc zero))) (suc (suc x)) few h = absurd (omega arith)
  chosen_before (suc (suc (suc (suc v)))) zero few h = refl
  chosen_before (suc (suc (suc (suc v)))) (suc zero) few h = refl
  chosen_before (suc (suc (suc (suc v)))) (suc (suc zero)) few h = refl
  chosen_before (suc (suc (suc (suc v)))) (suc (suc (suc x))) few h = absurd (omega arith)

-- In each lane below k the variables below v have the classes of the lane's substitution, and the rows are as many as before.
pub record Placed (k v : ℕ) (xs : List ℕ) (m after : List (List ℕ)) : Type 0 where
  pub long : length after ≡ length m
  pub exact : (j : ℕ) → j < k → (x : ℕ) → x < v → given k after j x ≡ plus none (entry (in_lane v xs j) x)

-- At most one variable.
pub placed_one : {k v : ℕ} {xs : List ℕ} {m after : List (List ℕ)} → v < 2 → Paired k after 1 0 0 k → BothTouched k 1 0 m after → Placed k v xs m after
unfolding chosen entry
placed_one {k = k} {v = v} {xs = xs} {after = after} few paired touched = record { long = touched.long; exact = exact v few }
  where
    exact : (v : ℕ) → v < 2 → (j : ℕ) → j < k → (x : ℕ) → x < v → given k after j x ≡ plus none (entry (in_lane v xs j) x)
    exact zero few j h x low = absurd (omega arith)
    exact (suc zero) few j h zero low = paired.low 0 j j (omega arith) h h (omega arith)
    exact (suc zero) few j h (suc x) low = absurd (omega arith)
    exact (suc (suc v)) few j h x low = absurd (omega arith)

-- The classes of the variables before the last two.
module _ {k v : ℕ} {xs : List ℕ} (before : BeforeLast k v xs) where
  pub front_long : length (take (v - 2) xs) ≡ v - 2
  front_long = length-take-le (v - 2) xs (omega arith)

  pub front : Prefix k 4 (take (v - 2) xs)
  front = record { few = omega (arith, front_long); low = λ x h. omega (arith, get_or-take (v - 2) xs x 0 (omega (arith, front_long)), before.low x) }

-- The first lane's number of a batch.
pub start_low : {k x : ℕ} → x < k → k ≤ 64 → x * k ≤ 4032
start_low {k = k} {x = x} h most = let low : x ≤ 63 = omega arith in mul-le-mul low most

-- Two or more: those before the last two are fixed, and of these two the first has its class in every lane.
module _ (k v : ℕ) (xs : List ℕ) {m mid after : List (List ℕ)} (many : 2 ≤ v) (most : k ≤ 64) (before : BeforeLast k v xs)
    (fixed : Fixed k mid (take (v - 2) xs)) (fixing : Touched k 0 (length (take (v - 2) xs)) m mid)
    (paired : Paired k after (v - 2) (v - 1) (get_or xs (v - 2) 0 * k) k) (touched : BothTouched k (v - 2) (v - 1) mid after) where
  first_ones : (j : ℕ) → j < k → (x : ℕ) → x < v - 2 → given k after j x ≡ plus none (get_or xs x 0)
  first_ones j h x l =
      given_stays k mid after x j (λ q hq. touched.others x q (omega arith) hq (λ e. omega arith) (λ e. omega arith))
      ∙ fixed.each x j (omega (arith, front_long before)) (omega arith) ∙ ap (plus none) (get_or-take (v - 2) xs x 0 l)

  pub placed_more : Placed k v xs m after
  placed_more = record { long = touched.long ∙ fixing.long; exact = exact }
    where
      high : (j : ℕ) → j < k → given k after j (v - 2) ≡ plus none (get_or xs (v - 2) 0)
      high j h = paired.high (get_or xs (v - 2) 0) j j (before.low (v - 2)) h h refl

      last : (j : ℕ) → j < k → given k after j (v - 1) ≡ plus none j
      last j h = paired.low (get_or xs (v - 2) 0) j j (before.low (v - 2)) h h refl

      exact : (j : ℕ) → j < k → (x : ℕ) → x < v → given k after j x ≡ plus none (entry (in_lane v xs j) x)
      exact j h x hx = elim (dec_lt (x + 1) v) [
        | yes earlier ↦
            elim (dec_lt x (v - 2)) [
              | yes early ↦ first_ones j h x early
              | no late ↦ let e : x ≡ v - 2 = omega arith in ap (given k after j) e ∙ high j h ∙ ap (λ i. plus none (get_or xs i 0)) (sym e)
            ]
            ∙ ap (plus none) (sym (chosen_before xs j v x before.few earlier))
        | no end ↦
            let e : x ≡ v - 1 = omega arith in
            let f : v ≡ x + 1 = omega arith in
            ap (given k after j) e ∙ last j h
            ∙ ap (plus none) (sym (ap (λ n. entry (in_lane n xs j) x) f ∙ chosen_last xs j x (omega arith)))
      ]

-- What comparing the sides says of the batch's substitutions.
module _ {arities words heads : List ℕ} {k v : ℕ} {xs : List ℕ} {m mid : List (List ℕ)} (ready : Ready arities words heads k) (few : v ≤ 4) (placed : Placed k v xs m mid)
    (rule : Rule) (left : Each (λ x. x < v) rule.left) (right : Each (λ x. x < v) rule.right) where
  abbrev M : Automaton
  M = woven_automaton arities words heads k

  abbrev Same : ℕ → ℕ → Type 0
  Same l x = given k mid l x ≡ plus none (entry (in_lane v xs l) x)

  critical_there : (l : ℕ) → l < k → (q : ℕ) → differ M.transitions (given k mid l) rule q ≡ is_critical M rule (in_lane v xs l) q
  critical_there l h q =
      critical_lane M rule (given k mid l) (in_lane v xs l) (each_then (λ x. x < v) (Same l) (placed.exact l h) left) (each_then (λ x. x < v) (Same l) (placed.exact l h) right) q

  inside : (l : ℕ) → l < k ^ rest v 3 → l < k
  inside l h = lane_class k v l ready.some few h

  pub batch_compared : {tokens : List ℕ} {after : List (List ℕ)} {found : Bool} → Compared (woven_moves arities words (get_or heads 64 0)) tokens k mid after rule found
      → Batch M rule v (get_or xs 0 0) (get_or xs 1 0) (get_or xs 2 0) tokens after found
  unfolding woven_automaton
  batch_compared compared = record {
    each = λ e l h q.
        let low : l < 512 = omega (arith, inside l h, ready.most) in
        ap₂ (λ (a b : Set). less a b q) (compared.left e l low) (compared.right e l low) ∙ critical_there l (inside l h) q;
    clear = λ e l h q hq. let low : l < 512 = omega (arith, inside l h, ready.most) in sym (critical_there l (inside l h) q) ∙ compared.clear e l low q hq;
  }
