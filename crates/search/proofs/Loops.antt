-- What holds at each of the search's loops.
use mathlib.Core.Path.{◌≡◌, sym, ap, ◌∙◌, subst}
use mathlib.Core.List.{List, [], ◌∷◌}
use Prim.Native.Nat.{ℕ, ◌*◌, ◌^◌, ◌≤◌, ◌<◌}
use lib.ListN.{length, take}
use Rattle.paper.specs.Meaning.{total}
use Rattle.tables.specs.Held.{rules_of}
use Rattle.tables.specs.declared.Rules.{Rules}
use Rattle.lanes.specs.Prefixes.{choices}
use Rattle.lanes.specs.Automaton.{woven_automaton}
use Rattle.search.specs.Searched.{Opened}
use Rattle.search.proofs.Order.{rule_in}
use Rattle.search.proofs.Walk.{Clear, Level}
use Rattle.search.proofs.Steps.{Searching, Ruled, Lanes}

-- The rows are as many as at first, and enough.
pub record Roomed (k : ℕ) (m₀ m : List (List ℕ)) : Type 0 where
  pub room : 52 * k ≤ length m
  pub same : length m ≡ length m₀

module _ (arities words heads : List ℕ) (rules : Rules) (k : ℕ) where
  -- Before a rule.
  pub record AtRule (budget most size : ℕ) (m₀ m : List (List ℕ)) (examined rule : ℕ) : Type 0 where
    pub ok : Searching arities words heads rules k
    pub small : budget < 4294967296
    pub is_most : most ≡ budget
    pub is_size : size ≡ k
    pub place : examined ≡ total k (take rule (rules_of arities rules))
    pub within : examined ≤ budget
    pub clear : Clear (woven_automaton arities words heads k) (rules_of arities rules) examined
    pub rows : Roomed k m₀ m

  module _ (budget most size r : ℕ) (tokens : List ℕ) (v lanes passed1 passed0 m0 m1 m2 variables right leads1 : ℕ) where
    -- At a choice of the variable after the prefix xs, of which the classes in `mask` are gone into.
    pub record AtChoice (i : ℕ) (xs : List ℕ) (mask : ℕ) (m₀ m : List (List ℕ)) (start y n : ℕ) : Type 0 where
      pub ruled : Ruled arities words heads rules k budget most size r tokens v lanes passed1 passed0 m0 m1 m2 variables right leads1
      pub level : Level (woven_automaton arities words heads k) (rules_of arities rules) v i r (rule_in (rules_of arities rules) r) xs budget start y n
      pub opened : Opened (woven_automaton arities words heads k) (rule_in (rules_of arities rules) r) v xs mask
      pub rows : Roomed k m₀ m

    -- At a choice of the third variable.
    pub record AtThird (x0 x1 : ℕ) (m₀ m : List (List ℕ)) (start x2 n : ℕ) : Type 0 where
      pub ruled : Ruled arities words heads rules k budget most size r tokens v lanes passed1 passed0 m0 m1 m2 variables right leads1
      pub level : Level (woven_automaton arities words heads k) (rules_of arities rules) v 2 r (rule_in (rules_of arities rules) r) (x0 ∷ (x1 ∷ [])) budget start x2 n
      pub low0 : x0 < k
      pub low1 : x1 < k
      pub rows : Roomed k m₀ m

    -- At a lane.
    pub record AtLane (x0 x1 x2 : ℕ) (m : List (List ℕ)) (start j n : ℕ) : Type 0 where
      pub ruled : Ruled arities words heads rules k budget most size r tokens v lanes passed1 passed0 m0 m1 m2 variables right leads1
      pub lane : Lanes arities words heads rules k budget r v x0 x1 x2 right m start j n
      pub room : 52 * k ≤ length m

-- Numbers that are the same under two names.
pub times : {n b : ℕ} (k : ℕ) → n ≡ b → n * k ≡ b * k
times k e = ap (λ n. n * k) e

pub powered : {r n k : ℕ} (w : ℕ) → r ≡ n ^ w → n ≡ k → r ≡ k ^ w
powered w e is = e ∙ ap (λ n. n ^ w) is

pub chosen_from : {r n k : ℕ} (v i : ℕ) → r ≡ choices n v i → n ≡ k → r ≡ choices k v i
chosen_from v i e is = e ∙ ap (λ n. choices n v i) is

pub roomed : {k : ℕ} {m₀ m l : List (List ℕ)} → l ≡ m → 52 * k ≤ length m → length m ≡ length m₀ → Roomed k m₀ l
roomed {k} e room same = record { room = subst (λ n. 52 * k ≤ n) (sym (ap length e)) room; same = ap length e ∙ same }
