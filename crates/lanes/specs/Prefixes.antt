-- The classes that a prefix of a rule's variables has, and what is left to choose.
use Rattle.std.specs.Prelude.{cond, List, [], ◌∷◌, ℕ, zero, suc, ◌+◌, ◌-◌, ◌≤◌, ◌<◌, max, min, ltb, eqb, get_or}
use Rattle.verdicts.specs.declared.critical_pair.CriticalPair.{CriticalPair}

-- How many of v variables are left where the first i have their classes: the last one is always left, since all its classes are judged at once.
unfoldable pub rest : ℕ → ℕ → ℕ
rest v i = max (v - i) (min v 1)

-- How many classes the variable i runs through by itself: k, or one where it is the last or there is none.
unfoldable pub choices : ℕ → ℕ → ℕ → ℕ
choices k v i = cond (ltb (i + 1) v) k 1

-- The substitution of v variables in lane j: the first have the classes x0, x1, x2, and the last has the class j.
unfoldable pub chosen : ℕ → ℕ → ℕ → ℕ → ℕ → List ℕ
chosen zero x0 x1 x2 j = []
chosen (suc zero) x0 x1 x2 j = j ∷ []
chosen (suc (suc zero)) x0 x1 x2 j = x0 ∷ j ∷ []
chosen (suc (suc (suc zero))) x0 x1 x2 j = x0 ∷ x1 ∷ j ∷ []
chosen (suc (suc (suc (suc v)))) x0 x1 x2 j = x0 ∷ x1 ∷ x2 ∷ j ∷ []

-- The class that is shown of the variable i of v: its own before the last one, the lane's for the last, and 255 where there is no such variable.
abbrev pub shown : (v i own lane : ℕ) → ℕ
shown v i own lane = cond (ltb (i + 1) v) own (cond (eqb (i + 1) v) lane 255)

-- What writing a critical pair relies on: its rule, its variables' classes and its own are small numbers.
pub record Writable (rule v x0 x1 x2 j q : ℕ) : Type 0 where
  pub low_rule : rule < 64
  pub few : v ≤ 4
  pub low0 : x0 < 64
  pub low1 : x1 < 64
  pub low2 : x2 < 64
  pub low_last : j < 64
  pub low_class : q < 64

-- The critical pair of that substitution: 255 stands for each variable that the rule does not have.
unfoldable pub pair_of : (rule v x0 x1 x2 j q : ℕ) → CriticalPair
pair_of rule v x0 x1 x2 j q =
    record {
      rule = rule;
      x0 = get_or (chosen v x0 x1 x2 j) 0 255;
      x1 = get_or (chosen v x0 x1 x2 j) 1 255;
      x2 = get_or (chosen v x0 x1 x2 j) 2 255;
      x3 = get_or (chosen v x0 x1 x2 j) 3 255;
      class = q;
    }
