-- Rules that are packed are what the array of them holds.
use mathlib.Core.Path.{◌≡◌, refl, sym, ap, ◌∙◌}
use mathlib.Core.List.{List, [], ◌∷◌, map, Memᴰ}
use Prim.Native.Nat.{ℕ, zero, suc, ◌≤◌, ◌<◌}
use native.Mathlib.Omega.{arith}
use lib.ListN.{length, drop, take, get_or, length-map}
use lib.Seq.{drop_at}
use Rattle.std.proofs.lemmas.List.{take-append-le}
use Rattle.theory.specs.Lists.{count_from}
use Rattle.theory.specs.Term.{Term, var}
use Rattle.theory.specs.Preorder.{preorder}
use Rattle.theory.specs.Rewriting.{Rule, variable_count}
use Rattle.paper.specs.Checked.{Checked, says}
use Rattle.paper.specs.WellFormed.{GoodTerm, GoodRule}
use Rattle.paper.proofs.Tokens.{tokens_exact}
use Rattle.paper.proofs.Preorder.{preorder_exact}
use Rattle.fields.specs.Padded.{padded}
use Rattle.fields.proofs.Whole.{padded_length}
use Rattle.sides.proofs.SideLaws.{tokens_back}
use Rattle.tables.specs.Held.{byte_of, side_of, spoken, side_at, no_rule, rule_in, rule_at, rules_of}
use Rattle.tables.specs.Sound.{SoundRule}
use Rattle.blocks.specs.Packed.{rule_of, zero_rule, filled, packed_rules}
use Rattle.blocks.proofs.Arrays.{take_padded, listed, get_or-mem}

-- a side's tokens, wherever they stand
side_said : (ar tokens : List ℕ) (at n : ℕ) (t : Term ℕ) → length ar ≤ 64 → GoodTerm ar t → take n (drop at tokens) ≡ side_of t → side_at ar tokens at n ≡ says t
unfolding side_at side_of
side_said ar tokens at n t l g e = rw (e, tokens_back ar l (preorder t) ((tokens_exact ar t).1 (g.listed, g.low))) ((preorder_exact ar (preorder t) t).1 (refl, g.ranked))

taken_side : (t : Term ℕ) → length (preorder t) ≤ 24 → take (length (preorder t)) (padded 24 (side_of t)) ≡ side_of t
unfolding side_of
taken_side t l = let n = length-map (preorder t) byte_of in rw (← n) (take_padded 24 (map byte_of (preorder t)) (omega arith))

spoken_said : (j : Checked (Term ℕ)) (t : Term ℕ) → j ≡ says t → j ≡ says (spoken j)
unfolding spoken
spoken_said j t e = rw e

-- A rule that is packed.
module _ (ar : List ℕ) (symbols : length ar ≤ 64) (r : Rule) (good : GoodRule ar r) where
  left_said : side_at ar (rule_of r).tokens 0 (rule_of r).left ≡ says r.left
  unfolding rule_of
  left_said =
      let room : length (preorder r.left) ≤ length (padded 24 (side_of r.left)) = omega (arith, padded_length 24 (side_of r.left), good.left.tokens) in
      side_said ar _ 0 (length (preorder r.left)) r.left symbols good.left (rw take-append-le (taken_side r.left good.left.tokens))

  right_said : side_at ar (rule_of r).tokens 24 (rule_of r).right ≡ says r.right
  unfolding rule_of
  right_said =
      side_said ar _ 24 (length (preorder r.right)) r.right symbols good.right
      (ap (take (length (preorder r.right))) (drop_at (padded 24 (side_of r.left)) (padded 24 (side_of r.right)) 24 (padded_length 24 (side_of r.left))) ∙ taken_side r.right good.right.tokens)

  pub rule_back : rule_in ar (rule_of r) ≡ r
  unfolding rule_in spoken
  rule_back = rw (left_said, right_said)

  pub sound_rule : SoundRule ar (rule_of r)
  unfolding rule_in rule_of
  sound_rule =
      record {
        left = spoken_said _ r.left left_said;
        right = spoken_said _ r.right right_said;
        left_short = good.left.tokens;
        right_short = good.right.tokens;
        variables = ap variable_count (sym rule_back);
      }

-- What stands at a place of the array.
filled_get : {X : Type 0} (z : X) (n : ℕ) (f : Rule → X) (rs : List Rule) (i : ℕ) (d : X) (e : Rule) → i < length rs → length rs ≤ n → get_or (filled z n (map f rs)) i d ≡ f (get_or rs i e)
unfolding filled
filled_get z n f [] i d e h l = absurd (omega arith)
filled_get z zero f (r ∷ rs) i d e h l = absurd (omega arith)
filled_get z (suc n) f (r ∷ rs) zero d e h l = refl
filled_get z (suc n) f (r ∷ rs) (suc i) d e h l = filled_get z n f rs i d e (omega arith) (omega arith)

-- any rule, where there is none
any_rule : Rule
any_rule = record { left = var 0; right = var 0 }

module _ (ar : List ℕ) (rs : List Rule) (symbols : length ar ≤ 64) (few : length rs ≤ 32) (good : (r : Rule) → Memᴰ r rs → GoodRule ar r) where
  kept : (i : ℕ) → i < length rs → get_or (packed_rules rs).rules i no_rule ≡ rule_of (get_or rs i any_rule)
  unfolding packed_rules
  kept i h = filled_get zero_rule 32 rule_of rs i no_rule any_rule h few

  here : (i : ℕ) → i < length rs → GoodRule ar (get_or rs i any_rule)
  here i h = good (get_or rs i any_rule) (get_or-mem rs i any_rule h)

  pub sound_rules : (i : ℕ) → i < length rs → SoundRule ar (get_or (packed_rules rs).rules i no_rule)
  sound_rules i h = rw (kept i h) (sound_rule ar symbols (get_or rs i any_rule) (here i h))

  -- The array holds the rules.
  pub rules_back : rules_of ar (packed_rules rs) ≡ rs
  unfolding rules_of rule_at
  rules_back =
      let many : (packed_rules rs).count ≡ length rs = unfold packed_rules in refl in
      ap (λ n. map (rule_at ar (packed_rules rs)) (count_from 0 n)) many
      ∙ listed (rule_at ar (packed_rules rs)) any_rule rs (λ i h. ap (rule_in ar) (kept i h) ∙ rule_back ar symbols (get_or rs i any_rule) (here i h))

few_at : (ar : List ℕ) (n : ℕ) (rs : List Rule) → ((r : Rule) → Memᴰ r rs → GoodRule ar r) → (i : ℕ) → (get_or (filled zero_rule n (map rule_of rs)) i no_rule).variables ≤ 4
unfolding filled rule_of zero_rule no_rule
few_at ar zero rs good i = omega arith
few_at ar (suc n) [] good zero = omega arith
few_at ar (suc n) [] good (suc i) = few_at ar n [] good i
few_at ar (suc n) (r ∷ rs) good zero = (good r (Memᴰ.head refl)).few
few_at ar (suc n) (r ∷ rs) good (suc i) = few_at ar n rs (λ u m. good u (Memᴰ.tail m)) i

pub few_variables : (ar : List ℕ) (rs : List Rule) → ((r : Rule) → Memᴰ r rs → GoodRule ar r) → (i : ℕ) → (get_or (packed_rules rs).rules i no_rule).variables ≤ 4
unfolding packed_rules
few_variables ar rs good i = few_at ar 32 rs good i
