-- What the search knows at each of its loops.
use mathlib.Core.Path.{◌≡◌, refl, sym, ap, ◌∙◌, subst}
use mathlib.Core.List.Memᴰ
use mathlib.Core.List.{List, [], ◌∷◌, ◌++◌, map, map-append, Memᴰ}
use Prim.Native.Nat.{ℕ, ◌+◌, ◌-◌, ◌*◌, ◌^◌, ◌≤◌, ◌<◌}
use native.Mathlib.Omega.{arith}
use native.Mathlib.Decide.{dec_lt}
use lib.ListN.{length, get_or, take, drop, take-append-drop, length-map, length-take}
use Rattle.theory.specs.Lists.{count_from}
use Rattle.theory.specs.Term.{Term, Terms, var, node, none, ◌then◌, variables, variables_all}
use Rattle.theory.specs.Preorder.{preorder}
use Rattle.theory.specs.Rewriting.{Rule, variable_count, WellShaped}
use Rattle.theory.specs.Automaton.{Transition, InRange}
use Rattle.theory.specs.Value.{is_critical}
use Rattle.theory.proofs.Count.{get_or_values, length_count, mem_order}
use Rattle.paper.specs.Checked.{says}
use Rattle.paper.proofs.Preorder.{preorder_exact}
use Rattle.sets.specs.Sets.{less}
use Rattle.tables.specs.Held.{token_of, side_at, rule_in as said_of, rule_at, rules_of, no_rule as none_kept}
use Rattle.tables.specs.declared.Rule.{Rule as Kept}
use Rattle.tables.specs.declared.Rules.{Rules}
use Rattle.woven.specs.Woven.{move_of, woven_moves}
use Rattle.values.specs.Lanes.{lane, sheet_of}
use Rattle.woven.specs.Ready.{Ready}
use Rattle.values.specs.Standing.{Each, EachRow, one, over, empty, ◌beside◌, Spells, Stands}
use Rattle.values.proofs.Spanned.{each_then}
use Rattle.values.proofs.Standing.{variable_here, sheet_room}
use Rattle.alike.specs.Needed.{RuleGiven, Led}
use Rattle.lanes.specs.Prefixes.{rest, choices, chosen}
use Rattle.lanes.specs.Batches.{Judgeable}
use Rattle.lanes.specs.Automaton.{woven_automaton}
use Rattle.search.specs.Searched.{Searchable, Told}
use Rattle.search.proofs.Order.{place_listed, no_rule, rule_in}
use Rattle.search.proofs.Walk.{Clear, Run}

-- Tokens that are read as a term spell it.
side_spells : (arities tokens : List ℕ) (at n : ℕ) (t : Term ℕ) → side_at arities tokens at n ≡ says t → Spells arities tokens at t (map token_of (drop n (drop at tokens)))
unfolding side_at
side_spells arities tokens at n t e =
    let (p, r) = (preorder_exact arities (map token_of (take n (drop at tokens))) t).0 e in
    record {
      ranked = r;
      reads = ap (map token_of) (sym (take-append-drop n (drop at tokens)))
          ∙ map-append token_of (take n (drop at tokens)) (drop n (drop at tokens))
          ∙ ap (λ l. l ++ map token_of (drop n (drop at tokens))) (sym p);
    }

-- It has no more tokens than were read.
side_short : (arities tokens : List ℕ) (at n : ℕ) (t : Term ℕ) → side_at arities tokens at n ≡ says t → length (preorder t) ≤ n
unfolding side_at
side_short arities tokens at n t e =
    let (p, r) = (preorder_exact arities (map token_of (take n (drop at tokens))) t).0 e in
    omega (arith, ap length p, length-map (take n (drop at tokens)) token_of, length-take n (drop at tokens))

mutual
  unfolding variables

  -- What holds of each listed variable.
  each_listed : (P : ℕ → Type 0) (t : Term ℕ) → ((x : ℕ) → Memᴰ x (variables t) → P x) → Each P t
  each_listed P (var x) all = one (all x (Memᴰ.head refl))
  each_listed P (node f ts) all = over (each_listed_all P ts all)

  each_listed_all : (P : ℕ → Type 0) (ts : Terms ℕ) → ((x : ℕ) → Memᴰ x (variables_all ts) → P x) → EachRow P ts
  each_listed_all P none all = empty
  each_listed_all P (t then ts) all = each_listed P t (λ x m. all x (Memᴰ.append_left (variables_all ts) m)) beside each_listed_all P ts (λ x m. all x (Memᴰ.append_right (variables t) m))

abbrev move_of_word : (arities words : List ℕ) → ℕ → Transition
move_of_word arities words i = move_of arities (get_or words i 0)

pub rule_count : (arities : List ℕ) (rules : Rules) → length (rules_of arities rules) ≡ rules.count
unfolding rules_of
rule_count arities rules = length-map (count_from 0 rules.count) (rule_at arities rules) ∙ length_count 0 rules.count

-- What the search relies on: the automaton is ready for valuing, and the rules are right.
pub record Searching (arities words heads : List ℕ) (rules : Rules) (k : ℕ) : Type 0 where
  pub ready : Ready arities words heads k
  pub right : Searchable arities rules

module _ {arities words heads : List ℕ} {k : ℕ} (ready : Ready arities words heads k) where
  -- The targets of the transitions that the words mean are states.
  pub in_range : InRange (woven_automaton arities words heads k)
  unfolding woven_automaton woven_moves move_of
  in_range = record {
    targets = λ tr n.
        let (i, place, is) = Memᴰ.of_map (move_of_word arities words) (count_from 0 (get_or heads 64 0)) n in
        let inside : i < get_or heads 64 0 = omega (arith, (mem_order 0 (get_or heads 64 0) place).1) in
        subst (λ (t : Transition). t.target < k) is (ready.target i inside);
  }

module _ {arities words heads : List ℕ} {rules : Rules} {k : ℕ} (ok : Searching arities words heads rules k) where
  abbrev R : List Rule
  R = rules_of arities rules

  module _ (r : ℕ) (h : r < rules.count) where
    -- The rule as it is kept.
    abbrev own : Kept
    own = get_or rules.rules r none_kept

    rule_is : rule_in R r ≡ said_of arities own
    unfolding rules_of rule_at
    rule_is = get_or_values (rule_at arities rules) no_rule rules.count r h

    pub rule_listed : Memᴰ (rule_in R r) R
    rule_listed = place_listed R no_rule r (omega (arith, rule_count arities rules))

    pub rule_variables : own.variables ≡ variable_count (rule_in R r)
    rule_variables = (ok.right.sound r h).variables ∙ ap variable_count (sym rule_is)

    shape : WellShaped (rule_in R r)
    shape = ok.right.shaped (rule_in R r) rule_listed

    -- Both sides are over the rule's variables.
    left_over : (v : ℕ) → v ≡ variable_count (rule_in R r) → Each (λ x. x < v) (rule_in R r).left
    left_over v e = each_listed _ (rule_in R r).left (λ x m. omega (arith, (mem_order 0 (variable_count (rule_in R r)) (subst (Memᴰ x) shape.in_order m)).1))

    right_over : (v : ℕ) → v ≡ variable_count (rule_in R r) → Each (λ x. x < v) (rule_in R r).right
    right_over v e = each_listed _ (rule_in R r).right (λ x m. omega (arith, (mem_order 0 (variable_count (rule_in R r)) (subst (Memᴰ x) shape.in_order (shape.from_left x m))).1))

    few : variable_count (rule_in R r) ≤ 4
    few = omega (arith, rule_variables, ok.right.few r)

    four : (t : Term ℕ) → Each (λ x. x < variable_count (rule_in R r)) t → Each (λ x. x < 4) t
    four t = each_then _ _ (λ x l. omega (arith, few))

    -- What its tokens say, under another name for them.
    module _ {tokens : List ℕ} (is : tokens ≡ own.tokens) where
      left_read : side_at arities tokens 0 own.left ≡ says (rule_in R r).left
      left_read = rw (is, rule_is) (ok.right.sound r h).left

      right_read : side_at arities tokens 24 own.right ≡ says (rule_in R r).right
      right_read = rw (is, rule_is) (ok.right.sound r h).right

      pub rule_told : {v : ℕ} → v ≡ variable_count (rule_in R r) → Told arities tokens v (rule_in R r)
      rule_told {v} e = record {
        spelled = record {
          after_left = _;
          after_right = _;
          left = side_spells arities tokens 0 own.left (rule_in R r).left left_read;
          right = side_spells arities tokens 24 own.right (rule_in R r).right right_read;
          left_four = four (rule_in R r).left (left_over (variable_count (rule_in R r)) refl);
          right_four = four (rule_in R r).right (right_over (variable_count (rule_in R r)) refl);
        };
        left_below = left_over v e;
        right_below = right_over v e;
        not_bare = shape.not_bare;
      }

      left_standing : Stands arities tokens 0
      left_standing =
          let spelled = (rule_told refl).spelled in
          let short = side_short arities tokens 0 own.left (rule_in R r).left left_read in
          record { term = (rule_in R r).left; rest = _; spells = spelled.left; room = omega (arith, short, (ok.right.sound r h).left_short); four = spelled.left_four }

      right_standing : Stands arities tokens 24
      right_standing =
          let spelled = (rule_told refl).spelled in
          let short = side_short arities tokens 24 own.right (rule_in R r).right right_read in
          record { term = (rule_in R r).right; rest = _; spells = spelled.right; room = omega (arith, short, (ok.right.sound r h).right_short); four = spelled.right_four }

      -- The left side is no bare variable, so its first token is a symbol's.
      symbol_first : length tokens ≡ 48 → get_or tokens 0 0 < 64
      symbol_first long = elim (dec_lt (get_or tokens 0 0) 64) [
        | yes h ↦ h
        | no n ↦ absurd (shape.not_bare _ (variable_here arities tokens 0 (omega (arith, long)) (past n) (rule_in R r).left _
            (side_spells arities tokens 0 own.left (rule_in R r).left left_read)).0)
      ]
        where
          past : (get_or tokens 0 0 < 64 → ⊥) → 64 ≤ get_or tokens 0 0
          past n = omega arith

      pub rule_judgeable : {m : List (List ℕ)} → length tokens ≡ 48 → 52 * k ≤ length m → Judgeable arities tokens k m
      rule_judgeable long room =
          record {
            tokens_long = long;
            left = left_standing;
            right = right_standing;
            symbol = symbol_first long;
            room = room;
          }

      -- What naming the classes that lead relies on.
      pub rule_given : {x : ℕ} → length tokens ≡ 48 → x < 4 → RuleGiven arities tokens x
      rule_given long low =
          let left = left_standing in
          let right = right_standing in
          record {
            long = long;
            left = record { term = left.term; rest = left.rest; spells = left.spells };
            right = record { term = right.term; rest = right.rest; spells = right.spells };
            variable = low;
          }

      -- The right side's sheet is one of all 52.
      pub rule_right : sheet_of tokens 24 < 52
      rule_right = sheet_room arities tokens 24 right_standing

module _ (arities words heads : List ℕ) (rules : Rules) (k : ℕ) where
  -- The numbers of a rule.
  pub record Ruled (budget most size r : ℕ) (tokens : List ℕ) (v lanes passed1 passed0 m0 m1 m2 variables right leads1 : ℕ) : Type 0 where
    pub ok : Searching arities words heads rules k
    pub small : budget < 4294967296
    pub listed : r < rules.count
    pub long : length tokens ≡ 48
    pub is_most : most ≡ budget
    pub is_size : size ≡ k
    pub is_tokens : tokens ≡ (get_or rules.rules r none_kept).tokens
    pub is_v : v ≡ variable_count (rule_in (rules_of arities rules) r)
    pub is_variables : variables ≡ v
    pub is_right : right ≡ sheet_of tokens 24 * k
    pub few : v ≤ 4
    pub lanes_are : lanes ≡ k ^ rest v 3
    pub passed1_is : passed1 ≡ k ^ rest v 2
    pub passed0_is : passed0 ≡ k ^ rest v 1
    pub m0_is : m0 ≡ choices k v 0
    pub m1_is : m1 ≡ choices k v 1
    pub m2_is : m2 ≡ choices k v 2
    pub led : Led (woven_automaton arities words heads k) (rule_in (rules_of arities rules) r) 1 leads1

  -- A batch whose lanes are looked at one by one: j of them are passed since `start`, and n substitutions are examined.
  pub record Lanes (budget r v x0 x1 x2 right : ℕ) (m : List (List ℕ)) (start j n : ℕ) : Type 0 where
    pub run : Run (woven_automaton arities words heads k) (rules_of arities rules) r (rule_in (rules_of arities rules) r) (take (v - rest v 3) (x0 ∷ (x1 ∷ (x2 ∷ [])))) (rest v 3) start
    pub each : (j : ℕ) → j < k ^ rest v 3 → (q : ℕ)
        → less (lane k m 0 j) (lane k m right j) q ≡ is_critical (woven_automaton arities words heads k) (rule_in (rules_of arities rules) r) (chosen v x0 x1 x2 j) q
    pub low0 : x0 < k
    pub low1 : x1 < k
    pub low2 : x2 < k
    pub upto : j ≤ k ^ rest v 3
    pub place : n ≡ start + j
    pub within : n ≤ budget
    pub clear : Clear (woven_automaton arities words heads k) (rules_of arities rules) n
