-- What each turn of the search's loops leaves, and what each way out of them says.
use mathlib.Core.Path.{◌≡◌, sym, ap, ◌∙◌, subst}
use mathlib.Core.Bool.{Bool, true, false}
use mathlib.Core.List.{List, [], ◌∷◌, ◌++◌}
use Prim.Native.Nat.{ℕ, zero, suc, ◌+◌, ◌-◌, ◌*◌, ◌^◌, ◌≤◌, ◌<◌}
use native.Mathlib.Nat.{suc-mul, mul-le-mul_right}
use native.Mathlib.Omega.{arith}
use lib.ListN.{length, get_or, take, length-append}
use lib.Seq.{take_all}
use Rattle.theory.specs.Rewriting.{Rule}
use Rattle.theory.specs.Automaton.{Automaton}
use Rattle.theory.specs.Value.{is_critical}
use Rattle.paper.specs.Meaning.{Closure, total}
use Rattle.paper.specs.Computed.{case, closure}
use Rattle.paper.proofs.Examined.{Outcome}
use Rattle.sets.specs.Sets.{mem, less}
use Rattle.tables.specs.Held.{rules_of}
use Rattle.verdicts.specs.declared.critical_pair.CriticalPair.{CriticalPair}
use Rattle.verdicts.specs.declared.Closure.{Closure as Verdict}
use Rattle.verdicts.specs.declared.Closure.TheVariants.{Critical, Closed, Stopped}
use Rattle.verdicts.specs.Said.{classes_of, said_closure, Ended}
use Rattle.tables.specs.declared.Rules.{Rules}
use Rattle.values.specs.Lanes.{lane, sheet_of}
use Rattle.values.specs.Standing.{Each, Spelled}
use Rattle.alike.specs.Needed.{Led}
use Rattle.lanes.specs.Prefixes.{rest, choices, chosen, pair_of}
use Rattle.lanes.specs.Batches.{Batch, Prefix, Judgeable}
use Rattle.lanes.specs.Automaton.{woven_automaton}
use Rattle.search.specs.Searched.{Told, Opened}
use Rattle.lanes.proofs.Shown.{pair_ended}
use Rattle.lanes.proofs.Numbers.{lane_low, rest_all, choices_low}
use Rattle.search.proofs.Order.{rule_in, total_next}
use Rattle.search.proofs.Walk.{all, case_at, Calm, Clear, clear_run, clear_more, Run, Level, level_run, level_end, level_next, level_start}
use Rattle.search.proofs.Walk.{calm_from, judged, smallest_class, lane_at, out_closed, out_stopped, out_critical, pass_stop}
use Rattle.search.proofs.Passed.{passed_calm}
use Rattle.search.proofs.Steps.{Searching, in_range, rule_count, rule_listed, rule_told, rule_judgeable, rule_right, Ruled, Lanes}

-- One, two or three classes below k.
pub no_class : (k : ℕ) → Prefix k 2 []
no_class k = record { few = omega arith; low = λ i h. absurd (omega arith) }

pub one_class : (k x : ℕ) → x < k → Prefix k 2 (x ∷ [])
one_class k x h = record { few = omega arith; low = each }
  where
    each : (i : ℕ) → i < 1 → get_or (x ∷ []) i 0 < k
    each zero l = h
    each (suc i) l = absurd (omega arith)

pub three_classes : (k x0 x1 x2 : ℕ) → x0 < k → x1 < k → x2 < k → (i : ℕ) → get_or (x0 ∷ (x1 ∷ (x2 ∷ []))) i 0 < k
three_classes k x0 x1 x2 h0 h1 h2 zero = h0
three_classes k x0 x1 x2 h0 h1 h2 (suc zero) = h1
three_classes k x0 x1 x2 h0 h1 h2 (suc (suc zero)) = h2
three_classes k x0 x1 x2 h0 h1 h2 (suc (suc (suc i))) = omega arith

-- The first row of one of 52 sheets.
pub right_fits : (b k n : ℕ) → n ≡ b → b < 52 → k ≤ 64 → n * k ≤ 3328
right_fits b k n e h most = omega (arith, mul-le-mul_right k (below n (omega arith)))
  where
    below : (n : ℕ) → n < 52 → n ≤ 52
    below n h = omega arith

-- What the search tells once it ends.
module _ {arities words heads : List ℕ} {rules : Rules} {k : ℕ} (ok : Searching arities words heads rules k) (budget : ℕ) where
  abbrev pub Answer : Verdict → Type 0
  Answer r = said_closure r ≡ closure (woven_automaton arities words heads k) (rules_of arities rules) budget

  outcome : (o : Closure) → Outcome (woven_automaton arities words heads k) (all (woven_automaton arities words heads k) (rules_of arities rules)) budget 0 o
      → o ≡ closure (woven_automaton arities words heads k) (rules_of arities rules) budget
  outcome = judged (woven_automaton arities words heads k) (rules_of arities rules) (in_range ok.ready) ok.right.shaped budget

  stopped : Outcome (woven_automaton arities words heads k) (all (woven_automaton arities words heads k) (rules_of arities rules)) budget 0 (Closure.stopped budget) → Answer (Stopped budget)
  unfolding said_closure
  stopped o = outcome _ o

  -- All rules are examined.
  pub all_examined : {r n : ℕ} → r ≡ rules.count → n ≡ total k (take r (rules_of arities rules)) → n ≤ budget
      → Clear (woven_automaton arities words heads k) (rules_of arities rules) n → Answer (Closed n)
  unfolding woven_automaton said_closure
  all_examined {r} {n} e is-n within clear =
      let last = is-n ∙ ap (total k) (take_all r (rules_of arities rules) (omega (arith, rule_count arities rules))) in
      outcome _ (out_closed (woven_automaton arities words heads k) (rules_of arities rules) budget n last within clear)

-- At a rule, with its numbers.
module _ {arities words heads : List ℕ} {rules : Rules} {k budget most size r : ℕ} {tokens : List ℕ} {v lanes passed1 passed0 m0 m1 m2 variables right leads1 : ℕ}
    (t : Ruled arities words heads rules k budget most size r tokens v lanes passed1 passed0 m0 m1 m2 variables right leads1) where
  abbrev A : Automaton
  A = woven_automaton arities words heads k

  abbrev Rs : List Rule
  Rs = rules_of arities rules

  abbrev rule : Rule
  rule = rule_in Rs r

  -- Its sides may be judged.
  pub judgeable : {m : List (List ℕ)} → 52 * k ≤ length m → Judgeable arities tokens k m × (variables ≤ 4)
  judgeable room = (rule_judgeable t.ok r t.listed t.is_tokens t.long room, omega (arith, t.few, t.is_variables))

  told : Told arities tokens variables rule
  told = rule_told t.ok r t.listed t.is_tokens (t.is_variables ∙ t.is_v)

  pub right_room : (long : ℕ) → 52 * k ≤ long → right + k ≤ long
  right_room long room = past (sheet_of tokens 24) t.is_right (rule_right t.ok r t.listed t.is_tokens)
    where
      next : (b : ℕ) → b < 52 → suc b ≤ 52
      next b h = h

      past : (b : ℕ) → right ≡ b * k → b < 52 → right + k ≤ long
      past b e h = omega (arith, mul-le-mul_right k (next b h), suc-mul b k)

  -- What the classes that are gone into and a batch mean for it.
  pub opened_for : {x0 mask : ℕ} → ((rule : Rule) → Told arities tokens variables rule → Led A rule 1 leads1 → Opened A rule variables (x0 ∷ []) mask) → Opened A rule v (x0 ∷ []) mask
  opened_for {x0} {mask} o = subst (λ n. Opened A rule n (x0 ∷ []) mask) t.is_variables (o rule told t.led)

  pub batch_for : {x0 x1 x2 : ℕ} {m : List (List ℕ)} {some : Bool}
      → ((rule : Rule) → Spelled arities tokens rule → Each (λ x. x < variables) rule.left → Each (λ x. x < variables) rule.right → Batch A rule variables x0 x1 x2 tokens m some)
      → Batch A rule v x0 x1 x2 tokens m some
  batch_for {x0} {x1} {x2} {m} {some} b = subst (λ n. Batch A rule n x0 x1 x2 tokens m some) t.is_variables (b rule told.spelled told.left_below told.right_below)

  -- A substitution none of whose classes is critical.
  calm_for : (σ : List ℕ) → ((q : ℕ) → q < k → is_critical A rule σ q ≡ false) → Calm A Rs (case r rule σ)
  unfolding woven_automaton
  calm_for σ = calm_from A Rs (in_range t.ok.ready) t.ok.right.shaped r rule σ (rule_listed t.ok r t.listed)

  -- A choice of a variable.
  module _ {i : ℕ} {xs : List ℕ} {start y n m : ℕ} (l : Level A Rs v i r rule xs budget start y n) (is_m : m ≡ choices k v i) (tried : y < m) where
    going : y < choices k v i
    going = omega (arith, tried, is_m)

    -- It is a class.
    pub choice_low : y < k
    choice_low = omega (arith, going, choices_low k v i t.ok.ready.some)

    pub choice_bit : y < 64
    choice_bit = omega (arith, choice_low, t.ok.ready.most)

    -- The choices of the next variable are begun.
    pub next_begun : Level A Rs v (i + 1) r rule (xs ++ (y ∷ [])) budget n 0 n
    unfolding woven_automaton
    next_begun = level_start A Rs v (i + 1) r rule (xs ++ (y ∷ [])) budget n (level_run A Rs l going) (omega (arith, length-append xs (y ∷ []), l.long)) l.within l.clear

    -- They are all examined.
    pub next_done : {ys : List ℕ} {z past m' n' : ℕ} → Level A Rs v (i + 1) r rule ys budget n z past → m' ≡ choices k v (i + 1) → m' ≤ z → n' ≡ past → Level A Rs v i r rule xs budget start (y + 1) n'
    unfolding woven_automaton
    next_done {n' = n'} inner is-m' all-tried e =
        level_next A Rs l going n' (e ∙ level_end A Rs inner (omega (arith, is-m', all-tried))) (omega (arith, e, inner.within)) (subst (Clear A Rs) (sym e) inner.clear)

    -- It is not gone into.
    module _ {size_of mask : ℕ} (is_size : size_of ≡ k ^ rest v (i + 1)) (opened : Opened A rule v xs mask) (gone : mem mask y ≡ false) where
      calm : (d : ℕ) → d < k ^ rest v (i + 1) → Calm A Rs (case_at A Rs (n + d))
      unfolding woven_automaton
      calm = passed_calm A Rs (in_range t.ok.ready) t.ok.right.shaped v i r rule xs budget start y n l going (rule_listed t.ok r t.listed) mask opened gone choice_low

      pub passed_next : {n' : ℕ} → size_of ≤ most - n → n' ≡ n + size_of → Level A Rs v i r rule xs budget start (y + 1) n'
      unfolding woven_automaton
      passed_next {n'} fits e =
          let is-n : n' ≡ n + k ^ rest v (i + 1) = e ∙ ap (λ m. n + m) is_size in
          level_next A Rs l going n' is-n (omega (arith, e, fits, l.within, t.is_most)) (subst (Clear A Rs) (sym is-n) (clear_run A Rs n (k ^ rest v (i + 1)) l.clear calm))

      pub passed_stop : most - n < size_of → Answer t.ok budget (Stopped budget)
      unfolding woven_automaton
      passed_stop short = stopped t.ok budget (pass_stop A Rs r rule _ (rest v (i + 1)) n budget (level_run A Rs l going) l.within l.clear calm (omega (arith, short, is_size, t.is_most)))

  -- The lanes of a batch, one by one.
  module _ {x0 x1 x2 : ℕ} {m : List (List ℕ)} {start j n : ℕ} (l : Lanes arities words heads rules k budget r v x0 x1 x2 right m start j n) (hj : j < lanes) where
    in_batch : j < k ^ rest v 3
    in_batch = omega (arith, t.lanes_are)

    here : case_at A Rs n ≡ case r rule (chosen v x0 x1 x2 j)
    unfolding woven_automaton
    here = ap (case_at A Rs) l.place ∙ lane_at A Rs v r rule x0 x1 x2 start t.few l.run j in_batch

    listed_still : n < length (all A Rs)
    unfolding woven_automaton
    listed_still = omega (arith, l.place, l.run.inside, in_batch)

    pub lane_bit : j < 64
    lane_bit = (lane_low k v j t.ok.ready.most t.few in_batch).0

    pub lane_next : (n ≡ most → ⊥) → ((q : ℕ) → q < k → less (lane k m 0 j) (lane k m right j) q ≡ false) → Lanes arities words heads rules k budget r v x0 x1 x2 right m start (j + 1) (n + 1)
    unfolding woven_automaton
    lane_next left none = record {
      run = l.run;
      each = l.each;
      low0 = l.low0;
      low1 = l.low1;
      low2 = l.low2;
      upto = omega (arith, in_batch);
      place = omega (arith, l.place);
      within = omega (arith, l.within, room left);
      clear = clear_more A Rs n l.clear (subst (Calm A Rs) (sym here) (calm_for (chosen v x0 x1 x2 j) (λ q hq. sym (l.each j in_batch q) ∙ none q hq)));
    }
      where
        room : (n ≡ most → ⊥) → n + 1 ≤ budget
        room left = omega (arith, l.within, t.is_most)

    pub lane_stop : n ≡ most → Answer t.ok budget (Stopped budget)
    lane_stop e =
        let spent : n ≡ budget = e ∙ t.is_most in
        stopped t.ok budget (out_stopped A Rs budget (omega (arith, listed_still)) (subst (Clear A Rs) spent l.clear))

    pub lane_found : {q : ℕ} {hit : Bool} (p : CriticalPair) → (n ≡ most → ⊥) → hit ≡ less (lane k m 0 j) (lane k m right j) q → hit ≡ true
        → ((x : ℕ) → x < q → less (lane k m 0 j) (lane k m right j) x ≡ false) → (p.rule ≡ r) × (classes_of p ≡ chosen v x0 x1 x2 j) × (p.class ≡ q)
        → Answer t.ok budget (Critical p (n + 1))
    unfolding said_closure
    lane_found {q} p left is hit none (is-rule, are, is-class) =
        let smallest = smallest_class A Rs (in_range t.ok.ready) t.ok.right.shaped r rule (chosen v x0 x1 x2 j) q (sym (l.each j in_batch q) ∙ sym is ∙ hit)
        (λ x h. sym (l.each j in_batch x) ∙ none x h) in
        let found = out_critical A Rs budget n r rule (chosen v x0 x1 x2 j) q listed_still (omega (arith, l.within, t.is_most)) l.clear here smallest in
        rw (are, is-rule, is-class) (outcome t.ok budget _ found)

    -- The pair that is shown ends with the classes that the rule does not have.
    pub lane_ended : {p : CriticalPair} (q : ℕ) → p ≡ pair_of r v x0 x1 x2 j q → Ended p
    lane_ended q shown =
        let most = t.ok.ready.most in
        subst Ended (sym shown) (pair_ended r x0 x1 x2 j q (omega (arith, l.low0, most)) (omega (arith, l.low1, most)) (omega (arith, l.low2, most)) lane_bit v)

  -- A batch of substitutions that differ in the last variable alone.
  module _ {x0 x1 x2 start n : ℕ} (l : Level A Rs v 2 r rule (x0 ∷ (x1 ∷ [])) budget start x2 n) (tried : x2 < m2) where
    batch_run : Run A Rs r rule (take (v - rest v 3) (x0 ∷ (x1 ∷ (x2 ∷ [])))) (rest v 3) n
    unfolding woven_automaton
    batch_run = level_run A Rs l (going l t.m2_is tried)

    -- Its lanes are all examined.
    pub lanes_done : {m : List (List ℕ)} {j past n' : ℕ} → Lanes arities words heads rules k budget r v x0 x1 x2 right m n j past → lanes ≤ j → n' ≡ past
        → Level A Rs v 2 r rule (x0 ∷ (x1 ∷ [])) budget start (x2 + 1) n'
    unfolding woven_automaton
    lanes_done {n' = n'} inner all-tried e =
        level_next A Rs l (going l t.m2_is tried) n' (omega (arith, e, inner.place, inner.upto, all-tried, t.lanes_are)) (omega (arith, e, inner.within))
        (subst (Clear A Rs) (sym e) inner.clear)

    module _ {m : List (List ℕ)} {some : Bool} (b : Batch A rule v x0 x1 x2 tokens m some) where
      batch_calm : some ≡ false → (d : ℕ) → d < k ^ rest v 3 → Calm A Rs (case_at A Rs (n + d))
      unfolding woven_automaton
      batch_calm e d hd =
          subst (Calm A Rs) (sym (lane_at A Rs v r rule x0 x1 x2 n t.few batch_run d hd))
          (calm_for (chosen v x0 x1 x2 d) (λ q hq. b.clear e d hd q hq))

      -- They are begun.
      pub batch_begun : some ≡ true → x0 < k → x1 < k → Lanes arities words heads rules k budget r v x0 x1 x2 right m n 0 n
      unfolding woven_automaton
      batch_begun e h0 h1 = record {
        run = batch_run;
        each = λ j hj q. ap (λ p. less (lane k m 0 j) (lane k m p j) q) t.is_right ∙ b.each e j hj q;
        low0 = h0;
        low1 = h1;
        low2 = choice_low l t.m2_is tried;
        upto = omega arith;
        place = omega arith;
        within = l.within;
        clear = l.clear;
      }

      -- It is passed over.
      pub batch_next : {n' : ℕ} → some ≡ false → lanes ≤ most - n → n' ≡ n + lanes → Level A Rs v 2 r rule (x0 ∷ (x1 ∷ [])) budget start (x2 + 1) n'
      unfolding woven_automaton
      batch_next {n'} none fits e =
          let is-n : n' ≡ n + k ^ rest v 3 = e ∙ ap (λ m. n + m) t.lanes_are in
          level_next A Rs l (going l t.m2_is tried) n' is-n (omega (arith, e, fits, l.within, t.is_most))
          (subst (Clear A Rs) (sym is-n) (clear_run A Rs n (k ^ rest v 3) l.clear (batch_calm none)))

      pub batch_stop : some ≡ false → most - n < lanes → Answer t.ok budget (Stopped budget)
      unfolding woven_automaton
      batch_stop none short = stopped t.ok budget (pass_stop A Rs r rule _ (rest v 3) n budget batch_run l.within l.clear (batch_calm none) (omega (arith, short, t.is_most, t.lanes_are)))

  -- All substitutions of the rule are examined.
  pub rule_end : {start x0 n : ℕ} → start ≡ total k (take r Rs) → Level A Rs v 0 r rule [] budget start x0 n → m0 ≤ x0 → n ≡ total k (take (r + 1) Rs)
  unfolding woven_automaton
  rule_end e l h =
      omega (arith, level_end A Rs l (omega (arith, t.m0_is)), ap (λ w. k ^ w) (rest_all v ∙ t.is_v), total_next k Rs r (omega (arith, rule_count arities rules, t.listed)))
