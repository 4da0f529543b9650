-- The walk through the substitutions: what is clear, which batch comes next, and what each way out says.
use mathlib.Core.Path.{◌≡◌, refl, sym, ap, ◌∙◌, subst}
use mathlib.Core.Bool.{true, false, true≢false}
use mathlib.Core.List.{List, [], ◌∷◌, ◌++◌, Memᴰ, append_assoc}
use Prim.Native.Nat.{ℕ, zero, suc, ◌+◌, ◌-◌, ◌*◌, ◌^◌, ◌≤◌, ◌<◌, min}
use native.Mathlib.Nat.{pow-suc, mul_comm, suc-mul, zero-mul, zero-add, mul-le-mul_right, mul-one, pow-zero}
use native.Mathlib.Numerals.{add-one}
use native.Mathlib.Decide.{dec_lt}
use native.Mathlib.Omega.{arith}
use lib.Arith.{digits_lt}
use lib.ListN.{length, get_or, take, drop, length-take, length-append, take-append-drop}
use lib.Seq.{drop-cons, get_or-take, take_all, take-append-le}
use Rattle.theory.specs.Rewriting.{Rule, variable_count, WellShapedRules}
use Rattle.theory.specs.Automaton.{Automaton, InRange}
use Rattle.theory.specs.Value.{substitutions, is_critical}
use Rattle.theory.proofs.Search.{left_below}
use Rattle.paper.specs.Meaning.{Closure, total, Smallest}
use Rattle.paper.specs.Computed.{Case, case, cases, closure}
use Rattle.paper.proofs.Listed.{CriticalFor, Quiet}
use Rattle.paper.proofs.Cases.{length_cases, critical_iff, class_some, class_none}
use Rattle.paper.proofs.Examined.{Outcome, decides}
use Rattle.lanes.specs.Prefixes.{rest, choices, chosen}
use Rattle.lanes.proofs.Numbers.{rest_in, rest_out, rest_all, choices_in, choices_out, all_choices, pow_1}
use Rattle.search.proofs.Order.{listed_place, substitution_at, no_case, rule_in, case_at_lem, total_next, total_inside}

module _ (M : Automaton) (R : List Rule) where
  abbrev pub all : List Case
  all = cases M.states 0 R

  -- The substitution at a place, from 0.
  abbrev pub case_at : ℕ → Case
  case_at i = get_or all i no_case

  -- It has no critical class.
  abbrev pub Calm : Case → Type 0
  Calm c = (q : ℕ) → CriticalFor M c q → ⊥

  -- None of the first n has one.
  abbrev pub Clear : ℕ → Type 0
  Clear n = (i : ℕ) → i < n → Calm (case_at i)

  pub clear_run : (n m : ℕ) → Clear n → ((d : ℕ) → d < m → Calm (case_at (n + d))) → Clear (n + m)
  clear_run n m old new i h = elim (dec_lt i n) [
    | yes l ↦ old i l
    | no nl ↦ let e : n + (i - n) ≡ i = omega arith in subst (λ x. Calm (case_at x)) e (new (i - n) (omega arith))
  ]

  pub clear_more : (n : ℕ) → Clear n → Calm (case_at n) → Clear (n + 1)
  clear_more n old new = clear_run n 1 old (λ d h. let e : n ≡ n + d = omega arith in subst (λ x. Calm (case_at x)) e new)

  quiet : (n : ℕ) → Clear n → Quiet M (take n all)
  quiet n clear c m q k =
      let (i, h, e) = listed_place no_case (take n all) m in
      let low : i < n = omega (arith, length-take n all) in
      clear i low q (rw (← e, get_or-take n all i no_case low) at k)

  -- The w variables after the classes π of rule number r have their substitutions from place b on.
  pub record Run (r : ℕ) (rule : Rule) (π : List ℕ) (w b : ℕ) : Type 0 where
    pub each : (d : ℕ) → d < M.states ^ w → case_at (b + d) ≡ case r rule (π ++ get_or (substitutions M.states w) d [])
    pub inside : b + M.states ^ w ≤ length all

  pub run_rule : (r v : ℕ) → r < length R → v ≡ variable_count (rule_in R r) → Run r (rule_in R r) [] v (total M.states (take r R))
  run_rule r v h e = rw e (record {
    each = λ d hd. case_at_lem M.states 0 R r d h hd ∙ ap (λ n. case n (rule_in R r) (get_or (substitutions M.states (variable_count (rule_in R r))) d [])) (zero-add r);
    inside = omega (arith, length_cases M.states 0 R, total_next M.states R r h, total_inside M.states R (r + 1) (omega arith));
  })

  run_more : (r : ℕ) (rule : Rule) (π : List ℕ) (w b x : ℕ) → x < M.states → Run r rule π (suc w) b → Run r rule (π ++ (x ∷ [])) w (b + x * M.states ^ w)
  run_more r rule π w b x hx run = record {
    each = λ d hd.
        let k = M.states in
        let e : b + x * k ^ w + d ≡ b + (x * k ^ w + d) = omega arith in
        let low : x * k ^ w + d < k ^ suc w = subst (λ n. x * k ^ w + d < n) (mul_comm k (k ^ w) ∙ sym (pow-suc k w)) (digits_lt hx hd) in
        ap case_at e ∙ run.each (x * k ^ w + d) low
        ∙ ap (λ l. case r rule (π ++ l)) (substitution_at k w x d hx hd)
        ∙ ap (case r rule) (sym (append_assoc π (x ∷ []) (get_or (substitutions k w) d [])));
    inside =
        let k = M.states in
        omega (arith, run.inside, pow-suc k w, mul_comm k (k ^ w), suc-mul x (k ^ w), mul-le-mul_right (k ^ w) (below x hx));
  }
    where
      below : (x : ℕ) → x < M.states → suc x ≤ M.states
      below x h = h

  -- The loop over the variable i of a rule with v variables, those before it having the classes xs: y choices were passed since `start`, and n substitutions are examined.
  pub record Level (v i r : ℕ) (rule : Rule) (xs : List ℕ) (budget start y n : ℕ) : Type 0 where
    pub run : Run r rule (take (v - rest v i) xs) (rest v i) start
    pub long : length xs ≡ i
    pub upto : y ≤ choices M.states v i
    pub place : n ≡ start + y * M.states ^ rest v (i + 1)
    pub within : n ≤ budget
    pub clear : Clear n

  pub level_start : (v i r : ℕ) (rule : Rule) (xs : List ℕ) (budget n : ℕ) → Run r rule (take (v - rest v i) xs) (rest v i) n → length xs ≡ i → n ≤ budget → Clear n → Level v i r rule xs budget n 0 n
  level_start v i r rule xs budget n run long h clear = record { run = run; long = long; upto = omega arith; place = omega (arith, zero-mul (M.states ^ rest v (i + 1))); within = h; clear = clear }

  -- The loop over the first variable of rule r.
  pub level_rule : (v r budget n : ℕ) → r < length R → v ≡ variable_count (rule_in R r) → n ≡ total M.states (take r R) → n ≤ budget → Clear n → Level v 0 r (rule_in R r) [] budget n 0 n
  level_rule v r budget n h is_v is-n within clear =
      let none : ◌≡◌ {A = List ℕ} [] (take (v - rest v 0) []) = sym (take_all (v - rest v 0) [] (omega arith)) in
      let run : Run r (rule_in R r) [] v n = subst (Run r (rule_in R r) [] v) (sym is-n) (run_rule r v h is_v) in
      level_start v 0 r (rule_in R r) [] budget n (subst (λ w. Run r (rule_in R r) (take (v - rest v 0) []) w n) (sym (rest_all v)) (subst (λ l. Run r (rule_in R r) l v n) none run)) refl within clear

  module _ {v i r : ℕ} {rule : Rule} {xs : List ℕ} {budget start y n : ℕ} (t : Level v i r rule xs budget start y n) where
    pub level_end : choices M.states v i ≤ y → n ≡ start + M.states ^ rest v i
    level_end h =
        let e : y ≡ choices M.states v i = omega (arith, t.upto) in
        omega (arith, t.place, ap (λ y. y * M.states ^ rest v (i + 1)) e, all_choices M.states v i)

    module _ (going : y < choices M.states v i) where
      after : i + 1 < v → v - rest v (i + 1) ≡ i + 1
      unfolding rest
      after h = omega arith

      -- Where the variable i is not the last, its choice is put behind the earlier classes.
      pub level_prefix : i + 1 < v → take (v - rest v (i + 1)) (xs ++ (y ∷ [])) ≡ xs ++ (y ∷ [])
      level_prefix h = ap (λ m. take m (xs ++ (y ∷ []))) (after h) ∙ take_all (i + 1) (xs ++ (y ∷ [])) (omega (arith, length-append xs (y ∷ []), t.long))

      -- The substitutions with the choice y.
      pub level_run : Run r rule (take (v - rest v (i + 1)) (xs ++ (y ∷ []))) (rest v (i + 1)) n
      unfolding rest
      level_run = elim (dec_lt (i + 1) v) [
        | yes h ↦ subst (Run r rule (take (v - rest v (i + 1)) (xs ++ (y ∷ []))) (rest v (i + 1))) (sym t.place)
            (subst (λ l. Run r rule l (rest v (i + 1)) (start + y * M.states ^ rest v (i + 1))) (sym (level_prefix h))
            (run_more r rule xs (rest v (i + 1)) start y (omega (arith, choices_in M.states v i h)) (earlier h)))
        | no nh ↦ last (omega arith)
      ]
        where
          before : i + 1 < v → v - rest v i ≡ i
          before h = omega arith

          few : v ≤ i + 1 → v - rest v (i + 1) ≤ i
          few h = omega arith

          earlier : i + 1 < v → Run r rule xs (suc (rest v (i + 1))) start
          earlier h = subst (λ w. Run r rule xs w start) (rest_in M.states v i h)
              (subst (λ l. Run r rule l (rest v i) start) (ap (λ m. take m xs) (before h) ∙ take_all i xs (omega (arith, t.long))) t.run)

          last : v ≤ i + 1 → Run r rule (take (v - rest v (i + 1)) (xs ++ (y ∷ []))) (rest v (i + 1)) n
          last h =
              let same : rest v i ≡ rest v (i + 1) = rest_out M.states v i h in
              let none : y ≡ 0 = omega (arith, choices_out M.states v i h) in
              let here : start ≡ n = omega (arith, t.place, ap (λ y. y * M.states ^ rest v (i + 1)) none, zero-mul (M.states ^ rest v (i + 1))) in
              let prefix : take (v - rest v (i + 1)) xs ≡ take (v - rest v (i + 1)) (xs ++ (y ∷ [])) = sym (take-append-le (v - rest v (i + 1)) xs (y ∷ []) (omega (arith, few h, t.long))) in
              subst (λ l. Run r rule l (rest v (i + 1)) n) prefix (subst (λ w. Run r rule (take (v - w) xs) w n) same (subst (Run r rule (take (v - rest v i) xs) (rest v i)) here t.run))

      pub level_next : (m : ℕ) → m ≡ n + M.states ^ rest v (i + 1) → m ≤ budget → Clear m → Level v i r rule xs budget start (y + 1) m
      level_next m e h clear = record {
        run = t.run;
        long = t.long;
        upto = omega arith;
        place = omega (arith, t.place, suc-mul y (M.states ^ rest v (i + 1)), ap (λ y. y * M.states ^ rest v (i + 1)) (add-one y));
        within = h;
        clear = clear;
      }

  module _ (range : InRange M) (shaped : WellShapedRules R) where
    -- A substitution none of whose classes is critical.
    pub calm_from : (r : ℕ) (rule : Rule) (σ : List ℕ) → Memᴰ rule R → ((q : ℕ) → q < M.states → is_critical M rule σ q ≡ false) → Calm (case r rule σ)
    calm_from r rule σ listed none q k =
        let low = left_below range rule.left (shaped rule listed).not_bare k.left in
        true≢false (sym ((critical_iff M R (case r rule σ) q).1 k) ∙ none q low)

    -- An answer that meets the outcome is the one of the definition.
    pub judged : (budget : ℕ) (k : Closure) → Outcome M all budget 0 k → k ≡ closure M R budget
    unfolding closure
    judged budget k o = sym (decides M all budget 0 (λ c m. record { some_class = class_some M R c; no_class = class_none M R range shaped c m }) k o)

    -- The first class that is critical.
    pub smallest_class : (r : ℕ) (rule : Rule) (σ : List ℕ) (q : ℕ) → is_critical M rule σ q ≡ true → ((x : ℕ) → x < q → is_critical M rule σ x ≡ false) → Smallest (CriticalFor M (case r rule σ)) q
    smallest_class r rule σ q is none = record {
      itself = (critical_iff M R (case r rule σ) q).0 is;
      least = λ x k. elim (dec_lt x q) [ yes h ↦ absurd (true≢false (sym ((critical_iff M R (case r rule σ) x).1 k) ∙ none x h)) | no nh ↦ omega arith ];
    }

  -- A lane of the batch that comes next.
  pub lane_at : (v r : ℕ) (rule : Rule) (x0 x1 x2 n : ℕ) → v ≤ 4 → Run r rule (take (v - rest v 3) (x0 ∷ (x1 ∷ (x2 ∷ [])))) (rest v 3) n → (j : ℕ) → j < M.states ^ rest v 3
      → case_at (n + j) ≡ case r rule (chosen v x0 x1 x2 j)
  unfolding rest chosen substitutions
  lane_at v r rule x0 x1 x2 n few run j hj = run.each j hj ∙ ap (case r rule) (classes v few j hj)
    where
      single : (j : ℕ) → j < M.states ^ 1 → get_or (substitutions M.states 1) j [] ≡ j ∷ []
      single j h =
          let one : j * M.states ^ 0 + 0 ≡ j = omega (arith, pow-zero M.states, ap (λ n. j * n) (pow-zero M.states), mul-one j) in
          ap (λ i. get_or (substitutions M.states 1) i []) (sym one) ∙ substitution_at M.states 0 j 0 (omega (arith, pow_1 M.states)) (omega (arith, pow-zero M.states))

      classes : (v : ℕ) → v ≤ 4 → (j : ℕ) → j < M.states ^ rest v 3 → take (v - rest v 3) (x0 ∷ (x1 ∷ (x2 ∷ []))) ++ get_or (substitutions M.states (rest v 3)) j [] ≡ chosen v x0 x1 x2 j
      classes zero h j l = let none : j ≡ 0 = omega (arith, pow-zero M.states) in ap (λ i. get_or (substitutions M.states 0) i []) none
      classes (suc zero) h j l = single j l
      classes (suc (suc zero)) h j l = ap (λ m. x0 ∷ m) (single j l)
      classes (suc (suc (suc zero))) h j l = ap (λ m. x0 ∷ x1 ∷ m) (single j l)
      classes (suc (suc (suc (suc zero)))) h j l = ap (λ m. x0 ∷ x1 ∷ x2 ∷ m) (single j l)
      classes (suc (suc (suc (suc (suc v))))) h j l = absurd (omega arith)

  pub out_closed : (budget n : ℕ) → n ≡ total M.states R → n ≤ budget → Clear n → Outcome M all budget 0 (Closure.closed n)
  out_closed budget n e h clear =
      let long : n ≡ length all = e ∙ sym (length_cases M.states 0 R) in
      (subst (Quiet M) (take_all n all (omega arith)) (quiet n clear), omega arith, omega arith)

  pub out_stopped : (budget : ℕ) → budget < length all → Clear budget → Outcome M all budget 0 (Closure.stopped budget)
  out_stopped budget h clear = (quiet budget clear, h, omega arith)

  pub out_critical : (budget n r : ℕ) (rule : Rule) (σ : List ℕ) (q : ℕ) → n < length all → n + 1 ≤ budget → Clear n → case_at n ≡ case r rule σ
      → Smallest (CriticalFor M (case r rule σ)) q → Outcome M all budget 0 (Closure.critical r σ q (n + 1))
  out_critical budget n r rule σ q long h clear e least = (
    n + 1,
    record {
      before = take n all;
      rest = drop (suc n) all;
      this = case r rule σ;
      split = ap (λ c. take n all ++ (c ∷ drop (suc n) all)) (sym e) ∙ ap (λ l. take n all ++ l) (sym (drop-cons all n no_case long)) ∙ take-append-drop n all;
      quiet = quiet n clear;
      number = refl;
      classes = refl;
      smallest = least;
      place = add-one n ∙ ap suc (sym (length-take n all ∙ whole));
    },
    h,
    omega arith,
  )
    where
      whole : min n (length all) ≡ n
      whole = omega arith

  -- A run without critical pairs is passed over, or the budget ends within it.
  module _ (r : ℕ) (rule : Rule) (π : List ℕ) (w n budget : ℕ) (run : Run r rule π w n) (within : n ≤ budget) (clear : Clear n) (calm : (d : ℕ) → d < M.states ^ w → Calm (case_at (n + d))) where
    pub pass_stop : budget - n < M.states ^ w → Outcome M all budget 0 (Closure.stopped budget)
    pass_stop short =
        let e : n + (budget - n) ≡ budget = omega arith in
        out_stopped budget (omega (arith, run.inside)) (subst Clear e (clear_run n (budget - n) clear (λ d h. calm d (omega arith))))
