-- `search::search` meets its contract: at each loop what is examined is counted and clear, and each way out says what the definition says.
use Rattle.search.proofs.Loops.{times, powered, chosen_from}
use mathlib.Core.Path.{refl, ◌∙◌, sym}
use native.Mathlib.Omega.{arith}
use lib.ListN.{get_or}
use borrow.Author.Rules.{rules}
use Rattle.paper.specs.Meaning.{total}
use Rattle.lanes.specs.Prefixes.{rest}
use Rattle.tables.specs.Held.{no_rule}
use Rattle.verdicts.specs.Said.{EndedIn}
use Rattle.lanes.specs.Automaton.{woven_automaton}
use Rattle.search.proofs.Walk.{level_rule}
use Rattle.search.proofs.Steps.{rule_count, rule_variables, rule_told, rule_given, rule_judgeable, rule_right}
use Rattle.search.proofs.Turns.{right_fits, no_class, rule_end, one_class, judgeable, opened_for, choice_low, next_begun, three_classes, right_room, batch_for}
use Rattle.search.proofs.Turns.{choice_bit, lane_bit, lane_next, lanes_done, batch_begun, batch_next, all_examined, passed_stop, lane_stop, lane_found, lane_ended, batch_stop}
use Rattle.search.proofs.Choosing.{class_low, gone_through, passed_over}
use borrow.Author.Count.{below_more}
use Rattle.search.proofs.search.Goals as goal
use Rattle.search.proofs.search.Goals.{At-first, At-second, At-third}
use Rattle.search.proofs.search.Goals.{then-batch+else-lanes-test, else-batch+else-most-examined, then-has-2+else-third-test}
use Rattle.search.proofs.search.Goals.{else-has-2+else-most-examined-2, then-has+else-second-test, else-has+else-most-examined-3}

pub rules-init : goal.rules-init
unfolding woven_automaton total
rules-init c =
    record {
      ok = record { ready = c.args.delta.ready; right = c.requires.0 };
      small = c.ranges.budget.fits;
      is_most = refl;
      is_size = refl;
      place = refl;
      within = search rules;
      clear = λ i h. absurd (omega arith);
      rows = record { room = c.requires.1; same = refl };
    }

pub overflow_mul-right : goal.overflow_mul-right
unfolding no_rule
overflow_mul-right c =
    let at = c.rules in
    let listed = c.rules-test.true in
    omega (arith, right_fits _ _ _ c.sheet_of.ensures (rule_right at.invariant.ok at.rule listed refl) at.invariant.ok.ready.most)

pub leading-leads0-requires : goal.leading-leads0-requires
unfolding no_rule
leading-leads0-requires c =
    let at = c.rules in
    rule_given at.invariant.ok at.rule c.rules-test.true refl (search rules) (omega arith)

pub leading-leads1-requires : goal.leading-leads1-requires
unfolding no_rule
leading-leads1-requires c =
    let at = c.rules in
    rule_given at.invariant.ok at.rule c.rules-test.true refl (search rules) (omega arith)

pub opened-open0-requires : goal.opened-open0-requires
unfolding no_rule
opened-open0-requires c =
    let at = c.rules in
    let listed = c.rules-test.true in
    (rule_judgeable at.invariant.ok at.rule listed refl (search rules) at.invariant.rows.room, at.invariant.ok.right.few at.rule, no_class _)

pub first-init : goal.first-init
unfolding woven_automaton no_rule
first-init c =
    let at = c.rules in
    let listed = c.rules-test.true in
    let a = c.args in
    let v = (get_or a.rules.now.rules at.rule no_rule).variables in
    let is_v = rule_variables at.invariant.ok at.rule listed in
    let told = rule_told at.invariant.ok at.rule listed refl is_v in
    record {
      ruled = record {
        ok = at.invariant.ok;
        small = at.invariant.small;
        listed = listed;
        long = search rules;
        is_most = at.invariant.is_most;
        is_size = at.invariant.is_size;
        is_tokens = refl;
        is_v = is_v;
        is_variables = refl;
        is_right = times a.delta.states c.sheet_of.ensures;
        few = at.invariant.ok.right.few at.rule;
        lanes_are = powered (rest v 3) c.many-lanes.ensures at.invariant.is_size;
        passed1_is = powered (rest v 2) c.many-passed1.ensures at.invariant.is_size;
        passed0_is = powered (rest v 1) c.many-passed0.ensures at.invariant.is_size;
        m0_is = chosen_from v 0 c.tries-m0.ensures at.invariant.is_size;
        m1_is = chosen_from v 1 c.tries-m1.ensures at.invariant.is_size;
        m2_is = chosen_from v 2 c.tries-m2.ensures at.invariant.is_size;
        led = c.leading-leads1.ensures _ told;
      };
      level = level_rule _ _ _ at.rule _ at.examined (omega (arith, rule_count a.delta.arities.now a.rules.now, listed)) is_v at.invariant.place at.invariant.within at.invariant.clear;
      opened = c.opened-open0.ensures.0 _ told (c.leading-leads0.ensures _ told);
      rows = record { room = omega (arith, at.invariant.rows.room, c.opened-open0.ensures.1); same = refl };
    }

pub rules-preserved : goal.rules-preserved
rules-preserved c =
    let at = c.rules in
    let inv = at.invariant in
    let first = c.first in
    record {
      ok = inv.ok;
      small = inv.small;
      is_most = inv.is_most;
      is_size = inv.is_size;
      place = rule_end first.invariant.ruled inv.place first.invariant.level c.first-test.false;
      within = first.invariant.level.within;
      clear = first.invariant.level.clear;
      rows = record { room = first.invariant.rows.room; same = first.invariant.rows.same ∙ c.opened-open0.ensures.1 ∙ inv.rows.same };
    }

pub has-requires : goal.has-requires
has-requires c = let at = c.first in class_low at.invariant at.invariant.ruled.m0_is c.first-test.true

pub overflow_cast-one : goal.overflow_cast-one
overflow_cast-one c =
    let at = c.first in
    omega (arith, class_low at.invariant at.invariant.ruled.m0_is c.first-test.true)

pub opened-open1-requires : goal.opened-open1-requires
opened-open1-requires c =
    let at = c.first in
    let t = at.invariant.ruled in
    let (sides, few) = judgeable t at.invariant.rows.room in
    (sides, few, one_class _ _ (choice_low t at.invariant.level t.m0_is c.first-test.true))

pub second-init : goal.second-init
second-init c =
    let at = c.first in
    let t = at.invariant.ruled in
    record {
      ruled = t;
      level = next_begun t at.invariant.level t.m0_is c.first-test.true;
      opened = opened_for t c.opened-open1.ensures.0;
      rows = record { room = omega (arith, at.invariant.rows.room, c.opened-open1.ensures.1); same = refl };
    }

pub has-requires-in-second : goal.has-requires-in-second
has-requires-in-second c = let at = c.second in class_low at.invariant at.invariant.ruled.m1_is c.second-test.true

pub third-init : goal.third-init
third-init c =
    let at = c.second in
    let t = at.invariant.ruled in
    let first = c.first in
    record {
      ruled = t;
      level = next_begun t at.invariant.level t.m1_is c.second-test.true;
      low0 = choice_low first.invariant.ruled first.invariant.level first.invariant.ruled.m0_is c.first-test.true;
      low1 = choice_low t at.invariant.level t.m1_is c.second-test.true;
      rows = record { room = at.invariant.rows.room; same = refl };
    }

pub second-preserved : goal.second-preserved
second-preserved c =
    let at = c.second in
    let t = at.invariant.ruled in
    let going = c.second-test.true in
    elim c.if-has-2.branch [
      | then-has-2+else-third-test w ↦
          let third = w.third.invariant in
          gone_through at.invariant t.m1_is going third.level t.m2_is w.third-test.false w.examined-is w.m-is third.rows.room third.rows.same
      | else-has-2+else-most-examined-2 w ↦
          passed_over at.invariant t.m1_is going t.passed1_is (sym c.has-in-second.ensures ∙ w.if-has-2.false) w.if-most-examined-2.false w.examined-is w.m-is
    ]

pub first-preserved : goal.first-preserved
first-preserved c =
    let at = c.first in
    let t = at.invariant.ruled in
    let going = c.first-test.true in
    elim c.if-has.branch [
      | then-has+else-second-test w ↦
          let second = w.second.invariant in
          gone_through at.invariant t.m0_is going second.level t.m1_is w.second-test.false w.examined-is w.m-is second.rows.room (second.rows.same ∙ w.opened-open1.ensures.1)
      | else-has+else-most-examined-3 w ↦
          passed_over at.invariant t.m0_is going t.passed0_is (sym c.has.ensures ∙ w.if-has.false) w.if-most-examined-3.false w.examined-is w.m-is
    ]

pub overflow_cast-three-in-third-2 : goal.overflow_cast-three-in-third-2
overflow_cast-three-in-third-2 c =
    let at = c.third in
    omega (arith, choice_bit at.invariant.ruled at.invariant.level at.invariant.ruled.m2_is c.third-test.true)

pub batch-requires : goal.batch-requires
batch-requires c =
    let at = c.third in
    let t = at.invariant.ruled in
    let (sides, few) = judgeable t at.invariant.rows.room in
    let third-low = choice_low t at.invariant.level t.m2_is c.third-test.true in
    (sides, record { few = few; long = refl; low = three_classes _ _ _ _ at.invariant.low0 at.invariant.low1 third-low })

pub lanes-init : goal.lanes-init
lanes-init c =
    let at = c.third in
    let t = at.invariant.ruled in
    let going = c.third-test.true in
    record {
      ruled = t;
      lane = batch_begun t at.invariant.level going (batch_for t c.batch.ensures.0) c.if-batch.true at.invariant.low0 at.invariant.low1;
      room = omega (arith, at.invariant.rows.room, c.batch.ensures.1);
    }

pub critical-requires : goal.critical-requires
critical-requires c =
    let at = c.lanes in
    let t = at.invariant.ruled in
    record {
      left = omega (arith, at.invariant.room);
      right = right_room t _ at.invariant.room;
      class = c.classes-test.true;
      lane = lane_bit t at.invariant.lane c.lanes-test.true;
    }

pub pair-found-requires : goal.pair-found-requires
pair-found-requires c =
    let at = c.lanes in
    let t = at.invariant.ruled in
    let l = at.invariant.lane in
    let most = t.ok.ready.most in
    record {
      low_rule = omega (arith, t.listed, t.ok.right.rules_bound);
      few = t.few;
      low0 = omega (arith, l.low0);
      low1 = omega (arith, l.low1);
      low2 = omega (arith, l.low2);
      low_last = lane_bit t l c.lanes-test.true;
      low_class = omega (arith, c.classes-test.true);
    }

pub classes-preserved : goal.classes-preserved
classes-preserved c =
    below_more _ _ c.classes.invariant (sym c.critical.ensures ∙ c.if-critical.false)

pub lanes-preserved : goal.lanes-preserved
lanes-preserved c =
    let at = c.lanes in
    let going = c.lanes-test.true in
    record {
      ruled = at.invariant.ruled;
      lane = lane_next at.invariant.ruled at.invariant.lane going c.if-examined-most.false (λ q hq. c.classes.invariant q (omega (arith, c.classes-test.false)));
      room = at.invariant.room;
    }

pub third-preserved : goal.third-preserved
third-preserved c =
    let at = c.third in
    let t = at.invariant.ruled in
    let going = c.third-test.true in
    record {
      ruled = t;
      level = elim c.if-batch.branch [
        | then-batch+else-lanes-test w ↦ lanes_done t at.invariant.level going w.lanes.invariant.lane w.lanes-test.false w.examined-is
        | else-batch+else-most-examined w ↦
            batch_next t at.invariant.level going (batch_for t c.batch.ensures.0) w.if-batch.false w.if-most-examined.false w.examined-is
      ];
      low0 = at.invariant.low0;
      low1 = at.invariant.low1;
      rows = record { room = omega (arith, at.invariant.rows.room, c.batch.ensures.1); same = omega (arith, at.invariant.rows.same, c.batch.ensures.1) };
    }

pub returns-after-rules-clause-said : goal.returns-after-rules-clause-said
returns-after-rules-clause-said c = let at = c.rules in all_examined at.invariant.ok _ (omega arith) at.invariant.place at.invariant.within at.invariant.clear

pub returns-then-examined-most-clause-said : goal.returns-then-examined-most-clause-said
returns-then-examined-most-clause-said c = let at = c.lanes in lane_stop at.invariant.ruled at.invariant.lane c.lanes-test.true c.if-examined-most.true

pub returns-then-critical-clause-said : goal.returns-then-critical-clause-said
returns-then-critical-clause-said c =
    let at = c.lanes in
    let going = c.lanes-test.true in
    let left = c.if-examined-most.false in
    let none = c.classes.invariant in
    lane_found at.invariant.ruled at.invariant.lane going _ left c.critical.ensures c.if-critical.true none c.pair-found.ensures.said

pub returns-then-critical-clause-ended : goal.returns-then-critical-clause-ended
unfolding EndedIn
returns-then-critical-clause-ended c = let at = c.lanes in lane_ended at.invariant.ruled at.invariant.lane c.lanes-test.true _ c.pair-found.ensures.is

pub returns-then-most-examined-clause-said : goal.returns-then-most-examined-clause-said
returns-then-most-examined-clause-said c =
    let at = c.third in
    let t = at.invariant.ruled in
    let going = c.third-test.true in
    batch_stop t at.invariant.level going (batch_for t c.batch.ensures.0) c.if-batch.false c.if-most-examined.true

pub returns-then-most-examined-2-clause-said : goal.returns-then-most-examined-2-clause-said
returns-then-most-examined-2-clause-said c =
    let at = c.second in
    let t = at.invariant.ruled in
    let going = c.second-test.true in
    passed_stop t at.invariant.level t.m1_is going t.passed1_is at.invariant.opened (sym c.has-in-second.ensures ∙ c.if-has-2.false) c.if-most-examined-2.true

pub returns-then-most-examined-3-clause-said : goal.returns-then-most-examined-3-clause-said
returns-then-most-examined-3-clause-said c =
    let at = c.first in
    let t = at.invariant.ruled in
    let going = c.first-test.true in
    passed_stop t at.invariant.level t.m0_is going t.passed0_is at.invariant.opened (sym c.has.ensures ∙ c.if-has.false) c.if-most-examined-3.true
