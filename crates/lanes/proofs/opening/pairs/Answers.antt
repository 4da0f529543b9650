-- `lanes::opening::pairs` meets its contract: the pairs of classes whose number is below `start` have no critical pair.
use mathlib.Core.Path.{refl}
use Prim.Native.Nat.{◌+◌}
use native.Mathlib.Omega.{arith}
use lib.ListN.{length}
use Rattle.lanes.specs.Batches.{Fixed}
use Rattle.lanes.proofs.Judging.{Passed, none_kept, passed_none, passed_more, passed_all}
use Rattle.lanes.proofs.Stays.{fixed_stays, paired_stays, untouched_rows}
use Rattle.lanes.proofs.opening.pairs.Goals.{Else-compare}
use Rattle.lanes.proofs.opening.pairs.Goals as goal

-- One batch more is passed.
passed : (c : Else-compare) → let a = c.args in
    Fixed a.delta.states c.compare.new.m a.xs.now × Passed a.delta.arities.now a.delta.words.now a.delta.heads.now a.tokens.now a.delta.states a.xs.now (length a.xs.now + 2) (c.loop-start.start + 512)
passed c =
    let a = c.args in
    let few = c.requires.1.few in
    let pair = c.pair_up.ensures in
    let compared = c.compare.ensures in
    let fixed = paired_stays a.delta.states _ c.pair_up.new.m _ _ a.xs.now (omega arith) (omega arith) (omega arith) pair.both_touched c.loop-start.invariant.0 in (
      fixed_stays a.delta.states c.pair_up.new.m _ a.xs.now (λ x hx. untouched_rows a.delta.states c.pair_up.new.m _ compared.kept_2.1 x) fixed,
      passed_more a.delta.arities.now a.delta.words.now a.delta.heads.now a.tokens.now a.delta.states a.xs.now _ c.loop-start.start _ refl
          (record { front = fixed.each; high = pair.paired.high; low = pair.paired.low })
          (λ rule s. (compared.compared rule s).clear c.if-compare.false) c.loop-start.invariant.1,
    )

pub loop-start-init : goal.loop-start-init
loop-start-init c = let a = c.args in (c.fix_all.ensures.0, passed_none a.delta.arities.now a.delta.words.now a.delta.heads.now a.tokens.now a.delta.states a.xs.now _)

pub compare-requires-clause-kept : goal.compare-requires-clause-kept
compare-requires-clause-kept c = let a = c.args in none_kept a.delta.arities.now a.delta.words.now a.delta.heads.now a.tokens.now a.delta.states _ _

pub loop-start-preserved : goal.loop-start-preserved
loop-start-preserved c = passed ((goal.at.loop-start-preserved c).Else-compare)

pub returns : goal.returns
returns c =
    let a = c.args in (
      λ rule s left right e. passed_all a.delta.arities.now a.delta.words.now a.delta.heads.now a.tokens.now a.delta.states a.xs.now _ c.loop-start-test.false c.loop-start.invariant.1
          rule s left right,
      omega arith,
    )

pub returns-else-compare : goal.returns-else-compare
returns-else-compare c =
    let a = c.args in
    let all = (passed ((goal.at.returns-else-compare c).Else-compare)).1 in
    (λ rule s left right e. passed_all a.delta.arities.now a.delta.words.now a.delta.heads.now a.tokens.now a.delta.states a.xs.now _ (omega arith) all rule s left right, omega arith)
