-- `lanes::opening::sweep` meets its contract: with the classes of `live` that are not found, the pairs of the last two variables' classes below `start` have no critical pair.
use mathlib.Core.List.{[], ◌∷◌, ◌++◌}
use Prim.Native.Nat.{◌+◌}
use native.Mathlib.Omega.{arith}
use lib.ListN.{length, length-append}
use Rattle.lanes.specs.Batches.{Fixed, with_own}
use Rattle.lanes.proofs.Judging.{PassedEach, passed_none, passed_more, passed_each}
use Rattle.lanes.proofs.Stays.{fixed_stays, paired_stays}
use Rattle.lanes.proofs.Trying.{laid_own}
use Rattle.lanes.proofs.opening.sweep.Goals.{After-tried-found}
use Rattle.lanes.proofs.opening.sweep.Goals as goal

-- One batch more is passed.
passed : (c : After-tried-found) → let a = c.args in
    Fixed a.delta.states c.tried-found.new.m a.xs.now × PassedEach a.delta.arities.now a.delta.words.now a.delta.heads.now a.tokens.now a.delta.states a.xs.now a.live
    c.tried-found.result (c.loop-start.start + 512)
passed c =
    let a = c.args in
    let few = c.requires.1.few in
    let pair = c.pair_up.ensures in
    let (tried, others) = c.tried-found.ensures in
    let old = c.loop-start.invariant in
    let fresh = c.pair_up.new.m in
    let fixed = paired_stays a.delta.states _ fresh _ _ a.xs.now (omega arith) (omega arith) (omega arith) pair.both_touched old.0 in (
      fixed_stays a.delta.states fresh _ a.xs.now (λ x hx q hq. others.rows x q (omega arith) hq (λ e. omega arith)) fixed,
      λ y hy on out. passed_more a.delta.arities.now a.delta.words.now a.delta.heads.now a.tokens.now a.delta.states (a.xs.now ++ (y ∷ [])) _ c.loop-start.start
          (with_own a.delta.states (length a.xs.now) fresh y)
          (omega (arith, length-append a.xs.now (y ∷ []))) (laid_own a.delta.states fresh a.xs.now c.loop-start.start y fixed pair.paired)
          (λ rule s. (tried rule s).clear y hy on out) (λ rule s. old.1 y hy on ((tried rule s).more y out) rule s),
    )

pub loop-start-init : goal.loop-start-init
loop-start-init c = let a = c.args in (c.fix_all.ensures.0, λ y hy on out. passed_none a.delta.arities.now a.delta.words.now a.delta.heads.now a.tokens.now a.delta.states (a.xs.now ++ (y ∷ [])) _)

pub loop-start-preserved : goal.loop-start-preserved
loop-start-preserved c = passed ((goal.at.loop-start-preserved c).After-tried-found)

pub returns : goal.returns
returns c =
    let a = c.args in
    (passed_each a.delta.arities.now a.delta.words.now a.delta.heads.now a.tokens.now a.delta.states a.xs.now a.live _ _ c.loop-start-test.false c.loop-start.invariant.1, omega arith)

pub returns-2 : goal.returns-2
returns-2 c =
    let a = c.args in (
      passed_each a.delta.arities.now a.delta.words.now a.delta.heads.now a.tokens.now a.delta.states a.xs.now a.live _ _ (omega arith) (passed
          ((goal.at.returns-2 c).After-tried-found)).1,
      omega arith,
    )
