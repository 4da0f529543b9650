-- `digits_of`: it stores the number's digits from the right.
use mathlib.Core.Path.{◌≡◌}
use native.Mathlib.Omega.{arith}
use Rattle.writing.proofs.Digits.{storing_none, storing_more, storing_last}
use Rattle.writing.proofs.put.digits_of.Goals as goal

pub loop-start-init : goal.loop-start-init
loop-start-init c = storing_none c.args.n (omega (arith, c.ranges))

pub returns-then-rest-lt10 : goal.returns-then-rest-lt10
returns-then-rest-lt10 c = rw c.digit.ensures (storing_last c.loop-start.invariant _ (omega arith) c.if-rest-lt10.true)

pub loop-start-preserved : goal.loop-start-preserved
loop-start-preserved c = rw c.digit.ensures (storing_more c.loop-start.invariant _ (omega arith) c.if-rest-lt10.false (omega arith))

pub returns : goal.returns
returns c =
    let s = c.loop-start.invariant in
    let last : 1 ≡ c.loop-start.start = omega (arith, s.some) in
    rw c.digit-2.ensures (storing_last s 0 last (omega (arith, rw (← last) at s.room)))
