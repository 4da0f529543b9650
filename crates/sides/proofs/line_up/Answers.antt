-- A pass from the left counts the variables as long as they come in order.
use Rattle.std.proofs.Common.{arith, sym, ◌∙◌}
use Rattle.sides.proofs.PassLaws.{lined_more, lined_all, step_most}
use Rattle.sides.proofs.line_up.Goals as goal

pub returns-in_err-v : goal.returns-in_err-v
returns-in_err-v c =
    let l = lined_more c.args.tokens.now c.loop-c.v c.loop-c.c-index c.loop-c-test.true in
    c.from_residual.ensures ∙ sym (rw (← c.in_err-v.ensures) at l) ∙ c.loop-c.invariant.1

pub loop-c-preserved : goal.loop-c-preserved
loop-c-preserved c =
    let l = lined_more c.args.tokens.now c.loop-c.v c.loop-c.c-index c.loop-c-test.true in
    let most = step_most _ _ _ c.in_ok-v.ensures in
    (omega arith, sym (rw (← c.in_ok-v.ensures) at l) ∙ c.loop-c.invariant.1)

pub returns : goal.returns
returns c = sym (lined_all _ _ _ c.loop-c-test.false) ∙ c.loop-c.invariant.1
