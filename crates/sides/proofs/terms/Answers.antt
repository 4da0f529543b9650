-- A pass from the right counts the terms that the tokens behind it write.
use Rattle.std.proofs.Common.{◌≡◌, ◌+◌, ◌-◌, length, drop, arith, sym, ◌∙◌}
use Rattle.std.proofs.lemmas.List.{at_drop_all, length_push}
use Rattle.std.proofs.lemmas.Iterator.Adapters.{YieldsList-from_rev_slice}
use Rattle.std.proofs.lemmas.Iterator.Consumers.{YieldsList-turn}
use Rattle.sides.specs.Tokens.{open_terms}
use Rattle.sides.proofs.PassLaws.{open_none, open_back, closes_most}
use Rattle.sides.proofs.terms.Goals as goal
use Rattle.sides.proofs.terms.Goals.{After-closed}

pub loop-c-init : goal.loop-c-init
unfolding open_terms
loop-c-init c = (omega arith, at_drop_all (open_terms c.args.arities.now) c.args.tokens.now _ (omega arith), tt, tt)

-- what the token of this turn makes of the terms behind it
turn : (c : After-closed) → open_terms c.args.arities.now (drop (length c.args.tokens.now - (length c.loop-c.yielded + 1)) c.args.tokens.now) ≡ c.closed.result
turn c =
    let t = YieldsList-turn (YieldsList-from_rev_slice c.args.tokens.now cc) c.loop-c.yielded _ c.loop-c.yielded_by _ _ c.in-Some.c c.in-Some.is c.next.ensures.steps in
    open_back c.args.arities.now c.args.tokens.now _ _ _ _ t c.loop-c.invariant.1 c.closed.ensures

pub returns-in_err-n : goal.returns-in_err-n
returns-in_err-n c = c.from_residual.ensures ∙ sym (open_none _ _ _ (turn (goal.at.returns-in_err-n c).After-closed ∙ c.in_err-n.was))

pub loop-c-preserved : goal.loop-c-preserved
loop-c-preserved c =
    let more = length_push c.loop-c.yielded c.in-Some.c in
    let most = closes_most _ _ _ _ (c.in_ok-n.ensures) in
    (omega arith, rw more (turn (goal.at.loop-c-preserved c).After-closed ∙ c.in_ok-n.was), tt, tt)
