-- `TwoTables::pass` meets its contract: a row rests after a turn of another, as it waits for what that turn added.
use borrow.Author.Count.{below_more}
use native.Mathlib.Omega.{arith}
use Rattle.sharing.proofs.Sharing.{after, rest_on, still_right}
use Rattle.sharing.proofs.two_tables.TwoTables.pass.Goals as goal

pub loop-j-preserved : goal.loop-j-preserved
loop-j-preserved c =
    let t = c.args.self in
    let at = c.loop-j in
    let did = c.turn-more in
    let on = rest_on t.merged.now t.bad.now t.arities.now t.shareable at.pairs did.new.pairs did.result in
    after _ _ _ t.shareable _ _ _ at.got did.result _ _ _ at.invariant did.ensures (
      below_more _ _ (λ i l. on i _ did.ensures at.got (at.invariant.rest.0 i l)) (λ s. did.ensures.rest (still_right _ _ _ at.got _ s)),
      (λ i l k. on i _ did.ensures at.live (at.invariant.rest.1 i l (omega arith))),
    )
