-- `TwoTables::sweep` meets its contract: a row keeps what it was closed to, since no visit changes the masks of its arguments.
use borrow.Author.Count.{below_more}
use Rattle.sharing.proofs.Sharing.{after, stays, still_left, still_right}
use Rattle.sharing.proofs.two_tables.TwoTables.sweep.Goals as goal

pub loop-m-preserved : goal.loop-m-preserved
loop-m-preserved c =
    let ok = c.args.self.shareable in
    let at = c.loop-m in
    let did = c.visit-got in
    after _ _ _ ok _ _ _ at.got did.result _ _ _ at.invariant did.ensures
    (λ s. below_more _ _
    (λ m l. stays _ _ _ ok _ _ did.result _ _ did.ensures (still_right _ _ _ at.got _ s) m (at.invariant.rest (still_left _ _ _ _ did.result s) m l))
    did.ensures.rest)
