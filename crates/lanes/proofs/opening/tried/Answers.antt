-- `lanes::opening::tried` meets its contract: of the classes below x, those in `live` that are not found have no lane with a critical pair.
use mathlib.Core.Path.{refl, sym, ◌∙◌}
use Rattle.theory.proofs.Bools.{not_both}
use Rattle.lanes.proofs.Judging.{none_kept}
use Rattle.lanes.proofs.Trying.{trying_none, trying_same, trying_skip, fresh_kept, trying_clear, trying_found}
use Rattle.lanes.proofs.opening.tried.Goals as goal
use Rattle.lanes.proofs.opening.tried.Goals.{then-has+then-not-has+then-compare, then-has+then-not-has+else-compare, else-has, else-has-via-then-has+else-not-has, else-has-via-else-has}

pub loop-x-init : goal.loop-x-init
loop-x-init c =
    let a = c.args in
    trying_none _ a.delta.arities.now a.tokens.now a.delta.states a.own a.live a.found a.m.now _ _ refl
    (none_kept a.delta.arities.now a.delta.words.now a.delta.heads.now a.tokens.now a.delta.states _ _)

pub compare-requires-clause-kept : goal.compare-requires-clause-kept
compare-requires-clause-kept c = fresh_kept c.loop-x-test.true c.loop-x.invariant _ c.requires.1 c.fix.ensures.1

pub loop-x-preserved : goal.loop-x-preserved
loop-x-preserved c =
    let going = c.loop-x-test.true in
    let inv = c.loop-x.invariant in
    let low = c.requires.1 in
    elim c.if-has.branch [
      | then-has+then-not-has+then-compare w ↦
          let v = w.compare.ensures in
          trying_same w.m-is w.ends-is w.mask-is
          (trying_found going inv _ low w.fix.ensures.1 w.fix.ensures.0 _ v.kept_2.1 _ v.kept_2.0 _ w.with-mask.ensures.0)
      | then-has+then-not-has+else-compare w ↦
          let v = w.compare.ensures in
          trying_same w.m-is w.ends-is w.mask-is
          (trying_clear going inv _ low w.fix.ensures.1 w.fix.ensures.0 _ v.kept_2.1 _ v.kept_2.0 (λ rule s. (v.compared rule s).clear w.if-compare.false))
      | else-has w ↦ trying_same w.m-is w.ends-is w.mask-is (trying_skip going inv (elim w.else-has.branch [
        | else-has-via-then-has+else-not-has v ↦ λ on out. not_both _ (sym v.has-then-has.ensures ∙ v.if-not-has.false) out
        | else-has-via-else-has v ↦ λ on out. not_both _ on (sym c.has.ensures ∙ v.if-has.false)
      ]))
    ]
