-- The mask of the states so far.
use Rattle.std.proofs.Common.{rules, sym, ◌∙◌}
use Rattle.blocks.proofs.Masks.{mask_with, mask_more, mask_end}
use Rattle.blocks.proofs.automata.mask_of.Goals as goal

pub loop-q-preserved : goal.loop-q-preserved
loop-q-preserved c =
    let l = c.loop-q in
    let more = mask_with l.mask _ _ l.invariant.0 (search rules) (c.requires l.q-index) c.with-mask.ensures.0 in
    (search rules, mask_more _ l.q-index l.mask _ c.loop-q-test.true more ∙ l.invariant.1)

pub returns : goal.returns
returns c = sym (mask_end _ c.loop-q.q-index c.loop-q.mask c.loop-q-test.false) ∙ c.loop-q.invariant.1
