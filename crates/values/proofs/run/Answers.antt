-- `values::run` meets its contract: none is joined at first, and each word of the target joins its lanes.
use mathlib.Core.Path.{◌∙◌, sym}
use Rattle.values.proofs.Gathering.{joined_none, joined_more}
use Rattle.values.proofs.run.Goals as goal

pub loop-i-init : goal.loop-i-init
loop-i-init c = joined_none

pub loop-i-preserved : goal.loop-i-preserved
loop-i-preserved c = joined_more (sym c.part_of.ensures.0 ∙ c.if-part_of-q.false) c.gain-more.ensures c.loop-i.invariant
