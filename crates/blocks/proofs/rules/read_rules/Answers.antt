-- The rules, two lines each, fill the array from the front.
use Rattle.std.proofs.Common.{◌≡◌, refl, arith}
use Rattle.fields.specs.Padded.{padded}
use Rattle.blocks.specs.Packed.{packed_rules, filled, zero_rule}
use Rattle.blocks.proofs.Chain.{exits}
use Rattle.blocks.proofs.Blocks.{fill_start, fill_more, fill_stopped, fill_end}
use Rattle.blocks.proofs.RuleLaws.{rules_more}
use Rattle.blocks.proofs.rules.read_rules.Goals as goal

pub loop-i-init : goal.loop-i-init
unfolding packed_rules filled zero_rule padded
loop-i-init c = fill_start c.requires.placed refl

pub returns-in_err-one : goal.returns-in_err-one
returns-in_err-one c = exits _ _ _ c.from_residual.ensures.1 (fill_stopped c.loop-i.invariant c.loop-i-test.true c.in_err-one.ensures)

pub loop-i-preserved : goal.loop-i-preserved
loop-i-preserved c =
    let w = c.in_ok-one.ensures in
    fill_more c.loop-i.invariant c.loop-i-test.true w.is w.placed (rules_more _ c.loop-i.i _ _ w.packs (omega arith))

pub returns : goal.returns
returns c = let n : c.loop-i.i ≡ c.args.n = omega arith in rw n at (fill_end c.loop-i.invariant n)
