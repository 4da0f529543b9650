-- `lanes::opening::alive` meets its contract: each class of the variable after the prefix has its own lane, and the later variables are free.
use mathlib.Core.Path.{◌∙◌}
use borrow.Author.Rules.{rules}
use Rattle.lanes.proofs.Judging.{none_kept}
use Rattle.lanes.proofs.Comparing.{valuable}
use Rattle.lanes.proofs.Dead.{freed, some_alive}
use Rattle.lanes.proofs.opening.alive.Goals as goal

pub value-requires : goal.value-requires
value-requires c =
    let a = c.args in
    let j = c.requires.0 in
    valuable j (search rules)
    (c.free_from.ensures.1.long ∙ c.pair_up.ensures.both_touched.long
    ∙ c.fix_all.ensures.1.long)
    (none_kept a.delta.arities.now a.delta.words.now a.delta.heads.now a.tokens.now a.delta.states _ _)

pub returns : goal.returns
returns c =
    let a = c.args in
    let j = c.requires.0 in
    let prefix = c.fix_all.ensures in
    let both = c.pair_up.ensures in
    let later = c.free_from.ensures in
    let valued = c.value.ensures.valued in (
      some_alive a.delta.states _ a.xs.now c.args.delta.ready.some c.args.delta.ready.most (freed a.delta.states _ _ _ a.xs.now c.requires.1.few c.args.delta.ready.some prefix.0
          both.paired both.both_touched later.0 later.1)
          a.delta.arities.now a.delta.words.now a.delta.heads.now a.tokens.now j.symbol _ _ c.left_lanes.result valued c.left_lanes.ensures,
      valued.long ∙ later.1.long ∙ both.both_touched.long ∙ prefix.1.long,
    )
