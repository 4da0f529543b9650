-- `lanes::batch::batch` meets its contract: each lane has the substitution of its number, so the sides' values tell its critical pairs.
use mathlib.Core.Path.{sym, ◌∙◌, subst}
use Rattle.lanes.proofs.Batches.{Placed, front, placed_one, placed_more, batch_compared}
use Rattle.lanes.proofs.Judging.{none_kept}
use Rattle.lanes.proofs.batch.batch.Goals as goal
use Rattle.lanes.proofs.batch.batch.Goals.{Joined-v-lt2, then-v-lt2, else-v-lt2}

-- Before the sides are compared the lanes have the batch's substitutions.
placed : (c : Joined-v-lt2) → Placed c.args.delta.states c.args.v c.args.xs.now c.args.m.now c.if-v-lt2.m
placed c =
    let a = c.args in
    let p = c.requires in
    elim c.if-v-lt2.branch [
      | then-v-lt2 w ↦ subst (Placed a.delta.states a.v a.xs.now a.m.now) (sym w.m-is) (placed_one w.if-v-lt2.true w.pair_up.ensures.paired w.pair_up.ensures.both_touched)
      | else-v-lt2 w ↦
          let both = w.pair_up-else-v-lt2.ensures in
          subst (Placed a.delta.states a.v a.xs.now a.m.now) (sym w.m-is)
          (placed_more a.delta.states a.v a.xs.now w.if-v-lt2.false a.delta.ready.most p.1 w.fix_all.ensures.0 w.fix_all.ensures.1 both.paired both.both_touched)
    ]

pub fix_all-requires : goal.fix_all-requires
fix_all-requires c =
    let (j, before) = c.requires in
    (j.room, front before, c.args.delta.ready.most)

pub compare-requires-clause-kept : goal.compare-requires-clause-kept
compare-requires-clause-kept c = let a = c.args in none_kept a.delta.arities.now a.delta.words.now a.delta.heads.now a.tokens.now a.delta.states _ _

pub returns : goal.returns
returns c =
    let p = c.requires in
    let compared = c.compare.ensures in
    let there = placed ((goal.at.returns c).Joined-v-lt2) in
    (λ rule s left right. batch_compared c.args.delta.ready p.1.few there rule left right (compared.compared rule s), compared.kept_2.1.long ∙ there.long)
