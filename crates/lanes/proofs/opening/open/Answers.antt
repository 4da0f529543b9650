-- `lanes::opening::open` meets its contract, by how many variables come after the prefix.
use mathlib.Core.Path.{refl, ◌∙◌}
use Rattle.lanes.specs.Automaton.{woven_automaton}
use Rattle.lanes.proofs.Calm.{each_below}
use Rattle.lanes.proofs.Opened.{open_all, open_none, open_live, open_swept}
use native.Mathlib.Omega.{arith}
use Rattle.lanes.proofs.opening.open.Goals as goal

pub returns-then-v-own : goal.returns-then-v-own
unfolding woven_automaton
returns-then-v-own c =
    let a = c.args in (
      (λ rule s left right. open_all (woven_automaton a.delta.arities.now a.delta.words.now a.delta.heads.now a.delta.states) rule a.v a.xs.now a.needed c.args.delta.ready.most),
      refl,
    )

pub returns-then-pairs : goal.returns-then-pairs
unfolding woven_automaton
returns-then-pairs c =
    let a = c.args in (
      (λ rule s left right. open_all (woven_automaton a.delta.arities.now a.delta.words.now a.delta.heads.now a.delta.states) rule a.v a.xs.now a.needed c.args.delta.ready.most),
      c.pairs.ensures.1,
    )

pub returns-then-v-own-2 : goal.returns-then-v-own-2
unfolding woven_automaton
returns-then-v-own-2 c =
    let a = c.args in (
      (λ rule s left right.
          open_none (woven_automaton a.delta.arities.now a.delta.words.now a.delta.heads.now a.delta.states) rule a.v a.xs.now a.needed c.if-v-own-2.true
          (c.pairs.ensures.0 rule s (each_below c.if-v-own-2.true left)
          (each_below c.if-v-own-2.true right) c.if-pairs.false)),
      c.pairs.ensures.1,
    )

pub returns-then-v-own-3 : goal.returns-then-v-own-3
unfolding woven_automaton
returns-then-v-own-3 c =
    let a = c.args in
    let alive = c.alive in
    let third = c.if-v-own-3.true in (
      (λ rule s left right.
          open_swept (woven_automaton a.delta.arities.now a.delta.words.now a.delta.heads.now a.delta.states) rule a.v a.xs.now a.needed c.requires.1
          alive.result (alive.ensures.0 rule s) c.sweep.result third
          (c.sweep.ensures.0 rule s (each_below third left) (each_below third right))),
      c.sweep.ensures.1 ∙ alive.ensures.1,
    )

pub returns : goal.returns
unfolding woven_automaton
returns c =
    let a = c.args in
    let alive = c.alive in (
      (λ rule s left right.
          open_live (woven_automaton a.delta.arities.now a.delta.words.now a.delta.heads.now a.delta.states) rule a.v a.xs.now a.needed c.requires.1
          alive.result (alive.ensures.0 rule s) (omega (arith, c.if-v-own-2.false, c.if-v-own.false))),
      alive.ensures.1,
    )
