-- `put_classes`: after the first class each stands behind its comma.
use mathlib.Core.List.{List, [], ◌∷◌}
use Prim.Native.Nat.{ℕ}
use lib.ListN.{drop_of_length-le}
use native.Mathlib.Omega.{arith}
use Rattle.verdicts.specs.Said.{classes_of}
use Rattle.verdicts.specs.declared.critical_pair.CriticalPair.{CriticalPair}
use Rattle.writing.proofs.Laws.{begun, ended, room, go_on, commaed, no_first, a_first, no_next, a_next}
use Rattle.writing.proofs.put.put_classes.Goals as goal

-- The classes after the first, and 255 for those that the rule does not have.
abbrev later : CriticalPair → List ℕ
later p = p.x1 ∷ p.x2 ∷ p.x3 ∷ []

pub returns-then-pair-eq-NO_CLASS : goal.returns-then-pair-eq-NO_CLASS
unfolding classes_of
returns-then-pair-eq-NO_CLASS c = ended (begun c.requires) (no_first _ _ c.if-pair-eq-NO_CLASS.true)

pub put_decimal-end-requires : goal.put_decimal-end-requires
unfolding classes_of
put_decimal-end-requires c = room (begun c.requires) _ (a_first _ _ c.if-pair-eq-NO_CLASS.false)

pub loop-x-init : goal.loop-x-init
unfolding classes_of
loop-x-init c = go_on (begun c.requires) _ (a_first _ _ c.if-pair-eq-NO_CLASS.false) c.put_decimal-end.ensures

pub returns-then-x : goal.returns-then-x
returns-then-x c = ended c.loop-x.invariant (no_next (later c.args.pair) c.loop-x.x-index (omega arith) c.if-x.true)

pub put_next-end-requires : goal.put_next-end-requires
put_next-end-requires c = room c.loop-x.invariant _ (a_next (later c.args.pair) c.loop-x.x-index (omega arith) c.if-x.false)

pub loop-x-preserved : goal.loop-x-preserved
loop-x-preserved c = go_on c.loop-x.invariant _ (a_next (later c.args.pair) c.loop-x.x-index (omega arith) c.if-x.false) c.put_next-end.ensures

pub returns : goal.returns
unfolding commaed
returns c = ended c.loop-x.invariant (rw (drop_of_length-le (later c.args.pair) {i = c.loop-x.x-index} (omega arith)))
