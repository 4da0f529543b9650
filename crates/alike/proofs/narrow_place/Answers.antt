-- `alike::narrow_place` meets its contract: each word narrows the masks, or its target is not wanted, and the run is all words of the symbol.
use Rattle.alike.proofs.Words.{narrowed_dead, narrowed_live, narrowed_place}
use Rattle.alike.proofs.narrow_place.Goals.{then-has, else-has}
use Rattle.alike.proofs.narrow_place.Goals as goal

pub loop-w-preserved : goal.loop-w-preserved
loop-w-preserved c = elim c.if-has.branch [
  | then-has w ↦ rw w.same-is (narrowed_live _ _ _ _ _ _ _ _ c.loop-w.invariant (rw w.rest_of.ensures at w.standing.ensures) w.narrow_all.ensures)
  | else-has w ↦ rw w.same-is (narrowed_dead _ _ _ _ _ _ c.loop-w.invariant (cc))
]

pub returns : goal.returns
returns c = narrowed_place _ _ _ c.args.delta.ready.indexed c.requires.0 c.words_of-run.ensures _ c.loop-w-test.false c.args.same.now _ c.loop-w.invariant
