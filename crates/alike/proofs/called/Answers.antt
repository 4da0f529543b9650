-- `alike::called` meets its contract: the run is all words of the symbol.
use Rattle.alike.proofs.Words.{live_calls}
use Rattle.alike.proofs.called.Goals as goal

pub returns : goal.returns
returns c = λ arities. live_calls _ _ _ c.args.delta.ready.indexed c.requires c.words_of-w-items.ensures _ c.loop-w-test.false arities c.loop-w.set c.loop-w.invariant
