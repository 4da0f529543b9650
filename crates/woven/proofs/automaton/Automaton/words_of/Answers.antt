-- `Automaton::words_of` meets its contract: the words of a symbol end within the list.
use native.Mathlib.Omega.{arith}
use Rattle.woven.proofs.Indexing.{within}
use Rattle.woven.proofs.automaton.Automaton.words_of.Goals as goal

pub slice_bounds-result-end : goal.slice_bounds-result-end
slice_bounds-result-end c =
    let indexed = c.args.self.ready.indexed in
    omega (arith, indexed.room, within c.args.self.words.now c.args.self.heads.now indexed c.args.f c.requires)
