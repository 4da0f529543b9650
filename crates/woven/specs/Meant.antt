-- What the woven automaton means.
use Rattle.std.specs.Prelude.{List, get_or}
use Rattle.theory.specs.Automaton.{Transition}
use Rattle.woven.specs.Woven.{woven_moves}
use Rattle.woven.specs.declared.automaton.Automaton.{Automaton}

-- The transitions that its words mean.
abbrev pub moves : Automaton → List Transition
moves a = woven_moves a.arities.now a.words.now (get_or a.heads.now 64 0)
