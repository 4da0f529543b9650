-- The automaton that the search judges.
use Rattle.std.specs.Prelude.{List, [], ℕ, get_or}
use Rattle.theory.specs.Automaton.{Automaton}
use Rattle.woven.specs.Woven.{woven_moves}
use Rattle.woven.specs.declared.automaton.Automaton.{Automaton as Woven}

-- The automaton with k states that the words mean. Its final states play no part in the search, and are none here.
unfoldable pub woven_automaton : (arities words heads : List ℕ) → ℕ → Automaton
woven_automaton arities words heads k = record { states = k; transitions = woven_moves arities words (get_or heads 64 0); final = [] }

-- The same of the automaton as one value.
abbrev pub meant : Woven → Automaton
meant a = woven_automaton a.arities.now a.words.now a.heads.now a.states
