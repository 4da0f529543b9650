-- The two automata that are judged.
use Rattle.theory.specs.Automaton.{Automaton, merged}
use Rattle.tables.specs.declared.Tables.{Tables}
use Rattle.tables.specs.declared.Merging.{Merging}
use Rattle.tables.specs.Held.{automaton_of, arities_of, merge_of}

-- The merged automaton of the tables.
abbrev pub merged_of : Tables → Merging → Automaton
merged_of t m = merged (merge_of t m) (automaton_of (arities_of t) t.initial)

-- The bad automaton of the tables.
abbrev pub bad_of : Tables → Automaton
bad_of t = automaton_of (arities_of t) t.bad
