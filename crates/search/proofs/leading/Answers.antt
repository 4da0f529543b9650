-- `search::leading` meets its contract: each class that does not lead has a smaller one that gives both sides the same value.
use mathlib.Core.Path.{refl}
use Prim.Native.Nat.{ℕ}
use Rattle.theory.specs.Rewriting.{Rule}
use Rattle.theory.specs.Automaton.{Automaton}
use Rattle.theory.proofs.Bools.{not_both}
use Rattle.sets.specs.Sets.{mem, all_mask}
use Rattle.sets.proofs.Laws.{mem_all}
use Rattle.alike.specs.Needed.{Led}
use Rattle.lanes.specs.Automaton.{woven_automaton}
use Rattle.search.proofs.leading.Goals as goal

-- Where all lead, no class is passed over.
all_lead : (M : Automaton) (rule : Rule) (x : ℕ) → Led M rule x all_mask
all_lead M rule x = record { smaller = λ d low out. not_both (mem all_mask d) (mem_all d low) out }

pub returns-then-v-x : goal.returns-then-v-x
returns-then-v-x c = λ rule told. all_lead _ rule _

pub returns : goal.returns
unfolding woven_automaton
returns c = λ rule told. c.needed.ensures _ rule _ _ told.spelled.left told.spelled.right told.not_bare refl
