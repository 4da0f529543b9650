-- `lanes::sides::dark` meets its contract: what is missing in `all` is missing in each word so far.
use mathlib.Core.Path.{ap, ◌∙◌}
use Prim.Native.Nat.{ℕ, ◌/◌, ◌%◌}
use native.Mathlib.Omega.{arith}
use borrow.Author.Tests.{eqb-true}
use Rattle.sets.specs.Sets.{Set, mem}
use Rattle.sets.proofs.Laws.{mem-zero}
use Rattle.lanes.proofs.SideRows.{missed_more}
use Rattle.lanes.proofs.sides.dark.Goals as goal

pub loop-word-preserved : goal.loop-word-preserved
loop-word-preserved c = missed_more _ _ _ c.loop-word.invariant

pub returns : goal.returns
returns c = λ e l h.
    c.loop-word.invariant (l / 64) (omega arith) (l % 64) (ap (λ (w : ℕ). mem w (l % 64)) (eqb-true _ _ e) ∙ ap (λ (s : Set). s (l % 64)) mem-zero)
