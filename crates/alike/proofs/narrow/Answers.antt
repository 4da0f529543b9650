-- `alike::narrow` meets its contract: what is left is in the set exactly when d is.
use mathlib.Core.Path.{sym, ◌∙◌}
use Rattle.alike.proofs.Steps.{narrow_in}
use Rattle.alike.proofs.narrow.Goals as goal

pub returns-then-has : goal.returns-then-has
returns-then-has c = let a = c.args in narrow_in a.mask a.set a.d (sym c.has.ensures ∙ c.if-has.true)
