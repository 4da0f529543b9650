-- `only_examined`: the lines say what is said of the count, and no value is too long.
use mathlib.Core.Path.{refl}
use native.Mathlib.Omega.{arith}
use Rattle.paper.specs.Bytes.{bytes}
use Rattle.paper.specs.Answer.{dash}
use Rattle.answer.specs.Shown.{shown, seven}
use Rattle.answer.proofs.Widths.{says_short, any_shown}
use Rattle.answer.proofs.Lines.only_examined.Goals as goal

pub returns : goal.returns
unfolding seven shown dash bytes
returns c = says_short refl (omega (arith, any_shown c.args.examined c.well_formed.0))
