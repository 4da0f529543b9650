-- `final_pair`: the lines say the class and the state, each of at most three digits, and what is said of the count.
use mathlib.Core.Path.{refl}
use native.Mathlib.Omega.{arith}
use Rattle.paper.specs.Bytes.{bytes}
use Rattle.paper.specs.Answer.{dash}
use Rattle.answer.specs.Shown.{shown, seven}
use Rattle.answer.proofs.Widths.{says_short, three, any_shown}
use Rattle.answer.proofs.Lines.final_pair.Goals as goal

pub returns : goal.returns
unfolding seven shown dash bytes
returns c =
    says_short refl (omega (arith, three c.args.shared.class (omega arith), three c.args.shared.bad (omega arith), any_shown c.args.examined c.well_formed.1.0))
