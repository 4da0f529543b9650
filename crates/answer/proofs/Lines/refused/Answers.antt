-- `refused`: the lines say the refusal's number and its line, of at most three digits and ten.
use native.Mathlib.Omega.{arith}
use Rattle.paper.specs.Bytes.{bytes}
use Rattle.paper.specs.Answer.{dash}
use Rattle.answer.specs.Shown.{shown, seven}
use Rattle.answer.proofs.Widths.{says_short, three, any_shown}
use Rattle.answer.proofs.Lines.refused.Goals as goal

pub returns : goal.returns
unfolding seven shown dash bytes
returns c =
    let number = three c.number.result (omega arith) in
    let line = any_shown c.shown_line.result c.shown_line.type_inv in
    says_short (rw (← c.number.ensures, ← c.shown_line.ensures)) (omega arith)
