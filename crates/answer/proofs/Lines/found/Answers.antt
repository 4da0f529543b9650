-- `found`: the lines say the pair and the count, as long as any.
use mathlib.Core.Path.{refl}
use native.Mathlib.Omega.{arith}
use Rattle.paper.specs.Bytes.{bytes}
use Rattle.paper.specs.Answer.{dash}
use Rattle.answer.specs.Shown.{shown, seven}
use Rattle.answer.proofs.Widths.{says_short, three, ten, fifteen}
use Rattle.answer.proofs.Lines.found.Goals as goal

pub returns : goal.returns
unfolding seven shown dash bytes
returns c =
    let rule = three c.args.pair.rule (omega arith) in
    let classes = fifteen c.args.pair (omega arith) (omega arith) (omega arith) (omega arith) in
    let class = three c.args.pair.class (omega arith) in
    let examined = ten c.args.examined (omega arith) in
    says_short refl (omega arith)
