-- `checker::export::mergecheck_closure` meets its contract: the answer's kind is returned, and its numbers fill the array.
use mathlib.Core.Path.{ap, ◌∙◌}
use Rattle.checker.specs.Numbers.{closure_kind, closure_numbers}
use Rattle.checker.proofs.export.mergecheck_closure.Goals as goal

pub returns : goal.returns
returns c =
    let said = c.closure.ensures.said in
    let (kind, words) = c.closure_numbers.ensures in
    let (gave, filled) = c.fill.ensures in
    (gave ∙ kind ∙ ap closure_kind said, filled ∙ words ∙ ap closure_numbers said)
