-- `checker::export::mergecheck_sharing` meets its contract: the answer's kind is returned, and its numbers fill the array.
use mathlib.Core.Path.{ap, ◌∙◌}
use Rattle.checker.specs.Numbers.{sharing_kind, sharing_numbers}
use Rattle.checker.proofs.export.mergecheck_sharing.Goals as goal

pub returns : goal.returns
returns c =
    let said = c.sharing.ensures in
    let (kind, words) = c.sharing_numbers.ensures in
    let (gave, filled) = c.fill.ensures in
    (gave ∙ kind ∙ ap sharing_kind said, filled ∙ words ∙ ap sharing_numbers said)
