-- The line `merge`: its classes in their array, and how many there are.
use Rattle.blocks.specs.Draft.{merge_line}
use Rattle.blocks.proofs.Chain.{answer_stopped, answer_read, answer_whole, answer_placed, exits}
use Rattle.certificate.proofs.File.{merge_packs}
use Rattle.certificate.proofs.merging.read_merge.Goals as goal

pub returns-in_err-it : goal.returns-in_err-it
unfolding merge_line
returns-in_err-it c = exits _ _ _ c.from_residual.ensures.1 (answer_stopped c.in_err-it.ensures)

pub returns : goal.returns
unfolding merge_line
returns c =
    let l = c.in_ok-it.ensures in
    record { what = _; is = answer_read l; packs = merge_packs _ _ _ (answer_whole l).behind c.count_classes.ensures; placed = answer_placed l }
