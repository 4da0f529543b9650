-- The line `merge` and the end of the file.
use Rattle.std.proofs.Common.{arith}
use Rattle.std.proofs.lemmas.Result.{err_from_is_err_and}
use Rattle.certificate.specs.Read.{last_lines}
use Rattle.blocks.specs.Draft.{merge_line}
use Rattle.blocks.proofs.Chain.{first_stopped}
use Rattle.certificate.proofs.File.{bytes_follow, nothing_follows}
use Rattle.certificate.proofs.closing_at.Goals as goal

pub returns-in_err-merging : goal.returns-in_err-merging
unfolding last_lines
returns-in_err-merging c =
    let p = err_from_is_err_and c.from_residual.result c.from_residual.ensures.1 in
    rw (p.1, p.2) (first_stopped (merge_line c.args.states) _ c.in_err-merging.ensures)

pub returns-then-left_at-gt0 : goal.returns-then-left_at-gt0
returns-then-left_at-gt0 c = bytes_follow _ _ _ c.in_ok-merging.ensures.is (omega arith) c.on_line.ensures.0 c.on_line.ensures.1

pub returns : goal.returns
returns c = nothing_follows _ _ _ c.in_ok-merging.ensures.is (omega arith) c.in_ok-merging.ensures.packs
