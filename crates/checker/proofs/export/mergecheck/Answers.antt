-- `checker::export::mergecheck` meets its contract: the number and the length in one.
use mathlib.Core.Path.{ap}
use native.Mathlib.Omega.{arith}
use Rattle.paper.specs.Contract.{Returned}
use Rattle.checker.specs.Gave.{packed}
use Rattle.checker.proofs.Laws.{written_short}
use Rattle.checker.proofs.export.mergecheck.Goals as goal

pub overflow_add-result : goal.overflow_add-result
overflow_add-result c =
    omega (arith, written_short c.args.file.now c.args.out.now, ap (λ (x : Returned). x.written) c.check-a.ensures)

pub returns : goal.returns
unfolding packed
returns c = rw c.number.ensures (ap packed c.check-a.ensures, ap (λ (x : Returned). x.buffer) c.check-a.ensures)
