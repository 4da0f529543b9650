-- `put_bytes`: it stores the bytes one by one.
use mathlib.Core.Path.{◌∙◌}
use lib.ListN.{length-set, drop_of_length-le}
use native.Mathlib.Omega.{arith}
use Rattle.writing.proofs.Laws.{copied_one}
use Rattle.writing.proofs.put.put_bytes.Goals as goal

pub loop-b-preserved : goal.loop-b-preserved
loop-b-preserved c =
    let l = c.loop-b in
    (omega arith, simp length-set l.invariant.1, copied_one l.out c.args.bs.now l.end l.b-index c.loop-b-test.true ∙ l.invariant.2)

pub returns : goal.returns
returns c =
    let l = c.loop-b in
    let done = drop_of_length-le c.args.bs.now {i = l.b-index} c.loop-b-test.false in
    record { place = omega arith; holds = rw done at l.invariant.2 }
