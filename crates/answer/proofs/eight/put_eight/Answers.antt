-- `put_eight`: the first line and the seven others fit, and are put one after the other.
use mathlib.Core.Path.{◌∙◌}
use mathlib.Core.List.{List}
use Prim.Native.Nat.{ℕ, ◌≤◌}
use native.Mathlib.Nat.{zero-add}
use native.Mathlib.Omega.{arith}
use lib.ListN.{length, length-append}
use lib.Seq.{sets-eq}
use Rattle.writing.specs.Put.{Put}
use Rattle.writing.proofs.Laws.{◌then◌}
use Rattle.answer.specs.Shown.{seven, Wrote}
use Rattle.answer.proofs.eight.put_eight.Goals as goal

-- What is put from the buffer's start stands there, and the later bytes stay.
from_start : {d e bs : List ℕ} {n : ℕ} → Put d 0 bs n e → length bs ≤ length d → Wrote bs d n e
from_start {d} {e} {bs} p h = record { count = p.place ∙ zero-add _; buffer = p.holds ∙ sets-eq bs d 0 (omega arith) ∙ rw zero-add }

pub returns : goal.returns
returns c =
    let put = c.put_bytes-at.ensures then c.put_seven.ensures in
    let fit = length-append c.args.first.now (seven c.args.l) in
    from_start put (omega (arith, fit, c.requires))
