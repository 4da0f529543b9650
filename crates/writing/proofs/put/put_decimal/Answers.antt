-- `put_decimal`: the part of the ten bytes that is handed over is the number's digits.
use native.Mathlib.Omega.{arith}
use Rattle.writing.proofs.Digits.{Standing, digits_stand}
use Rattle.writing.proofs.Laws.{said_as}
use Rattle.writing.proofs.put.put_decimal.Goals as goal
use Rattle.writing.proofs.put.put_decimal.Goals.{After-digits_of-d}

stand : (c : After-digits_of-d) → Standing c.args.n c.digits_of-d.result
stand c = digits_stand c.args.n c.digits_of-d.result c.digits_of-d.ensures

pub slice_bounds-put_bytes-count : goal.slice_bounds-put_bytes-count
slice_bounds-put_bytes-count c = (stand (goal.at.slice_bounds-put_bytes-count c).After-digits_of-d).start

pub slice_bounds-put_bytes-start : goal.slice_bounds-put_bytes-start
slice_bounds-put_bytes-start c = omega (arith, (stand (goal.at.slice_bounds-put_bytes-start c).After-digits_of-d).start)

pub put_bytes-requires : goal.put_bytes-requires
put_bytes-requires c = rw (stand (goal.at.put_bytes-requires c).After-digits_of-d).says c.requires

pub returns : goal.returns
returns c = said_as (stand (goal.at.returns c).After-digits_of-d).says c.put_bytes.ensures
