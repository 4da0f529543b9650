-- `values::join` meets its contract: a lane is the bit of a word.
use Rattle.values.proofs.Rows.{joined}
use Rattle.values.proofs.join.Goals as goal

pub returns : goal.returns
returns c = let x = c.args in joined x.s x.a x.b x.c c.loop-y.r c.loop-y.y c.loop-y-test.false c.loop-y.invariant
