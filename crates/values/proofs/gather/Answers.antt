-- `values::gather` meets its contract: each run does one row, and behind the last row there is no target.
use Rattle.values.proofs.Gathering.{rows_runnable, rows_more, rows_all}
use Rattle.values.proofs.gather.Goals as goal

pub run-next-requires : goal.run-next-requires
run-next-requires c = rows_runnable c.requires c.loop-q.invariant

pub loop-q-preserved : goal.loop-q-preserved
loop-q-preserved c = rows_more c.requires c.loop-q.invariant c.loop-q-test.true c.run-next.ensures

pub returns : goal.returns
returns c = rows_all c.requires c.loop-q.invariant c.loop-q-test.false
