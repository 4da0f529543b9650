-- `reply::reply_closure` meets its contract: the text of the answer is placed.
use mathlib.Core.Path.{ap}
use Rattle.paper.specs.Answer.{closure_answer}
use Rattle.reply.proofs.Placing.{placed_short, placed_written}
use Rattle.reply.proofs.reply_closure.Goals as goal

pub returns-then-out-lt128 : goal.returns-then-out-lt128
returns-then-out-lt128 c = placed_short _ _ c.if-out-lt128.true

pub returns : goal.returns
returns c =
    placed_written _ _ _ _ _ (ap closure_answer c.closure.ensures.said) c.if-out-lt128.false c.write_closure.ensures
