-- `reply::reply` meets its contract: what the public operation leaves is placed.
use Rattle.reply.proofs.Placing.{placed_answer}
use Rattle.reply.proofs.reply.Goals as goal

pub returns : goal.returns
returns c =
    let did = c.check in
    placed_answer c.args.file.now c.args.out.now did.result did.new.out did.ensures
