-- `alike::standing` meets its contract: at first no word is passed, and the set is empty.
use Rattle.alike.proofs.Steps.{standing_none}
use Rattle.alike.proofs.standing.Goals as goal

pub loop-w-init : goal.loop-w-init
loop-w-init c = standing_none c.args.words.now c.args.p c.args.rest
