-- `alike::rest_of` meets its contract: the argument is no larger than the word.
use Rattle.alike.proofs.Rests.{rest_taken}
use Rattle.alike.proofs.rest_of.Goals as goal

pub overflow_sub-result : goal.overflow_sub-result
overflow_sub-result c = (rest_taken c.args.w c.args.p c.class_at.result c.requires c.class_at.ensures.0).0

pub returns : goal.returns
returns c = (rest_taken c.args.w c.args.p c.class_at.result c.requires c.class_at.ensures.0).1
