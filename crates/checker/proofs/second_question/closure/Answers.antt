-- `checker::second_question::closure` meets its contract: what is asked about are tables that were read, however the code comes to them.
use native.Mathlib.Omega.{arith}
use Rattle.checker.proofs.FromReading.{sound_read}
use Rattle.checker.proofs.second_question.closure.Goals as goal

pub closure-requires : goal.closure-requires
closure-requires c = sound_read c.args.file.now _ _ (grind arith)
