-- `checker::first_question::sharing` meets its contract: what is asked about are tables that were read, however the code comes to them.
use native.Mathlib.Omega.{arith}
use Rattle.checker.proofs.FromReading.{sound_read}
use Rattle.checker.proofs.first_question.sharing.Goals as goal

pub sharing-requires : goal.sharing-requires
sharing-requires c = sound_read c.args.file.now _ _ (grind arith)
