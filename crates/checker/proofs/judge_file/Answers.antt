-- `checker::judge_file` meets its contract: what is judged are tables that were read, however the code comes to them.
use native.Mathlib.Omega.{arith}
use Rattle.checker.proofs.FromReading.{sound_read}
use Rattle.checker.proofs.judge_file.Goals as goal

pub judge-requires : goal.judge-requires
judge-requires c = sound_read c.args.file.now _ _ (grind arith)
