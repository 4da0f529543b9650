-- `checker::check` meets its contract: a short buffer is refused, and any other gets the answer to the verdict.
use mathlib.Core.Path.{sym}
use Rattle.paper.specs.Answer.{answer_of}
use Rattle.paper.proofs.Contract.{short_untouched, answered}
use Rattle.verdicts.specs.Refused.{number, numbered}
use Rattle.checker.proofs.check.Goals as goal

pub returns-then-out-lt128 : goal.returns-then-out-lt128
unfolding number numbered
returns-then-out-lt128 c = sym (short_untouched c.args.file.now c.args.out.now c.if-out-lt128.true)

pub returns : goal.returns
unfolding answer_of
returns c =
    let w = c.write-length.ensures in
    rw (c.reason_of-reason.ensures, w.count, w.buffer, c.judge_file-v.ensures) (sym (answered c.args.file.now c.args.out.now c.if-out-lt128.false))
