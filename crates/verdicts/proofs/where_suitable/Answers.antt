-- `verdicts::where_suitable` meets its contract: the pair of the verdict is the answer's, so it ends where that does.
use Rattle.verdicts.specs.Said.{EndedIn, EndedVerdict}
use Rattle.verdicts.proofs.where_suitable.Goals as goal

pub returns-in-Critical-clause-ended : goal.returns-in-Critical-clause-ended
unfolding EndedIn EndedVerdict
returns-in-Critical-clause-ended c = rw c.in-Critical.is (λ e. e)

pub returns-in-Closed-clause-ended : goal.returns-in-Closed-clause-ended
unfolding EndedVerdict
returns-in-Closed-clause-ended c = λ e. tt

pub returns-in-Stopped-clause-ended : goal.returns-in-Stopped-clause-ended
unfolding EndedVerdict
returns-in-Stopped-clause-ended c = λ e. tt
