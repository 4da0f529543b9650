-- `judge::judge` meets its contract: the paper's verdict, put together from what the two questions find.
use borrow.Author.Rules.{rules}
use Rattle.paper.specs.Meaning.{whole}
use Rattle.paper.specs.Computed.{verdict, judge}
use Rattle.tables.specs.Held.{held}
use Rattle.verdicts.specs.Said.{said, said_sharing}
use Rattle.judge.proofs.judge.Goals as goal

pub returns-in-Some-clause-said : goal.returns-in-Some-clause-said
unfolding verdict judge whole said said_sharing held
returns-in-Some-clause-said c = search rules

pub returns-in-None-clause-said : goal.returns-in-None-clause-said
unfolding verdict judge said_sharing held
returns-in-None-clause-said c = search rules
