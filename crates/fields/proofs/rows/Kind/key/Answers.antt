-- `key`: each kind's key is that of its row in paper's table.
use Rattle.paper.specs.Bytes.{bytes}
use Rattle.paper.specs.Certificate.{row}
use Rattle.fields.specs.Line.{key_of}
use Rattle.fields.proofs.rows.Kind.key.Goals as goal

pub returns-in-Budget : goal.returns-in-Budget
unfolding key_of bytes row
returns-in-Budget c = rw c.in-Budget.is

pub returns-in-Arities : goal.returns-in-Arities
unfolding key_of bytes row
returns-in-Arities c = rw c.in-Arities.is

pub returns-in-States : goal.returns-in-States
unfolding key_of bytes row
returns-in-States c = rw c.in-States.is

pub returns-in-Final : goal.returns-in-Final
unfolding key_of bytes row
returns-in-Final c = rw c.in-Final.is

pub returns-in-Trans : goal.returns-in-Trans
unfolding key_of bytes row
returns-in-Trans c = rw c.in-Trans.is

pub returns-in-BadStates : goal.returns-in-BadStates
unfolding key_of bytes row
returns-in-BadStates c = rw c.in-BadStates.is

pub returns-in-BadFinal : goal.returns-in-BadFinal
unfolding key_of bytes row
returns-in-BadFinal c = rw c.in-BadFinal.is

pub returns-in-BadTrans : goal.returns-in-BadTrans
unfolding key_of bytes row
returns-in-BadTrans c = rw c.in-BadTrans.is

pub returns-in-Rules : goal.returns-in-Rules
unfolding key_of bytes row
returns-in-Rules c = rw c.in-Rules.is

pub returns-in-Merge : goal.returns-in-Merge
unfolding key_of bytes row
returns-in-Merge c = rw c.in-Merge.is

pub returns-in-Transition : goal.returns-in-Transition
unfolding key_of bytes row
returns-in-Transition c = rw c.in-Transition.is

pub returns-in-BadTransition : goal.returns-in-BadTransition
unfolding key_of bytes row
returns-in-BadTransition c = rw c.in-BadTransition.is

pub returns-in-Left : goal.returns-in-Left
unfolding key_of bytes row
returns-in-Left c = rw c.in-Left.is

pub returns-in-Right : goal.returns-in-Right
unfolding key_of bytes row
returns-in-Right c = rw c.in-Right.is
