-- `alike::needed` meets its contract: all classes, or the leaders of the masks joined for both sides.
use Rattle.alike.proofs.Enough.{all_enough, lowest_enough}
use Rattle.alike.proofs.needed.Goals as goal

pub returns-then-head-ge-VARIABLE : goal.returns-then-head-ge-VARIABLE
returns-then-head-ge-VARIABLE c = let a = c.args in all_enough a.delta.words.now a.delta.heads.now a.delta.arities.now a.tokens.now a.x

pub returns : goal.returns
returns c = let a = c.args in
    lowest_enough a.delta.words.now a.delta.heads.now a.delta.arities.now a.tokens.now a.x _ _ _ c.leaders.result
    c.if-head-ge-VARIABLE.false c.join_side.ensures c.join_side-2.ensures c.leaders.ensures
