-- `judge::suitable::shared_pair` meets its contract: what is marked is what shares a tree, and the first final pair of it is the paper's.
use mathlib.Core.Path.{◌∙◌}
use Rattle.tables.specs.Held.{arities_of}
use Rattle.judge.proofs.Bridge.{shareable, found_is}
use Rattle.judge.proofs.suitable.shared_pair.Goals as goal

pub share-pairs-requires : goal.share-pairs-requires
unfolding arities_of
share-pairs-requires c = shareable _ _ c.requires.sound _ c.requires.merged

pub returns : goal.returns
unfolding arities_of
returns c = c.first_pair.ensures ∙ found_is _ _ c.requires.sound _ c.requires.merged _ c.share-pairs.ensures _ c.final_classes-finals.ensures
