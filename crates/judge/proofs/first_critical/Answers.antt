-- `judge::first_critical` meets its contract: the woven rows are the merged automaton's transitions.
use mathlib.Core.Path.{◌∙◌}
use Rattle.tables.specs.Held.{arities_of}
use Rattle.judge.proofs.Whole.{weavable, woven_ready, searchable, closure_is}
use Rattle.judge.proofs.first_critical.Goals as goal

pub weave-woven-requires : goal.weave-woven-requires
weave-woven-requires c = weavable _ _ c.requires.sound _ c.requires.merged

pub invariant_of-delta : goal.invariant_of-delta
unfolding arities_of
invariant_of-delta c =
    record { ready = woven_ready _ _ c.requires.sound _ c.requires.merged _ _ c.weave-woven.ensures.0 c.weave-woven.ensures.1 }

pub search_fitted-requires : goal.search_fitted-requires
unfolding arities_of
search_fitted-requires c = searchable _ _ c.requires.sound

pub returns-clause-said : goal.returns-clause-said
unfolding arities_of
returns-clause-said c = c.search_fitted.ensures.said ∙ closure_is _ _ c.requires.sound _ c.requires.merged _ _ c.weave-woven.ensures.0 c.weave-woven.ensures.1 _
