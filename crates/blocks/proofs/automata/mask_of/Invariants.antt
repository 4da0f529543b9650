-- The mask of the states so far.
use Rattle.std.proofs.Common.{◌≡◌, ◌<◌, ◌^◌, drop}
use Rattle.blocks.specs.Packed.{mask_from}
use Rattle.blocks.proofs.automata.mask_of.Given as goal

abbrev pub invariant-loop-q : goal.invariant-loop-q
invariant-loop-q l = (l.mask < 2 ^ 64) × (mask_from l.mask (drop l.q-index l.states) ≡ mask_from 0 l.states)
