-- The rules, two lines each, fill the array from the front.
use Rattle.paper.specs.Format.{rule}
use Rattle.blocks.specs.Packed.{packed_rules}
use Rattle.blocks.proofs.Blocks.{Filling}
use Rattle.blocks.proofs.rules.read_rules.Given as goal

abbrev pub invariant-loop-i : goal.invariant-loop-i
invariant-loop-i l = Filling (rule l.signature.arities.now) packed_rules l.file l.n l.initial.c l.i l.c (record { count = l.i; rules = l.rules })
