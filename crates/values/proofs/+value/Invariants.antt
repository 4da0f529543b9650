-- The measure of `values::value`: the tokens that are left.
use Rattle.std.proofs.Common.{◌-◌, length}
use Rattle.values.proofs.+value.Given as goal

abbrev pub decreases-value : goal.decreases-value
decreases-value l = length l.tokens.now - l.at
