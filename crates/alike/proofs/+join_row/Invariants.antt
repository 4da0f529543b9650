-- The measure of `alike::join_row`: the tokens that are left.
use Rattle.std.proofs.Common.{◌-◌, length}
use Rattle.alike.proofs.+join_row.Given as goal

abbrev pub decreases-join_row : goal.decreases-join_row
decreases-join_row l = length l.tokens.now - l.at
