-- `lanes::prefixes::many` meets its contract: at most three variables are left.
use native.Mathlib.Omega.{arith}
use Rattle.lanes.proofs.Numbers.{power_low, rest_few}
use Rattle.lanes.proofs.prefixes.many.Goals as goal

pub pow-requires : goal.pow-requires
pow-requires c =
    let a = c.args in
    omega (arith, power_low a.k c.left.result c.requires.0 (omega (arith, c.left.ensures, rest_few a.v a.i c.requires.1 c.requires.2)))
