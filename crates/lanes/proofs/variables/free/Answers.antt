-- `lanes::variables::free` meets its contract: each row of the variable's sheet is full.
use Rattle.lanes.proofs.VariableRows.{touched, freed}
use Rattle.lanes.proofs.variables.free.Goals as goal

pub returns : goal.returns
returns c =
    let filled = c.fill.ensures in
    (λ l h. freed c.args.k c.fill.new.m c.args.x l filled.0 h, touched c.args.k _ _ c.args.x filled.1)
