-- `lanes::variables::fix` meets its contract: in the variable's sheet the row of the class is full, the others are empty.
use native.Mathlib.Omega.{arith}
use Rattle.lanes.proofs.VariableRows.{sheet_room, touched, fixed}
use Rattle.values.proofs.Rows.{store_within}
use Rattle.lanes.proofs.variables.fix.Goals as goal

pub returns : goal.returns
returns c =
    let filled = c.fill.ensures in
    let low = c.requires.low in
    let fits = sheet_room c.args.k c.args.x c.args.m.now c.requires.room c.requires.variable in (
      λ l h. fixed c.args.k c.fill.new.m c.args.x c.args.class l low (omega (arith, fits, filled.1.long)) filled.0 h,
      touched c.args.k _ _ c.args.x (store_within c.args.k _ _ c.args.class _ _ low filled.1),
    )
