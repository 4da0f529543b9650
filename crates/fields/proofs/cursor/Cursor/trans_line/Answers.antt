-- `trans_line`: a list up to the last symbol and the last state, as long as the symbol's arity asks, is the transition.
use Rattle.std.proofs.Common.{◌-◌, length, sym, arith}
use Rattle.std.proofs.lemmas.Result.{err_from_is_err_and}
use Rattle.fields.specs.declared.cursor.Sort.TheVariants.{Numbers}
use Rattle.fields.specs.Line.{line_row}
use Rattle.fields.specs.Lines.{checked, entry_line}
use Rattle.fields.specs.Said.{ArrowLine}
use Rattle.fields.specs.Trans.{trans_check, arrow_of}
use Rattle.fields.proofs.LinesLaws.{got_line}
use Rattle.fields.proofs.MergeLaws.{take_items}
use Rattle.fields.proofs.TransLaws.{first_number, trans_is, trans_ok, trans_not, arrow_refused, arrow_pass, arrow_fail}
use Rattle.fields.proofs.SaidLaws.{trans_told}
use Rattle.fields.proofs.cursor.Cursor.trans_line.Goals as goal
use Rattle.fields.proofs.cursor.Cursor.trans_line.Goals.{After-list_line}

told : (c : After-list_line) → ArrowLine c.args.file.now c.args.signature.arities.now c.args.kind c.args.states c.args.self
    (arrow_of c.args.self.line
    (checked (trans_check c.args.signature.arities.now)
    (entry_line (Numbers (length c.args.signature.arities.now - 1) (c.args.states - 1)) (line_row c.args.kind) c.args.file.now c.args.self.at)))
told c =
    trans_told _ _ c.args.kind c.args.states _ c.requires.placed c.requires.some c.args.signature.some c.requires.le_states.0 c.args.signature.low

pub returns-in_err-it : goal.returns-in_err-it
returns-in_err-it c =
    let p = err_from_is_err_and c.from_residual.result c.from_residual.ensures.1 in
    rw (p.1, p.2, ← arrow_refused (trans_check c.args.signature.arities.now) _ _ _ (sym c.in_err-it.ensures)) (told (goal.at.returns-in_err-it c).After-list_line)

pub bounds-arities-symbol : goal.bounds-arities-symbol
bounds-arities-symbol c =
    let g = got_line _ _ _ _ (sym c.in_ok-it.ensures) in
    let f = first_number _ _ _ _ _ _ _ _ c.requires.some g in
    omega arith

pub returns-then-it-arities : goal.returns-then-it-arities
returns-then-it-arities c =
    let g = got_line _ _ _ _ (sym c.in_ok-it.ensures) in
    let f = first_number _ _ _ _ _ _ _ _ c.requires.some g in
    rw (c.refuse.ensures, ← arrow_fail (trans_check c.args.signature.arities.now) _ _ _ _ g _ (trans_not _ g.ns (λ e. c.if-it-arities.true (rw (g.count, f.is) e))))
    (told (goal.at.returns-then-it-arities c).After-list_line)

pub returns : goal.returns
returns c =
    let g = got_line _ _ _ _ (sym c.in_ok-it.ensures) in
    let f = first_number _ _ _ _ _ _ _ _ c.requires.some g in
    let t = take_items g.ns c.in_ok-it.it.items c.in_ok-it.it.count g.count (omega (arith, c.args.signature.low)) g.items in
    rw (
      c.arg_in.ensures,
      c.arg_in-2.ensures,
      c.arg_in-3.ensures,
      trans_is g.ns _ _ t f.some,
      ← arrow_pass (trans_check c.args.signature.arities.now) _ _ _ _ g (trans_ok _ g.ns (rw (← g.count, ← f.is) c.if-it-arities.false)),
    )
    (told (goal.at.returns c).After-list_line)
