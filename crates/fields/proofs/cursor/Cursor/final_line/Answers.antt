-- `final_line`: a list up to the row's limit and the last state, strictly ascending.
use Rattle.std.proofs.Common.{drop, sym, ap, arith}
use Rattle.std.proofs.lemmas.Bool.{not-true, not-false}
use Rattle.std.proofs.lemmas.Result.{err_from_is_err_and}
use Rattle.paper.specs.Format.{fixed}
use Rattle.paper.specs.Tables.{final_list}
use Rattle.fields.specs.declared.rows.Row.{Row}
use Rattle.fields.specs.declared.cursor.Sort.TheVariants.{Numbers}
use Rattle.fields.specs.Line.{kind_of, line_row, code_row}
use Rattle.fields.specs.Lines.{items_of, checked, entry_line, final_check}
use Rattle.fields.specs.Said.{Listing}
use Rattle.fields.proofs.LinesLaws.{got_line, check_refused, check_pass, check_fail, final_ok, final_not}
use Rattle.fields.proofs.SaidLaws.{final_told}
use Rattle.fields.proofs.cursor.Cursor.final_line.Goals as goal
use Rattle.fields.proofs.cursor.Cursor.final_line.Goals.{After-list_line}

told : (c : After-list_line) → Listing c.args.file.now 31 c.args.self.line
    (fixed (kind_of c.args.kind) (λ K. final_list K c.args.states) c.args.self.line (drop c.args.self.at c.args.file.now))
    (items_of c.args.self.line
    (checked final_check (entry_line (Numbers c.min-most.result c.min-most.result) (line_row c.args.kind) c.args.file.now c.args.self.at)))
unfolding code_row
told c =
    final_told _ _ c.requires.placed c.args.kind c.args.states _ c.requires.kind_bound.0 c.requires.kind_bound.1 c.requires.le_states.0
    c.requires.le_states.1 (omega (arith, ap (λ (w : Row). w.greatest) c.row.ensures))

pub returns-in_err-it : goal.returns-in_err-it
returns-in_err-it c =
    let p = err_from_is_err_and c.from_residual.result c.from_residual.ensures.1 in
    rw (p.1, p.2, ← check_refused final_check _ _ _ (sym c.in_err-it.ensures)) (told (goal.at.returns-in_err-it c).After-list_line)

pub returns-then-not-it : goal.returns-then-not-it
returns-then-not-it c =
    let g = got_line _ _ _ _ (sym c.in_ok-it.ensures) in
    rw (c.refuse.ensures, ← check_fail final_check _ _ _ _ g _ (final_not g.ns (rw (← g.order) (not-true _ c.if-not-it.true))))
    (told (goal.at.returns-then-not-it c).After-list_line)

pub returns : goal.returns
returns c =
    let g = got_line _ _ _ _ (sym c.in_ok-it.ensures) in
    rw (← check_pass final_check _ _ _ _ g (final_ok g.ns (rw (← g.order) (not-false _ c.if-not-it.false))))
    (told (goal.at.returns c).After-list_line)
