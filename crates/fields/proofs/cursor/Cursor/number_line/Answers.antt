-- `number_line`: each way out says what paper's line of one number says.
use Rattle.std.proofs.Common.{sym, ap, arith}
use Rattle.fields.specs.declared.rows.Row.{Row}
use Rattle.fields.specs.Line.{code_row}
use Rattle.fields.proofs.OneLaws.{line_missing, line_fault, line_end, line_out, line_in}
use Rattle.fields.proofs.cursor.Cursor.number_line.Goals as goal
use Rattle.fields.proofs.cursor.Cursor.number_line.Goals.{then-file-end-via-then-file-end, then-file-end-via-else-file-end+then-file-end-ne10}
use Rattle.fields.proofs.cursor.Cursor.number_line.Goals.{then-value-row-via-then-value-row, then-value-row-via-else-value-row+then-row-value}

pub returns-in_default : goal.returns-in_default
returns-in_default c = rw c.refuse.ensures (line_missing _ _ c.requires.kind_bound _ (sym c.in_default.ensures))

pub returns-in_default-number : goal.returns-in_default-number
returns-in_default-number c =
    rw (c.refuse-in_default-number.ensures, c.reason_at.ensures)
    (line_fault _ _ c.requires.kind_bound _ _ (sym c.in-Some.ensures) (sym c.in_default-number.ensures))

pub returns-then-file-end : goal.returns-then-file-end
returns-then-file-end c =
    rw (c.refuse-then-file-end.ensures, c.reason_at-then-file-end.ensures)
    (line_end _ _ c.requires.kind_bound _ _ (sym c.in-Some.ensures) _ _ (sym c.in-Some-number.ensures)
    (λ h l. elim c.then-file-end.branch [
      | then-file-end-via-then-file-end w ↦ absurd (omega arith)
      | then-file-end-via-else-file-end+then-file-end-ne10 w ↦ w.if-file-end-ne10.true l
    ]))

pub returns-then-value-row : goal.returns-then-value-row
unfolding code_row
returns-then-value-row c =
    let least = ap (λ (w : Row). w.least) c.row-row.ensures in
    let greatest = ap (λ (w : Row). w.greatest) c.row-row.ensures in
    rw c.refuse-then-value-row.ensures
    (line_out _ _ c.requires.kind_bound _ _ (sym c.in-Some.ensures) _ _ (sym c.in-Some-number.ensures) c.if-file-end.false c.if-file-end-ne10.false
    (λ l m. elim c.then-value-row.branch [
      | then-value-row-via-then-value-row w ↦ omega arith
      | then-value-row-via-else-value-row+then-row-value w ↦ omega arith
    ]))

pub returns : goal.returns
unfolding code_row
returns c =
    let least = ap (λ (w : Row). w.least) c.row-row.ensures in
    let greatest = ap (λ (w : Row). w.greatest) c.row-row.ensures in
    rw c.next.ensures
    (line_in _ _ c.requires.kind_bound _ _ (sym c.in-Some.ensures) _ _ (sym c.in-Some-number.ensures) c.if-file-end.false c.if-file-end-ne10.false c.requires.placed
    (omega arith) (omega arith))
