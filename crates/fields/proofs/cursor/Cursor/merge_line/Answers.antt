-- `merge_line`: a list up to the row's limits, one class for each state, numbered in order.
use Rattle.std.proofs.Common.{◌≡◌, drop, true, false, sym, arith}
use Rattle.std.proofs.lemmas.Result.{err_from_is_err_and}
use Rattle.paper.specs.Certificate.{row, Merge}
use Rattle.paper.specs.Format.{fixed}
use Rattle.paper.specs.Tables.{class_list}
use Rattle.fields.specs.declared.cursor.Sort.TheVariants.{Numbers}
use Rattle.fields.specs.Line.{code_row}
use Rattle.fields.specs.Lines.{items_of, checked, entry_line}
use Rattle.fields.specs.Merge.{numbered, merge_check}
use Rattle.fields.specs.Said.{Listing}
use Rattle.fields.proofs.LinesLaws.{got_line, check_refused, check_pass, check_fail}
use Rattle.fields.proofs.MergeLaws.{take_items, merge_count, merge_ok, merge_not}
use Rattle.fields.proofs.SaidLaws.{merge_told}
use Rattle.fields.proofs.cursor.Cursor.merge_line.Goals as goal
use Rattle.fields.proofs.cursor.Cursor.merge_line.Goals.{After-list_line}

told : (c : After-list_line) → Listing c.args.file.now 31 c.args.self.line
    (fixed Merge (λ K. class_list c.args.states) c.args.self.line (drop c.args.self.at c.args.file.now))
    (items_of c.args.self.line
    (checked (merge_check c.args.states) (entry_line (Numbers c.row-most.result.greatest c.row-most.result.greatest) (row Merge) c.args.file.now c.args.self.at)))
unfolding row code_row
told c = rw c.row-most.ensures (merge_told _ _ c.requires.placed c.args.states c.requires.states_le_most_states)

pub returns-in_err-it : goal.returns-in_err-it
returns-in_err-it c =
    let p = err_from_is_err_and c.from_residual.result c.from_residual.ensures.1 in
    rw (p.1, p.2, ← check_refused (merge_check c.args.states) _ _ _ (sym c.in_err-it.ensures)) (told (goal.at.returns-in_err-it c).After-list_line)

pub returns-then-it-states : goal.returns-then-it-states
returns-then-it-states c =
    let g = got_line _ _ _ _ (sym c.in_ok-it.ensures) in
    rw (c.refuse.ensures, ← check_fail (merge_check c.args.states) _ _ _ _ g _ (merge_count _ g.ns (λ e. c.if-it-states.true (rw g.count e))))
    (told (goal.at.returns-then-it-states c).After-list_line)

pub returns-then-not-is_numbered : goal.returns-then-not-is_numbered
returns-then-not-is_numbered c =
    let g = got_line _ _ _ _ (sym c.in_ok-it.ensures) in
    let t = take_items g.ns c.in_ok-it.it.items c.args.states (omega (arith, g.count)) (omega arith) g.items in
    let n : numbered 0 g.ns ≡ false = rw (← t) (sym c.if-not-is_numbered.ensures) in
    rw (c.refuse-then-not-is_numbered.ensures, ← check_fail (merge_check c.args.states) _ _ _ _ g _ (merge_not _ g.ns (omega (arith, g.count)) n))
    (told (goal.at.returns-then-not-is_numbered c).After-list_line)

pub returns : goal.returns
returns c =
    let g = got_line _ _ _ _ (sym c.in_ok-it.ensures) in
    let t = take_items g.ns c.in_ok-it.it.items c.args.states (omega (arith, g.count)) (omega arith) g.items in
    let n : numbered 0 g.ns ≡ true = rw (← t) (sym c.if-not-is_numbered.ensures) in
    rw (← check_pass (merge_check c.args.states) _ _ _ _ g (merge_ok _ g.ns (omega (arith, g.count)) n)) (told (goal.at.returns c).After-list_line)
