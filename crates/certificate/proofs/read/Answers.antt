-- The tables that were read from the start are followed by the lines that close the file.
use Rattle.std.proofs.Common.{◌≡◌}
use Rattle.std.proofs.lemmas.Result.{err_from_is_err_and}
use Rattle.blocks.specs.Packed.{tables_of}
use Rattle.blocks.specs.Draft.{draft}
use Rattle.blocks.specs.Handed.{Went}
use Rattle.certificate.specs.Read.{place_of}
use Rattle.certificate.proofs.File.{opening_refused, opened, few_states, closing_refused, all_read}
use Rattle.certificate.proofs.read.Goals as goal
use Rattle.certificate.proofs.read.Goals.{In_ok-tables}

pub returns-in_err-tables : goal.returns-in_err-tables
returns-in_err-tables c =
    let p = err_from_is_err_and c.from_residual.result c.from_residual.ensures.1 in
    let v = c.over.ensures in
    let o = rw (v.0, v.1, v.2) at c.in_err-tables.ensures in
    rw (p.1, p.2) (opening_refused _ o.long o.fits)

-- the tables of the file, and the view behind them
behind : (c : In_ok-tables) → (c.in_ok-tables.v.file ≡ c.args.file) × Went c.args.file.now tables_of (draft 1 c.args.file.now) (place_of c.in_ok-tables.v) c.in_ok-tables.tables
behind c = let v = c.over.ensures in rw (v.0, v.1, v.2) at (opened _ _ _ c.in_ok-tables.ensures.long c.in_ok-tables.ensures.fits)

pub read_closing-requires : goal.read_closing-requires
read_closing-requires c = let (f, w) = behind (goal.at.read_closing-requires c).In_ok-tables in (few_states _ w, rw f w.placed)

pub returns-in_err-merging : goal.returns-in_err-merging
returns-in_err-merging c =
    let (f, w) = behind (goal.at.returns-in_err-merging c).In_ok-tables in
    let p = err_from_is_err_and c.from_residual-in_err-merging.result c.from_residual-in_err-merging.ensures.1 in
    rw (p.1, p.2) (closing_refused _ w (rw f at c.in_err-merging.ensures))

pub returns : goal.returns
returns c = let (f, w) = behind (goal.at.returns c).In_ok-tables in all_read _ w (rw f at c.in_ok-merging.ensures)
