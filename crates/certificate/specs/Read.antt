-- What the reader answers, in paper's words.
use Rattle.std.specs.Prelude.{◌≡◌, List, [], ℕ, drop, None, Result, Ok, Err}
use Rattle.paper.specs.Certificate.{Certificate as PaperCertificate}
use Rattle.paper.specs.Format.{File, unreadable, holds, Reader, Reading, gave, ◌>>=◌, ◌>>◌, give, end}
use Rattle.tables.specs.Held.{held}
use Rattle.tables.specs.declared.Tables.{Tables}
use Rattle.tables.specs.declared.Merging.{Merging}
use Rattle.tables.specs.declared.certificate.Certificate.{Certificate}
use Rattle.verdicts.specs.declared.refusals.Reason.TheVariants.{TooLong}
use Rattle.verdicts.specs.declared.refusals.Refusal.{Refusal}
use Rattle.verdicts.specs.Refused.{number, said_line, refusal_of}
use Rattle.fields.specs.declared.cursor.Cursor.{Cursor}
use Rattle.view.specs.declared.View.{View}
use Rattle.blocks.specs.Draft.{Draft, draft, merge_line}
use Rattle.blocks.specs.Packed.{tables_of, merging_of}
use Rattle.blocks.specs.Handed.{Went, Stopped}

-- What an answer says: the certificate that the tables hold, or the refusal.
unfoldable pub said_read : Result Certificate Refusal → File
said_read (Ok c) = holds (held c.tables c.merging)
said_read (Err r) = unreadable (number r.reason) (said_line r.line)

-- All of a certificate but its merging.
unfoldable pub draft_of : PaperCertificate → Draft
draft_of c = record { budget = c.budget; arities = c.arities; A = c.A; B = c.B; rules = c.rules }

-- What is answered for a file.
unfoldable pub read_of : File → Result Certificate Refusal
read_of (unreadable number line) = Err (refusal_of number line)
read_of (holds c) = Ok (record { tables = tables_of (draft_of c); merging = merging_of c.merge })

-- The refusal of a file above 16,384 bytes: on no line.
abbrev pub too_long : Refusal
too_long = record { reason = TooLong; line = None }

-- The line `merge` for n states, and nothing behind it.
unfoldable pub last_lines : ℕ → Reader (List ℕ)
last_lines n = do
  merge ← merge_line n
  end
  give merge

-- A reading that came to the end of the file, with what it gave packed.
pub record Ended (reading : Reading (List ℕ)) (packed : Merging) : Type 0 where
  pub what : List ℕ
  pub line : ℕ
  pub is : reading ≡ gave what line []
  pub packs : packed ≡ merging_of what

-- A reading of the last lines and what is handed over for it.
abbrev pub HandedLast : Reading (List ℕ) → Result Merging Refusal → Type 0
HandedLast reading (Ok m) = Ended reading m
HandedLast reading (Err r) = Stopped reading r

-- The place of a view.
abbrev pub place_of : View → Cursor
place_of v = record { at = v.at; line = v.line }

-- The tables that a view has before it, and a view of the same file behind them.
abbrev pub HandedView : View → Result (Tables × View) Refusal → Type 0
HandedView v (Ok (t, w)) = (w.file ≡ v.file) × Went v.file.now tables_of (draft v.line (drop v.at v.file.now)) (place_of w) t
HandedView v (Err r) = Stopped (draft v.line (drop v.at v.file.now)) r
