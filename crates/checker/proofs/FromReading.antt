-- The verdict on a file, and the answer to any question, from what its reading gave: each way on from the reading.
use mathlib.Core.Path.{◌≡◌, refl, sym, ap, ◌∙◌}
use mathlib.Core.List.{List}
use Prim.Native.Nat.{ℕ}
use Rattle.std.specs.declared.result.Result.TheVariants.{Ok, Err}
use Rattle.paper.specs.Format.{unreadable, holds, read_file}
use Rattle.paper.specs.Certificate.{Certificate as PaperCertificate}
use Rattle.paper.specs.Meaning.{malformed, Asked}
use Rattle.paper.specs.Computed.{verdict, verdict_on, asked, verdict_of}
use Rattle.tables.specs.Held.{held}
use Rattle.tables.specs.Sound.{Sound}
use Rattle.tables.specs.declared.Tables.{Tables}
use Rattle.tables.specs.declared.Merging.{Merging}
use Rattle.tables.specs.declared.certificate.Certificate.{Certificate}
use Rattle.verdicts.specs.declared.refusals.Refusal.{Refusal}
use Rattle.verdicts.specs.Refused.{number, said_line}
use Rattle.certificate.specs.Read.{said_read, read_of}
use Rattle.certificate.proofs.Sound.{read_said, read_sound}

module _ (file : List ℕ) where
  module _ (e : Refusal) (is : read_of (read_file file) ≡ Err e) where
    -- What was refused is refused so ..
    read_refused : read_file file ≡ unreadable (number e.reason) (said_line e.line)
    unfolding said_read
    read_refused = sym (read_said file (read_of (read_file file)) refl) ∙ ap said_read is

    -- .. so the refusal is the verdict, and the answer to any question.
    pub verdict_refused : verdict_of file ≡ malformed (number e.reason) (said_line e.line)
    unfolding verdict_of verdict_on
    verdict_refused = rw read_refused

    pub asked_refused : {Answer : Type 0} (question : PaperCertificate → Answer) → asked question (read_file file) ≡ Asked.refused (number e.reason) (said_line e.line)
    unfolding asked
    asked_refused question = rw read_refused

  module _ (c : Certificate) (is : read_of (read_file file) ≡ Ok c) where
    -- The file holds what the tables hold ..
    read_holds : read_file file ≡ holds (held c.tables c.merging)
    unfolding said_read
    read_holds = sym (read_said file (read_of (read_file file)) refl) ∙ ap said_read is

    -- .. so the verdict is that on the tables, and so is the answer to any question.
    pub verdict_read : verdict_of file ≡ verdict (held c.tables c.merging)
    unfolding verdict_of verdict_on
    verdict_read = rw read_holds

    pub asked_read : {Answer : Type 0} (question : PaperCertificate → Answer) → asked question (read_file file) ≡ Asked.answered (question (held c.tables c.merging))
    unfolding asked
    asked_read question = rw read_holds

  -- Tables that were read are sound.
  pub sound_read : (t : Tables) (m : Merging) → read_of (read_file file) ≡ Ok (record { tables = t; merging = m }) → Sound t m
  sound_read t m is = read_sound file (read_of (read_file file)) (record { tables = t; merging = m }) refl is

-- each way on from the reading, to the verdict and to the answer
pub ruleset judged = (verdict_refused, verdict_read)

pub ruleset answered = (asked_refused, asked_read)
