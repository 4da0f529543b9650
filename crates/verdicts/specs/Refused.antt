-- What a refusal of the code says, in the paper's numbers.
use Rattle.std.specs.Prelude.{List, [], ◌∷◌, ℕ, get_or}
use Rattle.std.proofs.Math.Option.{Option as Maybe, none, some}
use Rattle.std.specs.declared.option.Option.{Option}
use Rattle.std.specs.declared.option.Option.TheVariants.{None, Some}
use Rattle.std.specs.declared.result.Result.{Result}
use Rattle.std.specs.declared.result.Result.TheVariants.{Ok, Err}
use Rattle.paper.specs.Meaning.{Asked}
use Rattle.verdicts.specs.declared.refusals.Reason.{Reason}
use Rattle.verdicts.specs.declared.refusals.Reason.TheVariants.{ShortBuffer, TooLong, NoLine, NoValue, OutOfRange, WrongCount, Unordered, NoTerm, LeftVariables, UnknownVariable, Misnumbered}
use Rattle.verdicts.specs.declared.refusals.Refusal.{Refusal}

-- A reason's number in the scope's table.
unfoldable pub number : Reason → ℕ
number ShortBuffer = 1
number TooLong = 2
number NoLine = 3
number NoValue = 4
number OutOfRange = 5
number WrongCount = 6
number Unordered = 7
number NoTerm = 8
number LeftVariables = 9
number UnknownVariable = 10
number Misnumbered = 11

-- The reason of this number, from 1 to 11; 0 is no reason's number.
abbrev pub reasons : List Reason
reasons =
    TooLong ∷ (ShortBuffer ∷ (TooLong ∷ (NoLine ∷ (NoValue ∷ (OutOfRange ∷ (WrongCount ∷ (Unordered ∷ (NoTerm ∷ (LeftVariables ∷ (UnknownVariable ∷ (Misnumbered ∷ [])))))))))))

unfoldable pub reason_of : ℕ → Reason
reason_of n = get_or reasons n TooLong

-- The number of a reason, and 0 for none.
unfoldable pub numbered : Option Reason → ℕ
numbered None = 0
numbered (Some r) = number r

-- A refusal's line, if it has one.
unfoldable pub said_line : Option ℕ → Maybe ℕ
said_line None = none
said_line (Some line) = some line

-- The line of a refusal, if it has one.
unfoldable pub line_of : Maybe ℕ → Option ℕ
line_of none = None
line_of (some line) = Some line

-- The refusal by this number, on this line.
unfoldable pub refusal_of : ℕ → Maybe ℕ → Refusal
refusal_of number line = record { reason = reason_of number; line = line_of line }

-- An answer about a file: what `say` says of it, or the refusal of the file.
unfoldable pub asked : {X Answer : Type 0} → (X → Answer) → Result X Refusal → Asked Answer
asked say (Ok x) = Asked.answered (say x)
asked say (Err r) = Asked.refused (number r.reason) (said_line r.line)
