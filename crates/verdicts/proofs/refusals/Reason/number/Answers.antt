-- `Reason::number` meets its contract: the number that a reason is written with is the scope's.
use mathlib.Core.Path.{◌≡◌, refl}
use Prim.Native.Nat.{◌+◌}
use denote.Enum.Declared.{tag_of}
use Rattle.verdicts.specs.contracts.refusals.Reason.{the_type}
use Rattle.verdicts.specs.declared.refusals.Reason.{Reason}
use Rattle.verdicts.specs.declared.refusals.Reason.TheVariants.{ShortBuffer, TooLong, NoLine, NoValue, OutOfRange, WrongCount, Unordered, NoTerm, LeftVariables, UnknownVariable, Misnumbered}
use Rattle.verdicts.specs.Refused.{number}
use Rattle.verdicts.proofs.refusals.Reason.number.Goals as goal

written : (r : Reason) → tag_of the_type r + 1 ≡ number r
unfolding number
written ShortBuffer = refl
written TooLong = refl
written NoLine = refl
written NoValue = refl
written OutOfRange = refl
written WrongCount = refl
written Unordered = refl
written NoTerm = refl
written LeftVariables = refl
written UnknownVariable = refl
written Misnumbered = refl

pub returns : goal.returns
returns c = written c.args.self
