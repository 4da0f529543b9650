-- A line of a transition.
use Rattle.std.specs.Prelude.{ℕ, ◌+◌, ◌-◌, List, true, false, eqb, ltb, length, get_or, Option, Some, None, Result, Ok, Err}
use Rattle.verdicts.specs.declared.refusals.Reason.{Reason}
use Rattle.verdicts.specs.declared.refusals.Reason.TheVariants.{WrongCount}
use Rattle.verdicts.specs.declared.refusals.Refusal.{Refusal}
use Rattle.fields.specs.declared.cursor.Cursor.{Cursor}
use Rattle.fields.specs.declared.arrows.Trans.{Trans}
use Rattle.fields.specs.Line.{refuse}
use Rattle.fields.specs.Lines.{Line, good, bad}

-- the number at i of a line's numbers, or 0 where it is the last or past it
unfoldable pub arg_in : List ℕ → ℕ → ℕ
arg_in ns i = elim (ltb (i + 1) (length ns)) [ true ↦ get_or ns i 0 | false ↦ 0 ]

-- the transition of a line of numbers
unfoldable pub trans_of : List ℕ → Trans
trans_of ns =
    record {
      symbol = get_or ns 0 0;
      a = arg_in ns 1;
      b = arg_in ns 2;
      c = arg_in ns 3;
      target = get_or ns (length ns - 1) 0;
    }

-- a symbol, as many states as its arity, and a state
unfoldable pub trans_check : List ℕ → List ℕ → Option Reason
trans_check arities ns = elim (eqb (length ns) (get_or arities (get_or ns 0 0) 0 + 2)) [ true ↦ None | false ↦ Some WrongCount ]

-- what the reader hands over for a line of this number
unfoldable pub arrow_of : (line : ℕ) → Line → Result (Trans × Cursor) Refusal
arrow_of line (bad r) = Err (refuse line r)
arrow_of line (good ns at) = Ok (trans_of ns, record { at = at; line = line + 1 })
