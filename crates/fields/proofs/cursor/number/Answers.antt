-- `number`: a digit more has room, and what is left is read as the definition reads on.
use mathlib.Core.Path.{sym, ◌∙◌}
use Rattle.fields.proofs.NumberLaws.{number_more, not_full, room, grows}
use native.Mathlib.Omega.{arith}
use Rattle.fields.proofs.cursor.number.Goals as goal

pub overflow_mul-v : goal.overflow_mul-v
overflow_mul-v c =
    omega (arith, room _ _ (not_full _ _ (sym c.is_full.ensures ∙ c.if-is_full.false)) c.loop-at.invariant.below)

pub overflow_add-v : goal.overflow_add-v
overflow_add-v c =
    omega (arith, room _ _ (not_full _ _ (sym c.is_full.ensures ∙ c.if-is_full.false)) c.loop-at.invariant.below, c.if-not-is_ascii_digit.ensures.cases)

pub loop-at-preserved : goal.loop-at-preserved
loop-at-preserved c =
    let f = sym c.is_full.ensures ∙ c.if-is_full.false in
    record {
      inside = λ h. omega arith;
      few = omega (arith, not_full _ _ f);
      below = grows _ _ _ c.loop-at.invariant.below (omega (arith, c.if-not-is_ascii_digit.ensures.cases));
      read = sym (number_more _ _ _ _ c.loop-at-test.true (sym c.is_ascii_digit.ensures.value ∙ c.if-not-is_ascii_digit.false) f) ∙ c.loop-at.invariant.read;
    }
