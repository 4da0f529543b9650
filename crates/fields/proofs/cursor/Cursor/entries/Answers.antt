-- The entries of a list, one in each turn.
use Rattle.fields.proofs.ListLaws.{turn_end, turn_comma, turn_other, finish_is, with_count, none_count, kept_length}
use Rattle.fields.proofs.ValueLaws.{read_within}
use lib.ListN.{length}
use mathlib.Core.Path.{refl, sym, ap, ◌∙◌}
use native.Mathlib.Omega.{arith}
use Rattle.fields.proofs.cursor.Cursor.entries.Goals as goal

pub loop-value-init : goal.loop-value-init
loop-value-init c =
    record {
      inside = omega (arith, c.requires.limited.1);
      few = omega (arith, none_count _ c.none-seen.ensures);
      room = refl;
      same = rw c.none-seen.ensures (finish_is _ _ c.requires.limited.0 _);
    }

pub returns-then-file-end : goal.returns-then-file-end
returns-then-file-end c =
    sym (turn_end _ _ _ _ _ _ _ _ (sym c.entry.ensures ∙ c.in-Some.is) c.if-file-end.true) ∙ c.loop-value.invariant.same

pub returns-then-b-ne44 : goal.returns-then-b-ne44
returns-then-b-ne44 c =
    sym (turn_other _ _ _ _ _ _ _ _ (sym c.entry.ensures ∙ c.in-Some.is) c.if-file-end.false c.if-b-eq10.false c.if-b-ne44.true) ∙ c.loop-value.invariant.same

pub loop-value-smaller : goal.loop-value-smaller
loop-value-smaller c =
    omega (arith, read_within _ _ _ _ c.loop-value.invariant.inside _ (sym c.entry.ensures ∙ c.in-Some.is), c.if-file-end.false)

pub loop-value-preserved : goal.loop-value-preserved
loop-value-preserved c =
    let e = sym c.entry.ensures ∙ c.in-Some.is in
    let p = read_within _ _ _ _ c.loop-value.invariant.inside _ e in
    let m = with_count _ _ _ _ c.with-seen.ensures in
    record {
      inside = omega (arith, c.if-file-end.false);
      few = omega (arith, c.loop-value.invariant.few);
      room = ap length c.keep.ensures ∙ kept_length _ _ _ ∙ c.loop-value.invariant.room;
      same = rw (c.with-seen.ensures, c.keep.ensures) (sym (turn_comma _ _ _ _ _ _ _ _ e c.if-file-end.false c.if-b-ne44.false) ∙ c.loop-value.invariant.same);
    }
