-- A line of a transition, from what the code finds.
use mathlib.Core.Path.{◌≡◌, refl, sym, ap, ◌∙◌}
use mathlib.Core.Bool.{false, false≢true}
use mathlib.Core.List.{List, [], ◌∷◌}
use Prim.Native.Nat.{ℕ, ◌+◌, ◌-◌, ◌≤◌, ◌<◌}
use native.Mathlib.Omega.{arith}
use borrow.Author.Tests.{ltb-false, eq-eqb, ne_eqb}
use lib.Dec.{ltb}
use lib.ListN.{length, take, get_or, replicate}
use lib.Seq.{get_or-take}
use Rattle.std.specs.declared.option.Option.{Option}
use Rattle.std.specs.declared.option.Option.TheVariants.{Some, None}
use Rattle.std.specs.declared.result.Result.TheVariants.{Ok, Err}
use Rattle.paper.specs.Certificate.{Row}
use Rattle.verdicts.specs.declared.refusals.Reason.{Reason}
use Rattle.verdicts.specs.declared.refusals.Reason.TheVariants.{WrongCount}
use Rattle.verdicts.specs.declared.refusals.Refusal.{Refusal}
use Rattle.fields.specs.declared.cursor.Cursor.{Cursor}
use Rattle.fields.specs.declared.cursor.Sort.TheVariants.{Numbers}
use Rattle.fields.specs.declared.lists.Items.{Items}
use Rattle.fields.specs.declared.arrows.Trans.{Trans}
use Rattle.fields.specs.Line.{open_at, key_of, refuse}
use Rattle.fields.specs.Listed.{exceeds, beyond, laid}
use Rattle.fields.specs.Lines.{Line, entry_line, checked, items_of}
use Rattle.fields.specs.Trans.{arg_in, trans_of, trans_check, arrow_of}
use Rattle.fields.proofs.LinesLaws.{GotLine, line_passed, line_failed}
use Rattle.fields.proofs.TellLaws.{good_line, bad_line}
use Rattle.theory.proofs.Bools.{neither}

-- The first number of a line, as it is handed over.
pub record First (it : Items) (ns : List ℕ) (f : ℕ) : Type 0 where
  pub some : 0 < it.count
  pub low : get_or it.items 0 0 ≤ f
  pub is : get_or it.items 0 0 ≡ get_or ns 0 0

pub first_number : (line f m : ℕ) (r : Row) (file : List ℕ) (at : ℕ) (it : Items) (d : Cursor) → r.empty ≡ false
    → (g : GotLine line (entry_line (Numbers f m) r file at) it d) → First it g.ns f
first_number line f m r file at it d e g =
    let w = good_line (Numbers f m) r.empty file (open_at (key_of r) file at) g.ns d.at g.is in
    go g.ns w.within (λ z. false≢true (sym e ∙ w.some z)) g.count g.items
  where
    go : (ns : List ℕ) → beyond (Numbers f m) ns ≡ false → (ns ≡ [] → ⊥) → it.count ≡ length ns → it.items ≡ laid ns (replicate 64 0) → First it ns f
    go [] b h n i = absurd (h refl)
    go (v ∷ vs) b h n i =
        let is : get_or it.items 0 0 ≡ v = ap (λ (l : List ℕ). get_or l 0 0) i ∙ (unfold laid in refl) in
        let low : v ≤ f = unfold beyond exceeds in (ltb-false f v (neither (ltb f v) _ b).0) in
        record { some = omega arith; low = omega arith; is = is }

pub trans_is : (ns items : List ℕ) (n : ℕ) → take n items ≡ ns → 0 < n
    → ◌≡◌ {A = Trans}
    (record {
      symbol = get_or items 0 0;
      a = arg_in (take n items) 1;
      b = arg_in (take n items) 2;
      c = arg_in (take n items) 3;
      target = get_or (take n items) (length (take n items) - 1) 0;
    })
    (trans_of ns)
unfolding trans_of
trans_is ns items n e h = rw (← get_or-take n items 0 0 h, e)

pub trans_ok : (arities ns : List ℕ) → length ns ≡ get_or arities (get_or ns 0 0) 0 + 2 → trans_check arities ns ≡ None
unfolding trans_check
trans_ok arities ns p = rw (eq-eqb _ _ p, trans_check)

pub trans_not : (arities ns : List ℕ) → (length ns ≡ get_or arities (get_or ns 0 0) 0 + 2 → ⊥) → trans_check arities ns ≡ Some WrongCount
unfolding trans_check
trans_not arities ns p = rw (ne_eqb _ _ p, trans_check)

module _ (k : List ℕ → Option Reason) (line : ℕ) (l : Line) where
  pub arrow_refused : (e : Refusal) → items_of line l ≡ Err e → arrow_of line (checked k l) ≡ Err e
  unfolding checked arrow_of
  arrow_refused e h = let (b, r) = bad_line line l e h in rw b (ap Err (sym r))

  module _ (it : Items) (d : Cursor) (g : GotLine line l it d) where
    pub arrow_pass : k g.ns ≡ None → arrow_of line (checked k l) ≡ Ok (trans_of g.ns, d)
    unfolding arrow_of
    arrow_pass z = ap (arrow_of line) (line_passed k line l it d g z ∙ g.is) ∙ ap (λ x. Ok (trans_of g.ns, x)) (sym g.next)

    pub arrow_fail : (r : Reason) → k g.ns ≡ Some r → arrow_of line (checked k l) ≡ Err (refuse line r)
    unfolding arrow_of
    arrow_fail r z = ap (arrow_of line) (line_failed k line l it d g r z)
