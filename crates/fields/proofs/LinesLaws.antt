-- A whole list line, from what the code finds: what `list` answers, made a line's; and a further check of a line.
use mathlib.Core.Path.{◌≡◌, refl, sym, ap, ◌∙◌}
use mathlib.Core.Bool.{Bool, true, false}
use mathlib.Core.Logic.{inl, inr}
use mathlib.Core.List.{List, [], ◌∷◌}
use Prim.Native.Nat.{ℕ, ◌+◌, ◌≤◌, ◌<◌}
use native.Mathlib.Omega.{arith}
use borrow.Author.Tests.{le-leb, lt-leb}
use lib.ListN.{length, drop, replicate}
use Rattle.std.specs.declared.option.Option.{Option}
use Rattle.std.specs.declared.option.Option.TheVariants.{Some, None}
use Rattle.std.specs.declared.result.Result.{Result}
use Rattle.std.specs.declared.result.Result.TheVariants.{Ok, Err}
use Rattle.paper.specs.Certificate.{Row}
use Rattle.paper.proofs.Smallest.{decided}
use Rattle.verdicts.specs.declared.refusals.Reason.{Reason}
use Rattle.verdicts.specs.declared.refusals.Reason.TheVariants.{NoLine, NoValue, OutOfRange, WrongCount, Unordered}
use Rattle.verdicts.specs.declared.refusals.Refusal.{Refusal}
use Rattle.fields.specs.declared.cursor.Cursor.{Cursor}
use Rattle.fields.specs.declared.cursor.Sort.{Sort}
use Rattle.fields.specs.declared.lists.Items.{Items}
use Rattle.fields.specs.Value.{Value, numbers, not_numbers, value_of, sort_kind}
use Rattle.fields.specs.Line.{after_key, has_end, unended, key_of, refuse}
use Rattle.fields.specs.Listed.{beyond, ascending, laid, listed, list_of}
use Rattle.fields.specs.Lines.{Line, good, bad, numbers_in, line_in, entry_line, checked, final_check, few_check, items_of}
use Rattle.fields.proofs.LineLaws.{open_no_key, open_no_end, open_at_lem}
use Rattle.fields.proofs.ValueLaws.{value_endless}
use Rattle.fields.proofs.TellLaws.{bad_line}

-- The line of a value at the front of s: where it is no entries, by whether an LF follows.
valued : Sort → Bool → List ℕ → Value → Line
valued sort empty s not_numbers = bad (unended NoValue s)
valued sort empty s (numbers ns at) = numbers_in sort empty (numbers ns at)

module _ (line : ℕ) (sort : Sort) (empty : Bool) (s : List ℕ) where
  valued_ended : (x : Value) → has_end s ≡ true → numbers_in sort empty x ≡ valued sort empty s x
  unfolding valued unended numbers_in
  valued_ended not_numbers h = rw (h, unended)
  valued_ended (numbers ns at) h = refl

  -- what the code does with what `list` answers
  valued_refused : (x : Value) (r : Reason) → list_of line sort x ≡ Err r → valued sort empty s x ≡ bad (unended r s)
  unfolding valued list_of beyond numbers_in unended
  valued_refused not_numbers r e = let p : NoValue ≡ r = cc in rw (← p)
  valued_refused (numbers [] at) r e = cc
  valued_refused (numbers (v ∷ ns) at) r e = elim (decided (beyond sort (v ∷ ns))) [
    | inl p ↦
        let w : Err OutOfRange ≡ Err r = rw (p, list_of) at e in
        let q : OutOfRange ≡ r = cc in
        rw (← q, p, numbers_in)
    | inr p ↦ let w : Ok (listed line (v ∷ ns) at) ≡ Err r = rw (p, list_of) at e in cc
  ]

  valued_got : (x : Value) (it : Items) (d : Cursor) → list_of line sort x ≡ Ok (it, d) → (it.count ≡ 0 → empty ≡ true)
      → items_of line (valued sort empty s x) ≡ Ok (it, d)
  unfolding valued list_of listed beyond numbers_in items_of
  valued_got not_numbers it d e h = cc
  valued_got (numbers [] at) it d e h =
      let q : listed line [] at ≡ (it, d) = cc in
      rw (h (sym (ap (λ (z : Items × Cursor). z.0.count) q)), numbers_in) (ap Ok q)
  valued_got (numbers (v ∷ ns) at) it d e h = elim (decided (beyond sort (v ∷ ns))) [
    | inl p ↦ let w : ◌≡◌ {A = Result (Items × Cursor) Reason} (Err OutOfRange) (Ok (it, d)) = rw (p, list_of) at e in cc
    | inr p ↦
        let w : ◌≡◌ {A = Result (Items × Cursor) Reason} (Ok (listed line (v ∷ ns) at)) (Ok (it, d)) = rw (p, list_of) at e in
        let q : listed line (v ∷ ns) at ≡ (it, d) = cc in
        rw (p, numbers_in) (ap Ok q)
  ]

  valued_none : (x : Value) (it : Items) (d : Cursor) → list_of line sort x ≡ Ok (it, d) → it.count ≡ 0 → empty ≡ false → valued sort empty s x ≡ bad NoValue
  unfolding valued list_of listed beyond numbers_in
  valued_none not_numbers it d e h f = cc
  valued_none (numbers [] at) it d e h f = rw (f, numbers_in)
  valued_none (numbers (v ∷ ns) at) it d e h f = elim (decided (beyond sort (v ∷ ns))) [
    | inl p ↦ let w : ◌≡◌ {A = Result (Items × Cursor) Reason} (Err OutOfRange) (Ok (it, d)) = rw (p, list_of) at e in cc
    | inr p ↦
        let w : ◌≡◌ {A = Result (Items × Cursor) Reason} (Ok (listed line (v ∷ ns) at)) (Ok (it, d)) = rw (p, list_of) at e in
        let q : listed line (v ∷ ns) at ≡ (it, d) = cc in
        absurd (omega (arith, ap (λ (z : Items × Cursor). z.0.count) q))
  ]

-- the line, from the place of its value
module _ (line : ℕ) (sort : Sort) (r : Row) (file : List ℕ) (at : ℕ) where
  pub line_missing : after_key (key_of r) at (drop at file) ≡ None → items_of line (entry_line sort r file at) ≡ Err (refuse line NoLine)
  unfolding line_in items_of
  line_missing o = ap (λ x. items_of line (line_in sort r.empty file x)) (open_no_key (key_of r) file at o)

  module _ (from : ℕ) (o : after_key (key_of r) at (drop at file) ≡ Some from) where
    line_valued : entry_line sort r file at ≡ valued sort r.empty (drop from file) (value_of (sort_kind sort) from (drop from file))
    unfolding line_in valued unended
    line_valued = elim (decided (has_end (drop from file))) [
      | inl p ↦ ap (line_in sort r.empty file) (open_at_lem (key_of r) file at from o p) ∙ valued_ended line sort r.empty (drop from file) _ p
      | inr p ↦
          ap (line_in sort r.empty file) (open_no_end (key_of r) file at from o p)
          ∙ rw (value_endless (drop from file) (sort_kind sort) from p) (rw (p, unended))
    ]

    pub line_refused : (k : Reason) → list_of line sort (value_of (sort_kind sort) from (drop from file)) ≡ Err k
        → items_of line (entry_line sort r file at) ≡ Err (refuse line (unended k (drop from file)))
    unfolding items_of
    line_refused k e = ap (items_of line) (line_valued ∙ valued_refused line sort r.empty (drop from file) _ k e)

    module _ (it : Items) (d : Cursor) (e : list_of line sort (value_of (sort_kind sort) from (drop from file)) ≡ Ok (it, d)) where
      pub line_got : (it.count ≡ 0 → r.empty ≡ true) → items_of line (entry_line sort r file at) ≡ Ok (it, d)
      line_got z = ap (items_of line) line_valued ∙ valued_got line sort r.empty (drop from file) _ it d e z

      pub line_none : it.count ≡ 0 → r.empty ≡ false → items_of line (entry_line sort r file at) ≡ Err (refuse line NoValue)
      unfolding items_of
      line_none z f = ap (items_of line) (line_valued ∙ valued_none line sort r.empty (drop from file) _ it d e z f)

-- each way out of `list_line`
pub ruleset whole_line = (line_missing, line_refused, line_got, line_none)

-- What a line says of the items that are handed over for it.
pub record GotLine (line : ℕ) (l : Line) (it : Items) (d : Cursor) : Type 0 where
  pub handed : items_of line l ≡ Ok (it, d)
  pub ns : List ℕ
  pub is : l ≡ good ns d.at
  pub count : it.count ≡ length ns
  pub order : it.ascending ≡ ascending ns
  pub items : it.items ≡ laid ns (replicate 64 0)
  pub next : d ≡ record { at = d.at; line = line + 1 }

pub got_line : (line : ℕ) (l : Line) (it : Items) (d : Cursor) → items_of line l ≡ Ok (it, d) → GotLine line l it d
unfolding items_of listed
got_line line (bad r) it d h = cc
got_line line (good ns at) it d h =
    let p : listed line ns at ≡ (it, d) = cc in
    let i : (listed line ns at).0 ≡ it = ap (λ (z : Items × Cursor). z.0) p in
    let n : ◌≡◌ {A = Cursor} (record { at = at; line = line + 1 }) d = ap (λ (z : Items × Cursor). z.1) p in
    record {
      handed = h;
      ns = ns;
      is = ap (good ns) (ap (λ (x : Cursor). x.at) n);
      count = sym (ap (λ (x : Items). x.count) i);
      order = sym (ap (λ (x : Items). x.ascending) i);
      items = sym (ap (λ (x : Items). x.items) i);
      next = sym n ∙ ap (λ (x : Cursor). record { at = x.at; line = line + 1 }) n;
    }

-- A line with a further check, k, from what is handed over for the line.
module _ (k : List ℕ → Option Reason) (line : ℕ) (l : Line) where
  pub check_refused : (e : Refusal) → items_of line l ≡ Err e → items_of line (checked k l) ≡ Err e
  unfolding checked
  check_refused e h = let (b, r) = bad_line line l e h in rw b (sym (ap (items_of line) b) ∙ h)

  module _ (it : Items) (d : Cursor) (g : GotLine line l it d) where
    pub line_passed : k g.ns ≡ None → checked k l ≡ l
    unfolding checked
    line_passed z = ap (checked k) g.is ∙ rw (z, checked) (sym g.is)

    pub line_failed : (r : Reason) → k g.ns ≡ Some r → checked k l ≡ bad r
    unfolding checked
    line_failed r z = ap (checked k) g.is ∙ rw (z, checked)

    pub check_pass : k g.ns ≡ None → items_of line (checked k l) ≡ Ok (it, d)
    check_pass z = ap (items_of line) (line_passed z) ∙ g.handed

    pub check_fail : (r : Reason) → k g.ns ≡ Some r → items_of line (checked k l) ≡ Err (refuse line r)
    unfolding items_of
    check_fail r z = ap (items_of line) (line_failed r z)

pub final_ok : (ns : List ℕ) → ascending ns ≡ true → final_check ns ≡ None
unfolding final_check
final_ok ns p = rw (p, final_check)

pub final_not : (ns : List ℕ) → ascending ns ≡ false → final_check ns ≡ Some Unordered
unfolding final_check
final_not ns p = rw (p, final_check)

pub few_ok : (most : ℕ) (ns : List ℕ) → length ns ≤ most → few_check most ns ≡ None
unfolding few_check
few_ok most ns p = rw (le-leb _ _ p, few_check)

pub few_not : (most : ℕ) (ns : List ℕ) → most < length ns → few_check most ns ≡ Some WrongCount
unfolding few_check
few_not most ns p = rw (lt-leb _ _ p, few_check)

-- At most so many entries.
module _ (most line : ℕ) (l : Line) (it : Items) (d : Cursor) (h : items_of line l ≡ Ok (it, d)) where
  pub few_pass : it.count ≤ most → items_of line (checked (few_check most) l) ≡ Ok (it, d)
  few_pass p = let g = got_line line l it d h in check_pass (few_check most) line l it d g (few_ok most g.ns (omega (arith, g.count)))

  pub few_fail : most < it.count → items_of line (checked (few_check most) l) ≡ Err (refuse line WrongCount)
  few_fail p = let g = got_line line l it d h in check_fail (few_check most) line l it d g WrongCount (few_not most g.ns (omega (arith, g.count)))

-- each way out of `few_line`
pub ruleset counted_line = (check_refused, few_pass, few_fail)
