-- A line of one number: what paper says of it, from what the code finds on the way.
use mathlib.Core.Path.{◌≡◌, refl, sym, ap, ◌∙◌}
use mathlib.Core.Bool.{Bool, true, false, ◌&&◌}
use mathlib.Core.Logic.{inl, inr}
use mathlib.Core.List.{List, [], ◌∷◌}
use Prim.Native.Nat.{ℕ, suc, ◌+◌, ◌≤◌, ◌<◌}
use native.Mathlib.Decide.{dec_le}
use native.Mathlib.Numerals.{add-one}
use native.Mathlib.Omega.{arith}
use borrow.Author.Tests.{le-leb, ne_eqb, eqb-true, eqb-false, leb-true}
use lib.Dec.{eqb, leb}
use lib.ListN.{length, drop, get_or, length-drop}
use Rattle.std.specs.declared.option.Option.TheVariants.{Some, None}
use Rattle.std.specs.declared.result.Result.TheVariants.{Ok, Err}
use Rattle.paper.specs.Checked.{Checked, fault, says, ◌>>=◌, ◌>>◌, ◌unless◌}
use Rattle.paper.specs.Lines.{Said}
use Rattle.paper.specs.Fields.{all, each, entries, number, is_number}
use Rattle.paper.specs.Certificate.{Kind as PaperKind, row, Row as PaperRow}
use Rattle.paper.specs.Tables.{numbers as paper_numbers, numbers_of, within, single_number}
use Rattle.paper.specs.Format.{at_line, line_of, fixed}
use Rattle.paper.proofs.Smallest.{decided}
use Rattle.paper.proofs.Checked.{silent}
use Rattle.theory.proofs.Bools.{and_both}
use Rattle.verdicts.specs.declared.refusals.Reason.{Reason}
use Rattle.verdicts.specs.declared.refusals.Reason.TheVariants.{NoLine, NoValue, OutOfRange}
use Rattle.verdicts.specs.Refused.{number as reason_number}
use Rattle.fields.specs.declared.rows.Kind.{Kind}
use Rattle.fields.specs.declared.cursor.Cursor.{Cursor}
use Rattle.fields.specs.Number.{read, number_from}
use Rattle.fields.specs.Value.{Value, numbers, not_numbers, with_first, entry_at, value_of, value_at}
use Rattle.fields.specs.Line.{after_key, has_end, Fixed, kind_of, line_row, key_at, unended, refuse}
use Rattle.fields.specs.Said.{Placed, said_by, Whole, FieldLine}
use Rattle.fields.proofs.LineLaws.{open_no_key, open_no_end, open_at_lem, key_within, unended_value, unended_line}
use Rattle.fields.proofs.ValueLaws.{Some as Entries, entries_some, value_endless, after_entry, after, entries_entry, value_read, after_end, after_lf, after_comma, after_other, read_within}
use Rattle.fields.proofs.Entries.{said_value, found}
use Rattle.fields.proofs.Readings.{keyed, keyed_reads, fixed_row}
use Rattle.fields.proofs.Bridge.{values_of, values_numbers_of, keyed_missing, keyed_at, value_found}

-- The judgement of a line's numbers, and of a value.
unfoldable one_of : PaperKind → List ℕ → Checked ℕ
one_of K ns = 4 unless eqb (length ns) 1 >> (5 unless all ns (within K) >> says (get_or ns 0 0))

unfoldable judged : List ℕ → PaperKind → Value → Checked (Said ℕ)
judged file K not_numbers = fault 4
judged file K (numbers ns at) = found (drop at file) (one_of K ns)

-- no value is not one number, whether the row allows it or not
none_judge : (e : Bool) (K : PaperKind) → (values_of 0 true [] >>= one_of K) ≡ (numbers_of e [] >>= one_of K)
unfolding values_of numbers_of paper_numbers each entries number is_number one_of ◌unless◌ ◌>>◌ ◌>>=◌
none_judge true K = refl
none_judge false K = refl

some_judge : (e : Bool) (b : ℕ) (bs : List ℕ) → values_of 0 true (b ∷ bs) ≡ numbers_of e (b ∷ bs)
unfolding numbers_of
some_judge true b bs = values_numbers_of true (b ∷ bs)
some_judge false b bs = values_numbers_of true (b ∷ bs)

one_judge : (K : PaperKind) (value : List ℕ) → (values_of 0 true value >>= one_of K) ≡ single_number K value
unfolding single_number one_of
one_judge K [] = none_judge (row K).empty K
one_judge K (b ∷ bs) = ap (λ (j : Checked (List ℕ)). j >>= one_of K) (some_judge (row K).empty b bs)

judged_is : (file : List ℕ) (K : PaperKind) (x : Value) (behind : List ℕ) (j : Checked (List ℕ)) → said_value file x ≡ found behind j → judged file K x ≡ found behind (j >>= one_of K)
unfolding said_value found judged ◌>>=◌
judged_is file K not_numbers behind (fault n) e = let same : ◌≡◌ {A = ℕ} 4 n = cc in ap fault same
judged_is file K not_numbers behind (says ns) e = absurd (silent e)
judged_is file K (numbers ns at) behind (fault n) e = absurd (silent (sym e))
judged_is file K (numbers ns at) behind (says ms) e =
    let same : ◌≡◌ {A = Said (List ℕ)} (record { what = ns; rest = drop at file }) (record { what = ms; rest = behind }) = cc in
    rw (← ap (λ (s : Said (List ℕ)). s.what) same, ← ap (λ (s : Said (List ℕ)). s.rest) same)

-- A value that is not one number.
module _ (file : List ℕ) (K : PaperKind) where
  not_two : (s : List ℕ) (w : ℕ) (x : Value) → Entries s x → judged file K (with_first w x) ≡ fault 4
  unfolding Entries judged one_of found ◌unless◌ ◌>>◌ ◌>>=◌
  not_two s w (numbers [] at) h = elim h [ ]
  not_two s w not_numbers h = refl
  not_two s w (numbers (v ∷ ns) at) h = rw (ne_eqb (suc (suc (length ns))) 1 (λ z. omega arith))

  not_any : (s : List ℕ) (at : ℕ) → drop at file ≡ s → number_from 0 0 at s ≡ None → judged file K (value_at at s) ≡ fault 4
  unfolding judged one_of found ◌unless◌ ◌>>◌ ◌>>=◌ value_of entry_at
  not_any [] at d e = refl
  not_any (b ∷ s) at d e = elim (decided (eqb b 10)) [
    | inl p ↦ rw (p, value_of)
    | inr p ↦ rw (p, value_of) (ap (judged file K) (entries_entry file (b ∷ s) 0 at (omega arith) d ∙ ap (after 0 file) e))
  ]

  not_ended : (v e : ℕ) → (e < length file → get_or file e 0 ≡ 10 → ⊥) → judged file K (after_entry 0 v e (drop e file)) ≡ fault 4
  unfolding judged
  not_ended v e h = elim (dec_le (length file) e) [
    | yes l ↦ ap (judged file K) (after_end 0 file e v l)
    | no l ↦
        let i : e < length file = omega arith in
        elim (decided (eqb (get_or file e 0) 44)) [
          | inl p ↦ ap (judged file K) (after_comma 0 file e v i (eqb-true _ _ p)) ∙ not_two _ v _ (entries_some (drop (e + 1) file) 0 0 0 (e + 1))
          | inr p ↦ ap (judged file K) (after_other 0 file e v i (h i) (eqb-false _ _ p))
        ]
  ]

-- The line at c of this kind.
module _ (file : List ℕ) (kind : Kind) (fix : Fixed kind) (c : Cursor) where
  line_is : at_line c.line (keyed (key_at kind) (single_number (kind_of kind)) (drop c.at file)) ≡ fixed (kind_of kind) single_number c.line (drop c.at file)
  unfolding fixed
  line_is =
      keyed_reads (line_row kind) (single_number (kind_of kind)) c.line (drop c.at file)
      ∙ ap (λ (r : PaperRow). line_of r.key (single_number (kind_of kind)) c.line (drop c.at file)) (fixed_row kind fix)

  line_faults : (r : Reason) → keyed (key_at kind) (single_number (kind_of kind)) (drop c.at file) ≡ fault (reason_number r)
      → FieldLine file (kind_of kind) c (Err (refuse c.line r))
  unfolding said_by Whole at_line
  line_faults r e = record { said = sym (ap (at_line c.line) e) ∙ line_is; whole = refl }

  pub line_missing : after_key (key_at kind) c.at (drop c.at file) ≡ None → FieldLine file (kind_of kind) c (Err (refuse c.line NoLine))
  unfolding reason_number
  line_missing o = line_faults NoLine (keyed_missing _ (single_number (kind_of kind)) file c.at (open_no_key _ file c.at o))

  module _ (a : ℕ) (o : after_key (key_at kind) c.at (drop c.at file) ≡ Some a) where
    line_ends_lem : has_end (drop a file) ≡ true
        → keyed (key_at kind) (single_number (kind_of kind)) (drop c.at file) ≡ judged file (kind_of kind) (value_at a (drop a file))
    line_ends_lem h =
        let t = keyed_at _ (single_number (kind_of kind)) file c.at a (open_at_lem _ file c.at a o h) in
        t.is ∙ ap (found t.line.rest) (sym (one_judge (kind_of kind) t.line.what))
        ∙ sym (judged_is file (kind_of kind) _ t.line.rest _ (value_found file (drop a file) 0 a t.line refl refl t.ends))

    not_one : judged file (kind_of kind) (value_at a (drop a file)) ≡ fault 4 → FieldLine file (kind_of kind) c (Err (refuse c.line (unended NoValue (drop a file))))
    unfolding reason_number
    not_one e = elim (decided (has_end (drop a file))) [
      | inl h ↦ rw (unended_value (drop a file) h) (line_faults NoValue (line_ends_lem h ∙ e))
      | inr h ↦
          rw (unended_line (drop a file) h)
          (line_faults NoLine (keyed_missing _ (single_number (kind_of kind)) file c.at (open_no_end _ file c.at a o h)))
    ]

    pub line_fault : number_from 0 0 a (drop a file) ≡ None → FieldLine file (kind_of kind) c (Err (refuse c.line (unended NoValue (drop a file))))
    line_fault e = not_one (not_any file (kind_of kind) _ a refl e)

    module _ (v e : ℕ) (h : number_from 0 0 a (drop a file) ≡ read v e) where
      value_is : value_at a (drop a file) ≡ after_entry 0 v e (drop e file)
      value_is = value_read file (drop a file) a v e refl h

      pub line_end : (e < length file → get_or file e 0 ≡ 10 → ⊥) → FieldLine file (kind_of kind) c (Err (refuse c.line (unended NoValue (drop a file))))
      line_end l = not_one (ap (judged file (kind_of kind)) value_is ∙ not_ended file (kind_of kind) v e l)

      module _ (inside : e < length file) (lf : get_or file e 0 ≡ 10) where
        one : value_at a (drop a file) ≡ numbers (v ∷ []) (e + 1)
        one = value_is ∙ after_lf 0 file e v inside lf

        has_one : keyed (key_at kind) (single_number (kind_of kind)) (drop c.at file)
            ≡ found (drop (e + 1) file) (5 unless (leb (line_row kind).least v && leb v (line_row kind).greatest) && true >> says v)
        unfolding ◌unless◌ ◌>>◌
        has_one = elim (decided (has_end (drop a file))) [
          | inl p ↦ line_ends_lem p ∙ ap (judged file (kind_of kind)) one ∙ (unfold judged one_of all within in (rw (fixed_row kind fix)))
          | inr p ↦ let no : not_numbers ≡ numbers (v ∷ []) (e + 1) = sym (value_endless (drop a file) 0 a p) ∙ one in cc
        ]

        pub line_out : ((line_row kind).least ≤ v → v ≤ (line_row kind).greatest → ⊥) → FieldLine file (kind_of kind) c (Err (refuse c.line OutOfRange))
        unfolding found reason_number ◌unless◌ ◌>>◌ ◌>>=◌
        line_out n = elim (decided (leb (line_row kind).least v && leb v (line_row kind).greatest)) [
          | inl p ↦
              let (l, m) = and_both (leb (line_row kind).least v) (leb v (line_row kind).greatest) p in
              absurd (n (leb-true _ _ l) (leb-true _ _ m))
          | inr p ↦ line_faults OutOfRange (has_one ∙ rw p)
        ]

        pub line_in : Placed file c → (line_row kind).least ≤ v → v ≤ (line_row kind).greatest
            → FieldLine file (kind_of kind) c (Ok (v, record { at = e + 1; line = c.line + 1 }))
        unfolding said_by Whole at_line found ◌unless◌ ◌>>◌ ◌>>=◌
        line_in p l m =
            let k = key_within _ _ c.at a o in
            let q = read_within 0 file a v (omega (arith, length-drop c.at file)) e (unfold entry_at in h) in
            let is : keyed (key_at kind) (single_number (kind_of kind)) (drop c.at file) ≡ says (record { what = v; rest = drop (e + 1) file }) =
            has_one ∙ rw (le-leb _ _ l, le-leb _ _ m) in
            record {
              said = rw (add-one c.line) (sym (ap (at_line c.line) is) ∙ line_is);
              whole = (tt, record { inside = omega arith; near = omega arith; fits = p.fits });
            }
