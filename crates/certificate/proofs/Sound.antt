-- What every reading leaves: the tables hold the file's certificate, and are sound.
use mathlib.Core.Path.{◌≡◌, refl, sym, ap, ◌∙◌}
use mathlib.Core.Option.{Option}
use mathlib.Core.List.{List, []}
use mathlib.Core.Logic.{inl, inr}
use Prim.Native.Nat.{ℕ, ◌≤◌, ◌<◌}
use native.Mathlib.Omega.{arith}
use lib.ListN.{length, get_or}
use Rattle.std.specs.Prelude.{Some, Result, Ok, Err}
use Rattle.theory.specs.Automaton.{classes}
use Rattle.paper.specs.Certificate.{Certificate as PaperCertificate}
use Rattle.paper.specs.WellFormed.{WellFormed}
use Rattle.paper.specs.Format.{Reading, refused, gave, File, unreadable, holds, read_file, Refusal as PaperRefusal, too_long, on_line}
use Rattle.paper.proofs.Admitted.{admitted}
use Rattle.paper.proofs.Refused.{refused_or_holds}
use Rattle.tables.specs.Held.{automaton_of, rules_of, arities_of, merge_of, held, no_rule}
use Rattle.tables.specs.Sound.{SoundRule, Sound}
use Rattle.tables.specs.declared.Tables.{Tables}
use Rattle.tables.specs.declared.Merging.{Merging}
use Rattle.tables.specs.declared.certificate.Certificate.{Certificate}
use Rattle.verdicts.specs.declared.refusals.Refusal.{Refusal}
use Rattle.verdicts.specs.Refused.{number, refusal_of}
use Rattle.verdicts.proofs.Told.{number_back, said_back}
use Rattle.fields.specs.declared.cursor.Cursor.{Cursor}
use Rattle.fields.proofs.Whole.{padded_low, padded_length}
use Rattle.fields.proofs.Fixed.{same_gave, same_refused, not_both}
use Rattle.view.specs.declared.View.{View}
use Rattle.blocks.specs.Draft.{Draft}
use Rattle.blocks.specs.Handed.{Stopped, Handed}
use Rattle.blocks.specs.Packed.{row_of, flat, packed_rows, table_of, packed_rules, tables_of, merging_of}
use Rattle.blocks.proofs.Arrays.{take_padded, list_low}
use Rattle.blocks.proofs.Chain.{one_handed}
use Rattle.certificate.specs.Read.{draft_of, read_of, said_read, HandedLast, place_of, HandedView}
use Rattle.certificate.proofs.HeldTables.{table_back, table_small}
use Rattle.certificate.proofs.HeldRules.{rules_back, sound_rules, few_variables}

arities_back : (d : Draft) → length d.arities ≤ 64 → arities_of (tables_of d) ≡ d.arities
unfolding arities_of tables_of
arities_back d h = take_padded 64 d.arities h

merge_back : (d : Draft) (merge : List ℕ) → length merge ≡ d.A.states → d.A.states ≤ 32 → merge_of (tables_of d) (merging_of merge) ≡ merge
unfolding merge_of tables_of merging_of table_of
merge_back d merge e h = rw (← e) (take_padded 64 merge (omega arith))

held_is : (t : Tables) (m : Merging) (c : PaperCertificate) → t.budget ≡ c.budget → arities_of t ≡ c.arities → automaton_of c.arities t.initial ≡ c.A → automaton_of c.arities t.bad ≡ c.B
    → rules_of c.arities t.rules ≡ c.rules → merge_of t m ≡ c.merge → held t m ≡ c
unfolding held
held_is t m c b ar i j r e =
    let first = ap (λ (l : List ℕ). automaton_of l t.initial) ar ∙ i in
    let second = ap (λ (l : List ℕ). automaton_of l t.bad) ar ∙ j in
    let all = ap (λ (l : List ℕ). rules_of l t.rules) ar ∙ r in
    λ k. record { budget = b k; arities = ar k; A = first k; B = second k; rules = all k; merge = e k }

module _ (c : PaperCertificate) (w : WellFormed c) where
  low : (a : ℕ) → get_or c.arities a 0 ≤ 3
  low = list_low 3 c.arities w.arities

  own_arities : arities_of (tables_of (draft_of c)) ≡ c.arities
  unfolding draft_of
  own_arities = arities_back (draft_of c) w.most_arities

  own_merge : merge_of (tables_of (draft_of c)) (merging_of c.merge) ≡ c.merge
  unfolding draft_of
  own_merge = merge_back (draft_of c) c.merge w.merge_count w.A.states_bound

  -- the tables of a certificate hold it
  pub held_back : held (tables_of (draft_of c)) (merging_of c.merge) ≡ c
  unfolding tables_of draft_of
  held_back =
      held_is (tables_of (draft_of c)) (merging_of c.merge) c refl own_arities
      (table_back c.arities c.A low w.A)
      (table_back c.arities c.B low w.B)
      (rules_back c.arities c.rules w.most_arities w.rules_bound w.rules)
      own_merge

  -- and are sound
  pub sound : Sound (tables_of (draft_of c)) (merging_of c.merge)
  sound =
      record {
        well = rw held_back w;
        symbols = unfold tables_of draft_of in w.most_arities;
        initial_small = unfold tables_of draft_of table_of in (table_small c.arities c.A w.most_arities w.A);
        bad_long = unfold tables_of draft_of table_of packed_rows in (padded_length 640 (flat row_of c.B.transitions));
        bad_small = unfold tables_of draft_of table_of in (table_small c.arities c.B w.most_arities w.B);
        rules = ruled own_arities;
        few = unfold tables_of draft_of in (few_variables c.arities c.rules w.rules);
        merge_small = λ i. unfold merging_of in (omega (arith, padded_low 31 64 c.merge (list_low 31 c.merge w.merge) i));
        classes = counted own_merge;
      }
    where
      ruled : arities_of (tables_of (draft_of c)) ≡ c.arities → (i : ℕ) → i < (tables_of (draft_of c)).rules.count
          → SoundRule (arities_of (tables_of (draft_of c))) (get_or (tables_of (draft_of c)).rules.rules i no_rule)
      ruled e i h = rw e (unfold tables_of draft_of packed_rules in (sound_rules c.arities c.rules w.most_arities w.rules_bound w.rules i h))

      counted : merge_of (tables_of (draft_of c)) (merging_of c.merge) ≡ c.merge → (merging_of c.merge).classes ≡ classes (merge_of (tables_of (draft_of c)) (merging_of c.merge))
      counted e = unfold merging_of in (ap classes (sym e))

-- A file is refused by a number from 1 to 11.
refusal_within : (file : List ℕ) (n : ℕ) (line : Option ℕ) → read_file file ≡ unreadable n line → (1 ≤ n) × (n ≤ 11)
refusal_within file n line e = elim (refused_or_holds file) [
  | inl (m, at, d, r) ↦ let same : m ≡ n = cc in rw (← same) (within r)
  | inr (c, d) ↦ cc
]
  where
    within : {m : ℕ} {at : Option ℕ} → PaperRefusal m at → (1 ≤ m) × (m ≤ 11)
    within too_long = (omega arith, omega arith)
    within (on_line a b c d) = (omega arith, b)

-- What is answered says what the file is.
said_file : (f : File) → ((n : ℕ) (line : Option ℕ) → f ≡ unreadable n line → (1 ≤ n) × (n ≤ 11)) → ((c : PaperCertificate) → f ≡ holds c → WellFormed c) → said_read (read_of f) ≡ f
unfolding said_read read_of refusal_of
said_file (holds c) h g = ap holds (held_back c (g c refl))
said_file (unreadable n line) h g = let (low, high) = h n line refl in rw (number_back n low high, said_back line)

pub said_read_lem : (file : List ℕ) → said_read (read_of (read_file file)) ≡ read_file file
said_read_lem file = said_file (read_file file) (refusal_within file) (admitted file)

-- What is read is sound.
sound_file : (f : File) → ((c : PaperCertificate) → f ≡ holds c → WellFormed c) → (c : Certificate) → read_of f ≡ Ok c → Sound c.tables c.merging
unfolding read_of
sound_file (holds d) g c e = let same : ◌≡◌ {A = Certificate} (record { tables = tables_of (draft_of d); merging = merging_of d.merge }) c = cc in rw (← same) (sound d (g d refl))
sound_file (unreadable n line) g c e = cc

pub read_sound : (file : List ℕ) (r : Result Certificate Refusal) (c : Certificate) → r ≡ read_of (read_file file) → r ≡ Ok c → Sound c.tables c.merging
read_sound file r c e f = sound_file (read_file file) (admitted file) c (sym e ∙ f)

-- Two answers for one file are equal.
pub one_read : (file : List ℕ) (r s : Result Certificate Refusal) → r ≡ read_of (read_file file) → s ≡ read_of (read_file file) → r ≡ s
one_read file r s p q = p ∙ sym q

pub read_said : (file : List ℕ) (r : Result Certificate Refusal) → r ≡ read_of (read_file file) → said_read r ≡ read_file file
read_said file r e = ap said_read e ∙ said_read_lem file

-- The same of the parts.
one_refusal : {X : Type 0} {reading : Reading X} {r s : Refusal} → Stopped reading r → Stopped reading s → r ≡ s
one_refusal {X} {reading} {r} {s} p q =
    let e : ◌≡◌ {A = Reading X} (refused (number r.reason) p.line) (refused (number s.reason) q.line) = sym p.is ∙ q.is in
    let lines : p.line ≡ q.line = cc in
    same_refused p.line r s (rw (← lines) at e) (p.names ∙ ap Some lines ∙ sym q.names)

pub one_opening : (file : List ℕ) (reading : Reading Draft) (r s : Result (Tables × Cursor) Refusal) → Handed file tables_of reading r → Handed file tables_of reading s → r ≡ s
one_opening file reading = one_handed file tables_of reading

pub one_merging : (file : List ℕ) (reading : Reading (List ℕ)) (r s : Result (Merging × Cursor) Refusal) → Handed file merging_of reading r → Handed file merging_of reading s → r ≡ s
one_merging file reading = one_handed file merging_of reading

pub one_view : (v : View) (r s : Result (Tables × View) Refusal) → HandedView v r → HandedView v s → r ≡ s
one_view v (Ok (t, w)) (Ok (u, x)) (f, p) (g, q) =
    let (same, place) = same_gave v.file.now p.what q.what (place_of w) (place_of x) p.placed q.placed (sym p.is ∙ q.is) in
    let tables : t ≡ u = p.packs ∙ ap tables_of same ∙ sym q.packs in
    let file = f ∙ sym g in
    λ i. Ok (tables i, record { file = file i; at = (place i).at; line = (place i).line })
one_view v (Ok (t, w)) (Err s) (f, p) q = absurd (not_both _ _ _ _ _ (sym q.is ∙ p.is))
one_view v (Err r) (Ok (u, x)) p (g, q) = absurd (not_both _ _ _ _ _ (sym p.is ∙ q.is))
one_view v (Err r) (Err s) p q = ap Err (one_refusal p q)

pub one_last : (reading : Reading (List ℕ)) (r s : Result Merging Refusal) → HandedLast reading r → HandedLast reading s → r ≡ s
one_last reading (Ok m) (Ok n) p q =
    let e : gave p.what p.line [] ≡ gave q.what q.line [] = sym p.is ∙ q.is in
    let same : p.what ≡ q.what = cc in
    ap Ok (p.packs ∙ ap merging_of same ∙ sym q.packs)
one_last reading (Ok m) (Err s) p q = absurd (not_both _ _ _ _ _ (sym q.is ∙ p.is))
one_last reading (Err r) (Ok n) p q = absurd (not_both _ _ _ _ _ (sym p.is ∙ q.is))
one_last reading (Err r) (Err s) p q = ap Err (one_refusal p q)
