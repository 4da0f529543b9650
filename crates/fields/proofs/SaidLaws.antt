-- What the code found by bytes, told in paper's words: one law for each kind of list line.
use mathlib.Core.Path.{◌≡◌, refl, sym, ap, ◌∙◌}
use mathlib.Core.Bool.{true, false}
use mathlib.Core.Logic.{inl, inr}
use mathlib.Core.List.{List, [], ◌∷◌}
use Prim.Native.Nat.{ℕ, suc, ◌+◌, ◌-◌, ◌≤◌, min}
use native.Mathlib.Numerals.{add-one}
use native.Mathlib.Omega.{arith}
use borrow.Author.Tests.{eqb-true, ltb-true}
use lib.Dec.{eqb, ltb}
use lib.ListN.{length, drop, get_or, replicate}
use Rattle.theory.proofs.Bools.{and_both}
use Rattle.std.specs.declared.option.Option.{Option}
use Rattle.std.specs.declared.option.Option.TheVariants.{Some, None}
use Rattle.std.specs.declared.result.Result.{Result}
use Rattle.std.specs.declared.result.Result.TheVariants.{Ok, Err}
use Rattle.paper.specs.Checked.{Checked, says, ◌>>=◌}
use Rattle.paper.specs.Lines.{Said}
use Rattle.paper.specs.Certificate.{Row as PaperRow, row, Arities, Merge}
use Rattle.paper.specs.Tables.{arity_list, final_list, transition, class_list}
use Rattle.paper.specs.Format.{Reading, at_line, line_of, fixed}
use Rattle.paper.proofs.Smallest.{decided}
use Rattle.verdicts.specs.declared.refusals.Reason.{Reason}
use Rattle.verdicts.specs.declared.refusals.Reason.TheVariants.{WrongCount, Unordered}
use Rattle.verdicts.specs.declared.refusals.Refusal.{Refusal}
use Rattle.fields.specs.declared.rows.Kind.{Kind}
use Rattle.fields.specs.declared.cursor.Cursor.{Cursor}
use Rattle.fields.specs.declared.cursor.Sort.TheVariants.{Numbers}
use Rattle.fields.specs.declared.lists.Items.{Items}
use Rattle.fields.specs.Line.{Fixed, open_at, key_of, kind_of, line_row}
use Rattle.fields.specs.Listed.{above, ascending, laid, listed}
use Rattle.fields.specs.Lines.{Line, good, bad, checked, entry_line, final_check, few_check, items_of}
use Rattle.fields.specs.Merge.{merge_check}
use Rattle.fields.specs.Trans.{arg_in, trans_of, trans_check, arrow_of}
use Rattle.fields.specs.Padded.{padded}
use Rattle.fields.specs.Said.{Placed, said_by, Whole, WholeList, said_items, moved, Listing, FinalKind, Unused, ArrowLine}
use Rattle.fields.proofs.Whole.{laid_padded, padded_low, line_placed}
use Rattle.fields.proofs.MergeLaws.{take_items}
use Rattle.fields.proofs.TellLaws.{tell_checked, tell_few, good_line, numbers_most, all_within}
use Rattle.fields.proofs.Entries.{found}
use Rattle.fields.proofs.Readings.{keyed_reads, keyed_same, fixed_row}
use Rattle.fields.proofs.Bridge.{said_line, ranged, checking, onward, judge_more, checked_said}
use Rattle.fields.proofs.Judges.{arities_judge, merge_judge, final_judge, trans_judge}

-- A list that fits in the code's array.
items_said : (file : List ℕ) (line : ℕ) (l : Line) → ((ns : List ℕ) (at : ℕ) → l ≡ good ns at → length ns ≤ 64)
    → said_by said_items file line (items_of line l) ≡ at_line line (said_line file l)
unfolding said_by items_of listed said_line at_line
items_said file line (bad r) h = refl
items_said file line (good ns at) h = rw (take_items ns (laid ns (replicate 64 0)) (length ns) refl (h ns at refl) refl, add-one line)

rises : (m v : ℕ) (ns : List ℕ) → above v ns ≡ true → v ≤ m → ((i : ℕ) → get_or ns i 0 ≤ m) → v + length ns ≤ m
unfolding above
rises m v [] e h g = omega arith
rises m v (w ∷ ns) e h g =
    let (a, b) = and_both (ltb v w) (above w ns) e in
    omega (arith, ltb-true v w a, rises m w ns b (g 0) (λ i. g (suc i)))

few_rising : (m : ℕ) (ns : List ℕ) → ascending ns ≡ true → ((i : ℕ) → get_or ns i 0 ≤ m) → length ns ≤ m + 1
unfolding ascending
few_rising m [] e g = omega arith
few_rising m (v ∷ ns) e g = omega (arith, rises m v ns e (g 0) (λ i. g (suc i)))

final_passed : (ns : List ℕ) → final_check ns ≡ None → ascending ns ≡ true
unfolding final_check
final_passed ns e = elim (decided (ascending ns)) [
  | inl p ↦ p
  | inr p ↦ let w : ◌≡◌ {A = Option Reason} (Some Unordered) None = rw (p, final_check) at e in cc
]

merge_passed : (n : ℕ) (ns : List ℕ) → merge_check n ns ≡ None → length ns ≡ n
unfolding merge_check
merge_passed n ns e = elim (decided (eqb (length ns) n)) [
  | inl p ↦ eqb-true (length ns) n p
  | inr p ↦ let w : ◌≡◌ {A = Option Reason} (Some WrongCount) None = rw (p, merge_check) at e in cc
]

-- A list line with a further check, each number at most m.
module _ (file : List ℕ) (r : PaperRow) (c : Cursor) (m : ℕ) (k : List ℕ → Option Reason) (place : Placed file c)
    (few : (ns : List ℕ) → k ns ≡ None → ((i : ℕ) → get_or ns i 0 ≤ m) → length ns ≤ 64) where
  Told : List ℕ → ℕ → Type 0
  Told ns next = (length ns ≤ 64) × ((i : ℕ) → get_or ns i 0 ≤ m) × Placed file (record { at = next; line = c.line + 1 })

  whole_line : (l : Line) → ((ns : List ℕ) (next : ℕ) → l ≡ good ns next → Told ns next) → Whole (WholeList m) file c.line (items_of c.line l)
  unfolding Whole items_of listed Told
  whole_line (bad q) h = refl
  whole_line (good ns next) h =
      let (a, b, p) = h ns next refl in
      let t = take_items ns (laid ns (replicate 64 0)) (length ns) refl a refl in (
        record {
          behind = rw t (laid_padded 64 ns);
          low = λ i. rw (laid_padded 64 ns) (padded_low m 64 ns b i);
          few = a;
          order = ap ascending (sym t);
        },
        p,
      )

  line_facts : (ns : List ℕ) (next : ℕ) → checked k (entry_line (Numbers m m) r file c.at) ≡ good ns next → Told ns next
  unfolding Told
  line_facts ns next g =
      let (a, b) = tell_checked k _ ns next g in
      let w = good_line (Numbers m m) r.empty file (open_at (key_of r) file c.at) ns next a in
      let low = all_within (Numbers m m) m (numbers_most m m m (omega arith) (omega arith)) ns w.within in
      (few ns b low, low, line_placed (Numbers m m) r file c place ns next a)

  listing : (judge : List ℕ → Checked (List ℕ)) → ((value : List ℕ) → (ranged (Numbers m m) r.empty value >>= checking k) ≡ judge value)
      → Listing file m c.line (line_of r.key judge c.line (drop c.at file)) (items_of c.line (checked k (entry_line (Numbers m m) r file c.at)))
  unfolding Told
  listing judge same =
      record {
        said =
            items_said file c.line _ (λ ns next g. (line_facts ns next g).0)
            ∙ ap (at_line c.line) (checked_said file (Numbers m m) r k c.at ∙ keyed_same (key_of r) _ _ same (drop c.at file))
            ∙ keyed_reads r judge c.line (drop c.at file);
        whole = whole_line (checked k (entry_line (Numbers m m) r file c.at)) line_facts;
      }

-- a larger bound
looser : (file : List ℕ) (m n line : ℕ) (j : Reading (List ℕ)) (it : Result (Items × Cursor) Refusal) → m ≤ n → Listing file m line j it → Listing file n line j it
looser file m n line j it h l = record { said = l.said; whole = go it l.whole }
  where
    go : (it : Result (Items × Cursor) Refusal) → Whole (WholeList m) file line it → Whole (WholeList n) file line it
    go (Ok (it, c)) w =
        unfold Whole in
        (record { behind = w.0.behind; low = λ k. omega (arith, w.0.low k); few = w.0.few; order = w.0.order }, w.1)
    go (Err q) w = unfold Whole in w

module _ (file : List ℕ) (c : Cursor) (place : Placed file c) where
  pub final_told : (kind : Kind) (n most : ℕ) → Fixed kind → FinalKind (kind_of kind) → 1 ≤ n → n ≤ 32 → most ≡ min (line_row kind).greatest (n - 1)
      → Listing file 31 c.line (fixed (kind_of kind) (λ K. final_list K n) c.line (drop c.at file))
      (items_of c.line (checked final_check (entry_line (Numbers most most) (line_row kind) file c.at)))
  unfolding fixed
  final_told kind n most k f l h e =
      let b = fixed_row kind k in
      let a : most ≡ n - 1 = omega (arith, ap (λ (r : PaperRow). r.greatest) b, f.greatest) in
      rw (a, b)
      (looser file (n - 1) 31 c.line _ _ (omega arith)
      (listing file (row (kind_of kind)) c (n - 1) final_check place (λ ns z low. omega (arith, few_rising (n - 1) ns (final_passed ns z) low)) (final_list (kind_of kind) n)
      (λ value. final_judge (kind_of kind) n value f.least l (omega (arith, f.greatest)))))

  pub arities_told : Listing file 3 c.line (fixed Arities (λ K. arity_list) c.line (drop c.at file))
      (items_of c.line (checked (few_check 64) (entry_line (Numbers 3 3) (row Arities) file c.at)))
  unfolding fixed
  arities_told = listing file (row Arities) c 3 (few_check 64) place (λ ns z low. tell_few 64 ns z) arity_list (λ value. unfold row in (arities_judge value))

  pub merge_told : (n : ℕ) → n ≤ 32 → Listing file 31 c.line (fixed Merge (λ K. class_list n) c.line (drop c.at file))
      (items_of c.line (checked (merge_check n) (entry_line (Numbers 31 31) (row Merge) file c.at)))
  unfolding fixed
  merge_told n h =
      listing file (row Merge) c 31 (merge_check n) place (λ ns z low. omega (arith, merge_passed n ns z)) (class_list n)
      (λ value. unfold row in (merge_judge n value))

arrow_said : (file arities : List ℕ) (line : ℕ) (l : Line)
    → said_by (moved arities) file line (arrow_of line l) ≡ at_line line (said_line file l >>= onward (λ ns. says (moved arities (trans_of ns))))
unfolding said_by arrow_of said_line at_line onward found ◌>>=◌
arrow_said file arities line (good ns at) = rw add-one
arrow_said file arities line (bad r) = refl

-- A transition's unused arguments are 0.
unused : (arities : List ℕ) (f : ℕ) (qs : List ℕ) → length qs ≡ get_or arities f 0 + 1 → get_or arities f 0 ≤ 3 → Unused arities (trans_of (f ∷ qs))
unfolding trans_of arg_in padded
unused arities f [] e h = absurd (omega arith)
unused arities f (q ∷ []) e h = let p : get_or arities f 0 ≡ 0 = omega arith in rw p
unused arities f (q ∷ r ∷ []) e h = let p : get_or arities f 0 ≡ 1 = omega arith in rw p
unused arities f (q ∷ r ∷ s ∷ []) e h = let p : get_or arities f 0 ≡ 2 = omega arith in rw p
unused arities f (q ∷ r ∷ s ∷ t ∷ []) e h = let p : get_or arities f 0 ≡ 3 = omega arith in rw p
unused arities f (q ∷ r ∷ s ∷ t ∷ u ∷ qs) e h = absurd (omega arith)

trans_passed : (arities ns : List ℕ) → trans_check arities ns ≡ None → length ns ≡ get_or arities (get_or ns 0 0) 0 + 2
unfolding trans_check
trans_passed arities ns e = elim (decided (eqb (length ns) (get_or arities (get_or ns 0 0) 0 + 2))) [
  | inl p ↦ eqb-true (length ns) (get_or arities (get_or ns 0 0) 0 + 2) p
  | inr p ↦ let w : ◌≡◌ {A = Option Reason} (Some WrongCount) None = rw (p, trans_check) at e in cc
]

whole_arrow : (file arities : List ℕ) (line : ℕ) → ((k : ℕ) → get_or arities k 0 ≤ 3) → (l m : Line)
    → ((ns : List ℕ) (next : ℕ) → l ≡ good ns next → Placed file (record { at = next; line = line + 1 })) → checked (trans_check arities) l ≡ m
    → Whole (Unused arities) file line (arrow_of line m)
unfolding arrow_of Whole trans_of
whole_arrow file arities line low l (bad r) h e = refl
whole_arrow file arities line low l (good [] at) h e =
    let (a, b) = tell_checked (trans_check arities) l [] at e in absurd (omega (arith, trans_passed arities [] b))
whole_arrow file arities line low l (good (f ∷ qs) at) h e =
    let (a, b) = tell_checked (trans_check arities) l (f ∷ qs) at e in
    (unused arities f qs (omega (arith, trans_passed arities (f ∷ qs) b)) (low f), h (f ∷ qs) at a)

pub trans_told : (file arities : List ℕ) (kind : Kind) (n : ℕ) (c : Cursor) → Placed file c → (line_row kind).empty ≡ false → 1 ≤ length arities → 1 ≤ n
    → ((k : ℕ) → get_or arities k 0 ≤ 3)
    → ArrowLine file arities kind n c (arrow_of c.line (checked (trans_check arities) (entry_line (Numbers (length arities - 1) (n - 1)) (line_row kind) file c.at)))
trans_told file arities kind n c p some one state low =
    record {
      said =
          arrow_said file arities c.line _
          ∙ ap (at_line c.line)
          (ap (λ (j : Checked (Said (List ℕ))). j >>= onward (λ ns. says (moved arities (trans_of ns))))
          (checked_said file (Numbers (length arities - 1) (n - 1)) (line_row kind) (trans_check arities) c.at)
          ∙ judge_more (key_of (line_row kind)) _ (λ ns. says (moved arities (trans_of ns))) (drop c.at file)
          ∙ keyed_same (key_of (line_row kind)) _ _ (λ value. rw some (trans_judge arities n low one state value)) (drop c.at file))
          ∙ keyed_reads (line_row kind) (transition arities n) c.line (drop c.at file);
      whole = whole_arrow file arities c.line low _ _ (λ ns next g. line_placed (Numbers (length arities - 1) (n - 1)) (line_row kind) file c p ns next g) refl;
    }
