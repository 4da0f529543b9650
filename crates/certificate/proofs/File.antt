-- The whole file: paper's do-block is the draft and the lines that close it, and what is answered for each way of reading it.
use mathlib.Core.Path.{◌≡◌, refl, sym, ap, ◌∙◌}
use mathlib.Core.List.{List, [], ◌∷◌}
use mathlib.Core.Logic.{inl, inr}
use Prim.Native.Nat.{ℕ, ◌≤◌, ◌<◌}
use Prim.Native.String.{String}
use native.Mathlib.Omega.{arith}
use borrow.Author.Tests.{le-leb, lt-leb, leb-true, leb-false}
use lib.Dec.{leb}
use lib.ListN.{length, drop, take}
use Rattle.std.specs.Prelude.{Some, Result, Ok, Err}
use Rattle.theory.specs.Automaton.{Automaton, classes}
use Rattle.paper.specs.Limits.{most_bytes, most_states}
use Rattle.paper.specs.Certificate.{Certificate as PaperCertificate, Kind, row, Budget, Arities, States, Final, Trans, BadStates, BadFinal, BadTrans, Rules}
use Rattle.paper.specs.Tables.{single_number, arity_list, final_list, transition}
use Rattle.paper.specs.Format.{Reading, refused, gave, Reader, go_on, ◌>>=◌, ◌>>◌, give, line_of, fixed, times, rule, end, certificate, whole_file, read_file}
use Rattle.paper.proofs.Admitted.{Reads, any_read, one_in, line_read}
use Rattle.paper.proofs.Smallest.{decided}
use Rattle.paper.proofs.Spelling.{steps}
use Rattle.tables.specs.declared.Tables.{Tables}
use Rattle.tables.specs.declared.Merging.{Merging}
use Rattle.tables.specs.declared.certificate.Certificate.{Certificate}
use Rattle.verdicts.specs.declared.refusals.Reason.TheVariants.{NoLine}
use Rattle.verdicts.specs.declared.refusals.Refusal.{Refusal}
use Rattle.verdicts.specs.Refused.{number, reason_of, said_line, line_of as refusal_line, refusal_of}
use Rattle.verdicts.proofs.Told.{refusal_back}
use Rattle.fields.specs.declared.cursor.Cursor.{Cursor}
use Rattle.fields.specs.Padded.{padded}
use Rattle.view.specs.declared.View.{View}
use Rattle.blocks.specs.Packed.{tables_of, merging_of, table_of}
use Rattle.blocks.specs.Handed.{Went, Stopped}
use Rattle.blocks.specs.Draft.{Draft, automaton, draft, merge_line, merged, closing}
use Rattle.blocks.proofs.Chain.{then_next, first_stopped, next_stopped}
use Rattle.certificate.specs.Read.{draft_of, read_of, too_long, last_lines, Ended, HandedView}

bind_cong : {X Y : Type 0} (m : Reader X) (f g : X → Reader Y) → ((x : X) → f x ≡ g x) → ◌≡◌ {A = Reader Y} (m >>= f) (m >>= g)
bind_cong m f g h = λ i. m >>= (λ x. h x i)

assoc_at : {X Y Z : Type 0} (r : Reading X) (f : X → Reader Y) (g : Y → Reader Z) → go_on (go_on r f) g ≡ go_on r (λ x line bs. go_on (f x line bs) g)
unfolding go_on
assoc_at (refused n l) f g = refl
assoc_at (gave x l bs) f g = refl

assoc : {X Y Z : Type 0} (m : Reader X) (f : X → Reader Y) (g : Y → Reader Z) → ◌≡◌ {A = Reader Z} ((m >>= f) >>= g) (m >>= (λ x. f x >>= g))
unfolding ◌>>=◌
assoc m f g = λ i line bs. assoc_at (m line bs) f g i

-- two readers one after the other, and then others, where what the second is followed by is known
flat_next : {X Y Z : Type 0} (m : Reader X) (f : X → Reader Y) (g : Y → Reader Z) (k : X → Reader Z) → ((x : X) → ◌≡◌ {A = Reader Z} (f x >>= g) (k x)) → ◌≡◌ {A = Reader Z} ((m >>= f) >>= g) (m >>= k)
flat_next m f g k h = assoc m f g ∙ bind_cong m _ k h

-- an automaton's lines, and then others
flat : {Y : Type 0} (K1 K2 K3 : Kind) (key : String) (ar : List ℕ) (next : Automaton → Reader Y)
    → ◌≡◌ {A = Reader Y} (automaton K1 K2 K3 key ar >>= next)
    (fixed K1 single_number >>= (λ n. fixed K2 (λ kind. final_list kind n) >>= (λ final. fixed K3 single_number >>= (λ count. times count (line_of key (transition ar n)) >>=
    (λ ts. next (record { states = n; transitions = ts; final = final }))))))
unfolding automaton give go_on ◌>>=◌
flat K1 K2 K3 key ar next =
    flat_next (fixed K1 single_number) _ next _ (λ n.
    flat_next (fixed K2 (λ kind. final_list kind n)) _ next _ (λ final.
    flat_next (fixed K3 single_number) _ next _ (λ count. assoc (times count (line_of key (transition ar n))) _ next)))

pub whole_file_lem : ◌≡◌ {A = Reader PaperCertificate} (draft >>= closing) certificate
unfolding draft certificate closing merge_line merged give go_on ◌>>=◌
whole_file_lem =
    flat_next (fixed Budget single_number) _ closing _ (λ b.
    flat_next (fixed Arities (λ kind. arity_list)) _ closing _ (λ ar.
    flat_next (automaton States Final Trans "t" ar) _ closing _ (λ A.
    flat_next (automaton BadStates BadFinal BadTrans "u" ar) _ closing _ (λ B.
    flat_next (fixed Rules single_number) _ closing _ (λ n. assoc (times n (rule ar)) _ closing))
    ∙ flat BadStates BadFinal BadTrans "u" ar _)
    ∙ flat States Final Trans "t" ar _))

-- The tables' lines, and those that close the file.
abbrev in_parts : Reader PaperCertificate
in_parts = draft >>= (λ d. last_lines d.A.states >>= (λ merge. give (merged d merge)))

parts_are : ◌≡◌ {A = Reader PaperCertificate} in_parts certificate
parts_are = bind_cong draft _ closing closes ∙ whole_file_lem
  where
    closes : (d : Draft) → ◌≡◌ {A = Reader PaperCertificate} (last_lines d.A.states >>= (λ merge. give (merged d merge))) (closing d)
    closes d =
        unfold last_lines closing give go_on ◌>>=◌ ◌>>◌ in
        (flat_next (merge_line d.A.states) _ (λ merge. give (merged d merge)) _ (λ merge. assoc end (λ u. give merge) (λ merge. give (merged d merge))))

-- What a reader gives is what the next one is given.
reads_next : {X Y : Type 0} {P : X → Type 0} {Q : Y → Type 0} (r : Reader X) (k : X → Reader Y) → Reads P r → ((x : X) → P x → Reads Q (k x)) → Reads Q (r >>= k)
unfolding ◌>>=◌
reads_next r k h g line bs y l cs e = let (x, m, ds, p, q) = steps (r line bs) k e in g x (h line bs x m ds p) m ds y l cs q

reads_give : {Y : Type 0} (Q : Y → Type 0) (y : Y) → Q y → Reads Q (give y)
unfolding give
reads_give Q y h line bs z l cs e = let same : y ≡ z = cc in rw (← same) h

-- A has 32 states at most.
automaton_states : (K1 K2 K3 : Kind) (key : String) (ar : List ℕ) → Reads (λ A. A.states ≤ (row K1).greatest) (automaton K1 K2 K3 key ar)
unfolding automaton fixed
automaton_states K1 K2 K3 key ar =
    reads_next _ _ (line_read (single_number K1) (one_in K1) (row K1).key) (λ n p.
    reads_next _ _ (any_read _) (λ final u. reads_next _ _ (any_read _) (λ count u. reads_next _ _ (any_read _) (λ ts u. reads_give _ _ p.1))))

draft_states : Reads (λ d. d.A.states ≤ most_states) draft
unfolding draft row
draft_states =
    reads_next _ _ (any_read _) (λ b u. reads_next _ _ (any_read _) (λ ar u. reads_next _ _ (automaton_states States Final Trans "t" ar) (λ A few.
    reads_next _ _ (any_read _) (λ B u. reads_next _ _ (any_read _) (λ n u. reads_next _ _ (any_read _) (λ rs u. reads_give _ _ few))))))

-- A merging, packed.
pub merge_packs : (items : List ℕ) (n k : ℕ) → items ≡ padded 64 (take n items) → k ≡ classes (take n items) → ◌≡◌ {A = Merging} (record { classes = k; merge = items }) (merging_of (take n items))
unfolding merging_of
merge_packs items n k h g = λ i. record { classes = g i; merge = h i }

-- The line `merge` was read: bytes follow it, or none.
module _ (states line : ℕ) (bs : List ℕ) {merge : List ℕ} {l : ℕ} {rest : List ℕ} (e : merge_line states line bs ≡ gave merge l rest) where
  pub bytes_follow : {r : Refusal} → 0 < length rest → r.reason ≡ NoLine → r.line ≡ Some l → Stopped (last_lines states line bs) r
  unfolding last_lines number end ◌>>◌ go_on
  bytes_follow {r} h p q = record { line = l; names = q; is = then_next (merge_line states) _ e ∙ rw p (more rest h) }
    where
      more : (cs : List ℕ) → 0 < length cs → (end >> give merge) l cs ≡ refused 3 l
      more [] k = absurd (omega arith)
      more (c ∷ cs) k = refl

  pub nothing_follows : {m : Merging} → length rest ≤ 0 → m ≡ merging_of merge → Ended (last_lines states line bs) m
  unfolding last_lines end ◌>>◌ go_on give
  nothing_follows h p = record { what = merge; line = l; is = then_next (merge_line states) _ e ∙ none rest h; packs = p }
    where
      none : (cs : List ℕ) → length cs ≤ 0 → (end >> give merge) l cs ≡ gave merge l []
      none [] k = refl
      none (c ∷ cs) k = absurd (omega arith)

-- What a view answers of its tables.
abbrev pub Opening : Type 0
Opening = Result (Tables × View) Refusal

-- What is answered for a file.
module _ (file : List ℕ) where
  read_long : most_bytes < length file → Err too_long ≡ read_of (read_file file)
  unfolding read_file read_of refusal_of reason_of refusal_line
  read_long h = rw (lt-leb (length file) most_bytes h, read_file) refl

  read_as : length file ≤ most_bytes → {r : Reading PaperCertificate} → in_parts 1 file ≡ r → read_of (read_file file) ≡ read_of (whole_file r)
  unfolding read_file
  read_as fits e = rw (le-leb (length file) most_bytes fits, read_file) (ap (λ q. read_of (whole_file q)) (sym (λ i. parts_are i 1 file) ∙ e))

  read_stopped : length file ≤ most_bytes → {r : Refusal} → Stopped (in_parts 1 file) r → Err r ≡ read_of (read_file file)
  unfolding read_of whole_file said_line
  read_stopped fits {r} s = ap Err (sym (refusal_back r) ∙ ap (λ l. refusal_of (number r.reason) (said_line l)) s.names) ∙ sym (read_as fits s.is)

  -- tables that are refused
  pub opening_refused : {r : Refusal} → (most_bytes < length file → ◌≡◌ {A = Opening} (Err r) (Err too_long)) → (length file ≤ most_bytes → Stopped (draft 1 file) r)
      → Err r ≡ read_of (read_file file)
  opening_refused {r} long fits = elim (decided (leb (length file) most_bytes)) [
    | inl h ↦ let l = leb-true (length file) most_bytes h in read_stopped l (first_stopped draft _ (fits l))
    | inr h ↦
        let l = leb-false (length file) most_bytes h in
        let same : ◌≡◌ {A = Opening} (Err r) (Err too_long) = long l in
        let is : r ≡ too_long = cc in
        ap Err is ∙ read_long l
  ]

  -- tables that were read, up to c
  module _ {c : Cursor} {t : Tables} (w : Went file tables_of (draft 1 file) c t) where
    states : t.initial.states ≡ w.what.A.states
    unfolding tables_of table_of
    states = ap (λ (x : Tables). x.initial.states) w.packs

    pub few_states : t.initial.states ≤ most_states
    few_states = omega (arith, states, draft_states 1 file w.what c.line (drop c.at file) w.is)

    pub closing_refused : {r : Refusal} → Stopped (last_lines t.initial.states c.line (drop c.at file)) r → Err r ≡ read_of (read_file file)
    closing_refused s = read_stopped w.placed.fits (next_stopped draft _ w.is (first_stopped (last_lines w.what.A.states) _ (rw states at s)))

    pub all_read : {m : Merging} → Ended (last_lines t.initial.states c.line (drop c.at file)) m
        → ◌≡◌ {A = Result Certificate Refusal} (Ok (record { tables = t; merging = m })) (read_of (read_file file))
    unfolding read_of whole_file draft_of merged give
    all_read {m} g =
        (λ i. Ok (record { tables = w.packs i; merging = g.packs i }))
        ∙ sym (read_as w.placed.fits (then_next draft _ w.is ∙ then_next (last_lines w.what.A.states) _ (rw states at g.is)))

-- Tables that were read are those of a file that is not too long.
pub opened : (v w : View) (t : Tables) → (most_bytes < length v.file.now → ◌≡◌ {A = Opening} (Ok (t, w)) (Err too_long))
    → (length v.file.now ≤ most_bytes → HandedView v (Ok (t, w))) → HandedView v (Ok (t, w))
opened v w t long fits = elim (decided (leb (length v.file.now) most_bytes)) [
  | inl h ↦ fits (leb-true (length v.file.now) most_bytes h)
  | inr h ↦ let no = long (leb-false (length v.file.now) most_bytes h) in cc
]
