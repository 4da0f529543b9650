-- A line fixes what the code answers: two answers that a contract allows are equal, zeros included.
use mathlib.Core.Path.{◌≡◌, sym, ap, ◌∙◌}
use mathlib.Core.List.{List}
use Prim.Native.Nat.{ℕ, ◌≤◌}
use native.Mathlib.Omega.{arith}
use lib.ListN.{length, drop, length-drop}
use lib.Seq.{length-take-le}
use Rattle.std.specs.declared.result.Result.{Result}
use Rattle.std.specs.declared.result.Result.TheVariants.{Ok, Err}
use Rattle.theory.specs.Automaton.{Transition}
use Rattle.paper.specs.Certificate.{Kind as PaperKind}
use Rattle.paper.specs.Format.{Reading, refused, gave}
use Rattle.verdicts.specs.declared.refusals.Refusal.{Refusal}
use Rattle.verdicts.specs.Refused.{number, reason_of}
use Rattle.verdicts.proofs.Told.{reason_back}
use Rattle.fields.specs.declared.rows.Kind.{Kind}
use Rattle.fields.specs.declared.cursor.Cursor.{Cursor}
use Rattle.fields.specs.declared.lists.Items.{Items}
use Rattle.fields.specs.declared.arrows.Trans.{Trans}
use Rattle.fields.specs.Listed.{ascending}
use Rattle.fields.specs.Padded.{padded}
use Rattle.fields.proofs.Whole.{padded_length}
use Rattle.fields.specs.Said.{Placed, said_by, Whole, Answer, FieldLine, WholeList, said_items, Listing, places, moved, Unused, ArrowLine}

-- A place in the file is known by its line's number and by what stands from it on.
pub same_place : (file : List ℕ) (c d : Cursor) → c.at ≤ length file → d.at ≤ length file → c.line ≡ d.line → drop c.at file ≡ drop d.at file → c ≡ d
same_place file c d h g l e =
    let p : c.at ≡ d.at = omega (arith, length-drop c.at file, length-drop d.at file, ap length e) in
    λ i. record { at = p i; line = l i }

-- Two readings of one line that both gave something: the same is said, and the next place is the same.
pub same_gave : {X : Type 0} (file : List ℕ) (x y : X) (c d : Cursor) → Placed file c → Placed file d
    → gave x c.line (drop c.at file) ≡ gave y d.line (drop d.at file) → (x ≡ y) × (c ≡ d)
same_gave file x y c d p q e =
    let w : x ≡ y = cc in
    let l : c.line ≡ d.line = cc in
    let r : drop c.at file ≡ drop d.at file = cc in
    (w, same_place file c d p.inside q.inside l r)

-- A refusal is no reading.
pub not_both : {X : Type 0} (n line next : ℕ) (x : X) (rest : List ℕ) → refused n line ≡ gave x next rest → ⊥
not_both n line next x rest e = cc

-- Two refusals by one number on one line.
pub same_refused : {X : Type 0} (line : ℕ) (r s : Refusal) → ◌≡◌ {A = Reading X} (refused (number r.reason) line) (refused (number s.reason) line) → r.line ≡ s.line → r ≡ s
same_refused line r s e l =
    let n : number r.reason ≡ number s.reason = cc in
    let p : r.reason ≡ s.reason = sym (reason_back r.reason) ∙ ap reason_of n ∙ reason_back s.reason in
    λ i. record { reason = p i; line = l i }

-- Where what is read is known by what it says, so is the answer.
pub one_answer : {A X : Type 0} (say : A → X) (P : A → Type 0) → ((x y : A) → P x → P y → say x ≡ say y → x ≡ y)
    → (file : List ℕ) (line : ℕ) (reading : Reading X) (r s : Result (A × Cursor) Refusal)
    → Answer say P file line reading r → Answer say P file line reading s → r ≡ s
one_answer {A} {X} say P known file line reading r s p q = go r s (p.said ∙ sym q.said) p.whole q.whole
  where
    go : (r s : Result (A × Cursor) Refusal) → said_by say file line r ≡ said_by say file line s → Whole P file line r → Whole P file line s → r ≡ s
    go (Ok (x, c)) (Ok (y, d)) e v w =
        unfold said_by Whole in
        (let (h, place) = same_gave file (say x) (say y) c d v.1 w.1 e in
        ap (λ (z : A). Ok (z, c)) (known x y v.0 w.0 h) ∙ ap (λ (z : Cursor). Ok (y, z)) place)
    go (Ok (x, c)) (Err s) e v w = unfold said_by in cc
    go (Err r) (Ok (y, d)) e v w = unfold said_by in cc
    go (Err r) (Err s) e v w = unfold said_by Whole in (ap Err (same_refused line r s e (v ∙ sym w)))

-- One number.
pub one_field : (file : List ℕ) (K : PaperKind) (c : Cursor) (f g : Result (ℕ × Cursor) Refusal) → FieldLine file K c f → FieldLine file K c g → f ≡ g
one_field file K c = one_answer (λ (v : ℕ). v) (λ v. Unit {0}) (λ x y a b e. e) file c.line _

-- A list of numbers.
same_items : (m : ℕ) (x y : Items) → WholeList m x → WholeList m y → said_items x ≡ said_items y → x ≡ y
same_items m x y v w e =
    let items : x.items ≡ y.items = v.behind ∙ ap (padded 64) e ∙ sym w.behind in
    let count : x.count ≡ y.count = sym (length_is x v) ∙ ap length e ∙ length_is y w in
    let flag : x.ascending ≡ y.ascending = v.order ∙ ap ascending e ∙ sym w.order in
    λ i. record { items = items i; count = count i; ascending = flag i }
  where
    length_is : (z : Items) → WholeList m z → length (said_items z) ≡ z.count
    length_is z w = length-take-le z.count z.items (omega (arith, w.few, ap length w.behind, padded_length 64 (said_items z)))

pub one_listing : (file : List ℕ) (m line : ℕ) (reading : Reading (List ℕ)) (a b : Result (Items × Cursor) Refusal)
    → Listing file m line reading a → Listing file m line reading b → a ≡ b
one_listing file m = one_answer said_items (WholeList m) (same_items m) file

-- A transition.
same_trans : (arities : List ℕ) (t u : Trans) → Unused arities t → Unused arities u → moved arities t ≡ moved arities u → t ≡ u
unfolding moved
same_trans arities t u p q e =
    let f : t.symbol ≡ u.symbol = ap (λ (m : Transition). m.symbol) e in
    let g : t.target ≡ u.target = ap (λ (m : Transition). m.target) e in
    let l : places t ≡ places u = sym p ∙ ap (λ (m : Transition). padded 3 m.arguments) e ∙ q in
    let a : t.a ≡ u.a = cc in
    let b : t.b ≡ u.b = cc in
    let c : t.c ≡ u.c = cc in
    λ i. record { symbol = f i; a = a i; b = b i; c = c i; target = g i }

pub one_arrow : (file arities : List ℕ) (kind : Kind) (states : ℕ) (c : Cursor) (f g : Result (Trans × Cursor) Refusal)
    → ArrowLine file arities kind states c f → ArrowLine file arities kind states c g → f ≡ g
one_arrow file arities kind states c = one_answer (moved arities) (Unused arities) (same_trans arities) file c.line _
