-- One part after another: what a line or a block said, put before paper's next reader. Handed over is one thing only.
use mathlib.Core.Path.{◌≡◌, sym, ap, ◌∙◌}
use mathlib.Core.List.{List}
use Prim.Native.Nat.{ℕ}
use lib.ListN.{drop}
use Rattle.std.specs.declared.result.Result.{Result}
use Rattle.std.specs.declared.result.Result.TheVariants.{Ok, Err}
use Rattle.std.specs.declared.option.Option.TheVariants.{Some}
use Rattle.std.specs.Result.{IsErrAnd}
use Rattle.std.proofs.lemmas.Result.{err_from_is_err_and}
use Rattle.paper.specs.Certificate.{Kind, row}
use Rattle.paper.specs.Tables.{single_number}
use Rattle.paper.specs.Format.{Reading, refused, gave, Reader, go_on, ◌>>=◌, fixed}
use Rattle.paper.proofs.Admitted.{InRow, one_in, line_read}
use Rattle.verdicts.specs.declared.refusals.Refusal.{Refusal}
use Rattle.verdicts.specs.Refused.{number}
use Rattle.fields.specs.declared.cursor.Cursor.{Cursor}
use Rattle.fields.specs.Said.{Placed, said_by, Whole, Answer, FieldLine}
use Rattle.fields.proofs.Fixed.{same_gave, same_refused, not_both}
use Rattle.blocks.specs.Handed.{Went, Stopped, Handed}

-- A line's answer: a refusal, or what was read and the next line.
module _ {A X : Type 0} {say : A → X} {P : A → Type 0} {file : List ℕ} {line : ℕ} {reading : Reading X} where
  pub answer_stopped : {r : Refusal} → Answer say P file line reading (Err r) → Stopped reading r
  unfolding said_by Whole
  answer_stopped l = record { line = line; names = l.whole; is = sym l.said }

  module _ {x : A} {c : Cursor} (l : Answer say P file line reading (Ok (x, c))) where
    pub answer_read : reading ≡ gave (say x) c.line (drop c.at file)
    unfolding said_by
    answer_read = sym l.said

    pub answer_whole : P x
    unfolding Whole
    answer_whole = l.whole.0

    pub answer_placed : Placed file c
    unfolding Whole
    answer_placed = l.whole.1

-- A number that was read is in its row's range.
pub number_range : (K : Kind) {file : List ℕ} (c : Cursor) {d : Cursor} {v : ℕ} → FieldLine file K c (Ok (v, d)) → InRow K v
unfolding fixed
number_range K {file} c {d} {v} l = line_read (single_number K) (one_in K) (row K).key c.line (drop c.at file) v d.line (drop d.at file) (answer_read l)

-- Two readers, one after the other.
module _ {X Y : Type 0} (reader : Reader X) (next : X → Reader Y) {line : ℕ} {bs : List ℕ} where
  pub then_stop : {k l : ℕ} → reader line bs ≡ refused k l → (reader >>= next) line bs ≡ refused k l
  unfolding ◌>>=◌ go_on
  then_stop e = rw e

  pub first_stopped : {r : Refusal} → Stopped (reader line bs) r → Stopped ((reader >>= next) line bs) r
  first_stopped s = record { line = s.line; names = s.names; is = then_stop s.is }

  module _ {x : X} {l : ℕ} {cs : List ℕ} (e : reader line bs ≡ gave x l cs) where
    pub then_next : (reader >>= next) line bs ≡ next x l cs
    unfolding ◌>>=◌ go_on
    then_next = rw e

    pub next_stopped : {r : Refusal} → Stopped (next x l cs) r → Stopped ((reader >>= next) line bs) r
    next_stopped s = record { line = s.line; names = s.names; is = then_next ∙ s.is }

    pub next_went : {T : Type 0} {file : List ℕ} {pack : Y → T} {c : Cursor} {packed : T} → Went file pack (next x l cs) c packed → Went file pack ((reader >>= next) line bs) c packed
    next_went w = record { what = w.what; is = then_next ∙ w.is; packs = w.packs; placed = w.placed }

-- What is handed over for a reading is determined.
pub one_handed : {X T : Type 0} (file : List ℕ) (pack : X → T) (reading : Reading X) (a b : Result (T × Cursor) Refusal) → Handed file pack reading a → Handed file pack reading b → a ≡ b
one_handed file pack reading (Ok (d, c)) (Ok (e, k)) h g =
    let (x, p) = same_gave file h.what g.what c k h.placed g.placed (sym h.is ∙ g.is) in
    let packed : d ≡ e = h.packs ∙ ap pack x ∙ sym g.packs in
    λ i. Ok (packed i, p i)
one_handed file pack reading (Ok (d, c)) (Err r) h g = absurd (not_both _ _ _ _ _ (sym g.is ∙ h.is))
one_handed file pack reading (Err r) (Ok (d, c)) h g = absurd (not_both _ _ _ _ _ (sym h.is ∙ g.is))
one_handed file pack reading (Err r) (Err s) h g =
    let same : refused (number r.reason) h.line ≡ refused (number s.reason) g.line = sym h.is ∙ g.is in
    let lines : h.line ≡ g.line = cc in
    ap Err (same_refused h.line r s (rw (← lines) at same) (h.names ∙ ap Some lines ∙ sym g.names))

-- What the exit of a `?` hands over.
pub exits : {X T : Type 0} {reading : Reading X} (file : List ℕ) (pack : X → T) (a : Result (T × Cursor) Refusal) {r : Refusal} → IsErrAnd a (λ e. e ≡ r) → Stopped reading r
    → Handed file pack reading a
exits file pack a e s = let p = err_from_is_err_and a e in rw (p.1, p.2) s
