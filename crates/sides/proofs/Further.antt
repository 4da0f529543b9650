-- A line whose saying goes through one more judgement; and an answer about a line, taken apart and put together.
use mathlib.Core.Path.{◌≡◌, refl, sym}
use mathlib.Core.Bool.{Bool, true, false}
use mathlib.Core.List.{List}
use Prim.Native.Nat.{ℕ, suc}
use Prim.Native.String.{String}
use lib.ListN.{drop}
use Rattle.std.specs.Prelude.{Some, Ok, Err}
use Rattle.paper.specs.Checked.{Checked, fault, says, ◌>>=◌, ◌>>◌, ◌unless◌}
use Rattle.paper.specs.Lines.{Said, take_line, checked_line}
use Rattle.paper.specs.Format.{Reading, refused, gave, at_line, line_of}
use Rattle.verdicts.specs.declared.refusals.Refusal.{Refusal}
use Rattle.verdicts.specs.Refused.{number}
use Rattle.fields.specs.declared.cursor.Cursor.{Cursor}
use Rattle.fields.specs.Said.{Placed, said_by, Whole, Answer}

-- What comes of a line's reading when what it gave is judged further.
unfoldable pub further : {X Y : Type 0} → (X → Checked Y) → (line : ℕ) → Reading X → Reading Y
further next line (refused n l) = refused n l
further next line (gave x l rest) = elim (next x) [ fault n ↦ refused n line | says y ↦ gave y l rest ]

pub line_further : {X Y : Type 0} (key : String) (judge : List ℕ → Checked X) (next : X → Checked Y) (line : ℕ) (bs : List ℕ)
    → line_of key (λ value. judge value >>= next) line bs ≡ further next line (line_of key judge line bs)
unfolding line_of checked_line at_line further ◌>>=◌
line_further {X} {Y} key judge next line bs = line_more (take_line key bs)
  where
    said_more : (x : X) (rest : List ℕ) (k : Checked Y) → next x ≡ k → at_line line (k >>= (λ y. says (record { what = y; rest = rest }))) ≡ further next line (gave x (suc line) rest)
    said_more x rest (fault n) e = rw (e, further)
    said_more x rest (says y) e = rw (e, further)

    judged_more : (rest : List ℕ) (k : Checked X)
        → at_line line ((k >>= next) >>= (λ y. says (record { what = y; rest = rest }))) ≡ further next line (at_line line (k >>= (λ x. says (record { what = x; rest = rest }))))
    judged_more rest (fault n) = refl
    judged_more rest (says x) = said_more x rest (next x) refl

    line_more : (j : Checked (Said (List ℕ)))
        → at_line line (j >>= (λ l. (judge l.what >>= next) >>= (λ y. says (record { what = y; rest = l.rest }))))
        ≡ further next line (at_line line (j >>= (λ l. judge l.what >>= (λ x. says (record { what = x; rest = l.rest })))))
    line_more (fault n) = refl
    line_more (says l) = judged_more l.rest (judge l.what)

-- One more test, whose failing has a number.
module _ {X : Type 0} (number : ℕ) (test : X → Bool) (line : ℕ) (x : X) (l : ℕ) (rest : List ℕ) where
  pub test_fails : test x ≡ false → further (λ y. number unless test y >> says y) line (gave x l rest) ≡ refused number line
  unfolding further ◌unless◌ ◌>>◌
  test_fails e = rw (e, further)

  pub test_passes : test x ≡ true → further (λ y. number unless test y >> says y) line (gave x l rest) ≡ gave x l rest
  unfolding further ◌unless◌ ◌>>◌
  test_passes e = rw (e, further)

-- An answer about a line.
module _ {A X : Type 0} {say : A → X} {P : A → Type 0} {file : List ℕ} {line : ℕ} {reading : Reading X} where
  pub gave_it : {x : A} {c : Cursor} → Answer say P file line reading (Ok (x, c)) → (reading ≡ gave (say x) c.line (drop c.at file)) × P x × Placed file c
  unfolding said_by Whole
  gave_it a = (sym a.said, a.whole.0, a.whole.1)

  pub whole_it : {x : A} {c : Cursor} → Answer say P file line reading (Ok (x, c)) → P x
  whole_it a = (gave_it a).1

  pub refused_it : {e : Refusal} → Answer say P file line reading (Err e) → (reading ≡ refused (number e.reason) line) × (e.line ≡ Some line)
  unfolding said_by Whole
  refused_it a = (sym a.said, a.whole)

  pub gives : (x : A) (c : Cursor) → reading ≡ gave (say x) c.line (drop c.at file) → P x → Placed file c → Answer say P file line reading (Ok (x, c))
  unfolding said_by Whole
  gives x c e p d = record { said = sym e; whole = (p, d) }

  pub refuses : (e : Refusal) → reading ≡ refused (number e.reason) line → e.line ≡ Some line → Answer say P file line reading (Err e)
  unfolding said_by Whole
  refuses x e l = record { said = sym e; whole = l }
