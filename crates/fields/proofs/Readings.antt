-- A line by its key's bytes is paper's line, whatever its value is judged to be: what it says, on its line.
use mathlib.Core.Path.{◌≡◌, refl, sym, ap}
use mathlib.Core.List.{List, ◌++◌}
use Prim.Native.Nat.{ℕ}
use Rattle.paper.specs.Bytes.{bytes}
use Rattle.paper.specs.Checked.{Checked, says, ◌>>=◌}
use Rattle.paper.specs.Lines.{Said, after, ended, take_line, checked_line}
use Rattle.paper.specs.Certificate.{Row, row}
use Rattle.paper.specs.Format.{at_line, line_of}
use Rattle.fields.specs.declared.rows.Kind.{Kind}
use Rattle.fields.specs.declared.rows.Kind.TheVariants.{Transition, BadTransition, Left, Right}
use Rattle.fields.specs.Line.{Fixed, key_of, kind_of, line_row}
use Rattle.fields.proofs.Steps.{bind_bind}

-- The line whose key and `=` are these bytes, with its value judged.
unfoldable pub keyed : {X : Type 0} → List ℕ → (List ℕ → Checked X) → List ℕ → Checked (Said X)
keyed key judge bs = do
  behind ← after key bs
  l ← ended behind
  x ← judge l.what
  says (record { what = x; rest = l.rest })

pub keyed_is : {X : Type 0} (r : Row) (judge : List ℕ → Checked X) (bs : List ℕ) → keyed (key_of r) judge bs ≡ checked_line r.key judge bs
unfolding checked_line take_line keyed key_of
keyed_is r judge bs = sym (bind_bind (after (bytes r.key ++ bytes "=") bs) ended _)

-- What the line with a row's key says, as a reading.
pub keyed_reads : {X : Type 0} (r : Row) (judge : List ℕ → Checked X) (line : ℕ) (bs : List ℕ) → at_line line (keyed (key_of r) judge bs) ≡ line_of r.key judge line bs
unfolding line_of
keyed_reads r judge line bs = ap (at_line line) (keyed_is r judge bs)

-- A line judged in another way that comes to the same.
pub keyed_same : {X : Type 0} (key : List ℕ) (f g : List ℕ → Checked X) → ((value : List ℕ) → f value ≡ g value) → (bs : List ℕ) → keyed key f bs ≡ keyed key g bs
keyed_same key f g h bs = λ i. keyed key (λ value. h value i) bs

-- The row of a fixed line.
pub fixed_row : (kind : Kind) → Fixed kind → line_row kind ≡ row (kind_of kind)
fixed_row Transition h = elim h [ ]
fixed_row BadTransition h = elim h [ ]
fixed_row Left h = elim h [ ]
fixed_row Right h = elim h [ ]
fixed_row _ h = refl
