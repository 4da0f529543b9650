-- A certificate file, read line by line: the first faulty line refuses it.
use Rattle.std.specs.Prelude.{true, false, List, [], ◌∷◌, ℕ, zero, suc, ◌≤◌, leb, length}
use Rattle.std.proofs.Math.Option.{Option, none, some}
use Prim.Native.String.{String}
use Rattle.theory.specs.Rewriting.{Rule}
use Rattle.paper.specs.Limits.{most_bytes, most_lines}
use Rattle.paper.specs.Checked.{Checked, fault, says}
use Rattle.paper.specs.Lines.{Said, checked_line}
use Rattle.paper.specs.Certificate.{Certificate, Kind, Budget, Arities, States, Final, Trans, BadStates, BadFinal, BadTrans, Rules, Merge, row}
use Rattle.paper.specs.Tables.{single_number, arity_list, final_list, transition, class_list}
use Rattle.paper.specs.Sides.{left_side, right_side}

-- What reading gives: a refusal on a line, or x with the next line's number and the bytes that are left.
pub data Reading (X : Type 0) : Type 0 where
  refused : (number line : ℕ) → Reading X
  gave : X → (line : ℕ) → (rest : List ℕ) → Reading X

-- A reader goes on from a line's number and the bytes from that line on.
abbrev pub Reader : Type 0 → Type 0
Reader X = ℕ → List ℕ → Reading X

infixl 20 ◌>>=◌ ◌>>◌
-- Go on after a reading.
unfoldable pub go_on : {X Y : Type 0} → Reading X → (X → Reader Y) → Reading Y
go_on (refused number line) next = refused number line
go_on (gave x line rest) next = next x line rest

-- One reader after another.
unfoldable pub ◌>>=◌ : {X Y : Type 0} → Reader X → (X → Reader Y) → Reader Y
◌>>=◌ reader next line rest = go_on (reader line rest) next

unfoldable pub ◌>>◌ : {X Y : Type 0} → Reader X → Reader Y → Reader Y
◌>>◌ reader next line rest = go_on (reader line rest) (λ x. next)

-- Read nothing and give x.
unfoldable pub give : {X : Type 0} → X → Reader X
give x line rest = gave x line rest

-- What a line says, on its line.
unfoldable pub at_line : {X : Type 0} → ℕ → Checked (Said X) → Reading X
at_line line (fault number) = refused number line
at_line line (says s) = gave s.what (suc line) s.rest

-- The line with this key, judged.
unfoldable pub line_of : {X : Type 0} → String → (List ℕ → Checked X) → Reader X
line_of key judge line rest = at_line line (checked_line key judge rest)

-- A fixed line, by its kind.
unfoldable pub fixed : {X : Type 0} → Kind → (Kind → List ℕ → Checked X) → Reader X
fixed kind judge = line_of (row kind).key (judge kind)

-- That many readings, one after another.
unfoldable pub times : {X : Type 0} → ℕ → Reader X → Reader (List X)
times zero reader = give []
times (suc n) reader = do
  x ← reader
  xs ← times n reader
  give (x ∷ xs)

-- A rule: a line `l=term` and a line `r=term`.
unfoldable pub rule : List ℕ → Reader Rule
rule arities = do
  l ← line_of "l" (left_side arities)
  r ← line_of "r" (right_side arities l)
  give (record { left = l; right = r })

-- Nothing after the last line.
unfoldable pub end : Reader (Unit {0})
end line [] = gave tt line []
end line (b ∷ bs) = refused 3 line

-- The lines in their fixed order.
unfoldable pub certificate : Reader Certificate
certificate = do
  budget ← fixed Budget single_number
  arities ← fixed Arities (λ kind. arity_list)
  n ← fixed States single_number
  final ← fixed Final (λ kind. final_list kind n)
  count ← fixed Trans single_number
  ts ← times count (line_of "t" (transition arities n))
  m ← fixed BadStates single_number
  badfinal ← fixed BadFinal (λ kind. final_list kind m)
  badcount ← fixed BadTrans single_number
  us ← times badcount (line_of "u" (transition arities m))
  rulecount ← fixed Rules single_number
  rules ← times rulecount (rule arities)
  merge ← fixed Merge (λ kind. class_list n)
  end
  give (record {
    budget = budget;
    arities = arities;
    A = record { states = n; transitions = ts; final = final };
    B = record { states = m; transitions = us; final = badfinal };
    rules = rules;
    merge = merge;
  })

-- A file is malformed, by a number and perhaps a line, or holds a certificate.
pub data File : Type 0 where
  unreadable : (number : ℕ) → (line : Option ℕ) → File
  holds : Certificate → File

-- A line's number; 0 is no line.
unfoldable pub line_at : ℕ → Option ℕ
line_at zero = none
line_at (suc n) = some (suc n)

-- A number for a line; 0 for none.
unfoldable pub line_number : Option ℕ → ℕ
line_number none = 0
line_number (some n) = n

-- How a file is refused: by 2 on no line, or by a number from 3 to 11 on a line, counted from 1, at most one behind the last that there may be.
pub data Refusal : ℕ → Option ℕ → Type 0 where
  too_long : Refusal 2 none
  on_line : {number line : ℕ} → 3 ≤ number → number ≤ 11 → 1 ≤ line → line ≤ suc most_lines → Refusal number (some line)

-- The whole file's reading.
unfoldable pub whole_file : Reading Certificate → File
whole_file (refused number line) = unreadable number (some line)
whole_file (gave c line rest) = holds c

-- 2: a file above 16,384 bytes, on no line; else the first faulty line, and on that line the smallest number.
unfoldable pub read_file : List ℕ → File
read_file file = elim (leb (length file) most_bytes) [ true ↦ whole_file (certificate 1 file) | false ↦ unreadable 2 none ]
