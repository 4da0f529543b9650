-- Answers determine verdicts: two verdicts with the same answer are the same.
use mathlib.Core.Path.{◌≡◌, refl, sym, ap, ◌∙◌}
use mathlib.Core.Bool.{true, false}
use mathlib.Core.List.Memᴰ
use mathlib.Core.List.{List, [], ◌∷◌, ◌++◌, map, append-nil}
use mathlib.Core.Option.{Option, none, some}
use Prim.Native.Nat.{ℕ}
use native.Mathlib.Omega.{arith}
use borrow.Author.Tests.{ne_eqb}
use lib.Dec.{eqb}
use lib.ListN.{get_or}
use Rattle.paper.specs.Bytes.{bytes, LF}
use Rattle.paper.specs.Fields.{from_digits, entries}
use Rattle.paper.specs.Lines.{Without, line_ends}
use Rattle.paper.specs.Meaning.{malformed, unsuitable, critical, accepted, stopped, Verdict}
use Rattle.paper.specs.Computed.{verdict_of}
use Rattle.paper.specs.Answer.{decimal, decimals, decimal_if, dash, line_with, eight, answer, answer_of}
use Rattle.paper.proofs.Lines.{cut}
use Rattle.paper.proofs.LineCount.{ends_without}
use Rattle.paper.proofs.Numbers.{decimal_reads}
use Rattle.paper.proofs.Spelling.{commas_decimals}
use Rattle.paper.proofs.Complete.{decimal_plain, decimals_cons, entries_of, decimals_LF}

-- The values of the eight lines.
record Values : Type 0 where
  word : List ℕ
  refusal : List ℕ
  line : List ℕ
  rule : List ℕ
  x : List ℕ
  class : List ℕ
  bad : List ℕ
  examined : List ℕ

-- None of them has an LF.
record AllUnbroken (a : Values) : Type 0 where
  word : Without LF a.word
  refusal : Without LF a.refusal
  line : Without LF a.line
  rule : Without LF a.rule
  x : Without LF a.x
  class : Without LF a.class
  bad : Without LF a.bad
  examined : Without LF a.examined

abbrev text : Values → List ℕ
text a =
    line_with "verdict" a.word
    ++ (line_with "refusal" a.refusal
    ++ (line_with "line" a.line
    ++ (line_with "rule" a.rule
    ++ (line_with "x" a.x
    ++ (line_with "class" a.class
    ++ (line_with "bad" a.bad
    ++ line_with "examined" a.examined))))))

abbrev make : (w r l u x c b e : List ℕ) → Values
make w r l u x c b e = record { word = w; refusal = r; line = l; rule = u; x = x; class = c; bad = b; examined = e }

same_values : (a b : Values) → AllUnbroken a → AllUnbroken b → text a ≡ text b → a ≡ b
same_values a b p q e =
    let (e1, r1) = cut "verdict" a.word b.word _ _ p.word q.word e in
    let (e2, r2) = cut "refusal" a.refusal b.refusal _ _ p.refusal q.refusal r1 in
    let (e3, r3) = cut "line" a.line b.line _ _ p.line q.line r2 in
    let (e4, r4) = cut "rule" a.rule b.rule _ _ p.rule q.rule r3 in
    let (e5, r5) = cut "x" a.x b.x _ _ p.x q.x r4 in
    let (e6, r6) = cut "class" a.class b.class _ _ p.class q.class r5 in
    let (e7, r7) = cut "bad" a.bad b.bad _ _ p.bad q.bad r6 in
    let (e8, r8) = cut "examined" a.examined b.examined [] [] p.examined q.examined (append-nil _ ∙ r7 ∙ sym (append-nil _)) in
    rw (← e1, ← e2, ← e3, ← e4, ← e5, ← e6, ← e7, ← e8)

pub decimal_LF : (n : ℕ) → Without LF (decimal n)
decimal_LF n = decimal_plain n LF (omega arith)

dash_LF : Without LF dash
unfolding line_ends dash bytes
dash_LF = ends_without dash refl

if_LF : (o : Option ℕ) → Without LF (decimal_if o)
unfolding decimal_if
if_LF none = dash_LF
if_LF (some n) = decimal_LF n

-- What each verdict's lines say.
unfoldable values_of : Verdict → Values
values_of (malformed n l) = make (bytes "malformed") (decimal n) (decimal_if l) dash dash dash dash dash
values_of (unsuitable q p) = make (bytes "unsuitable") dash dash dash dash (decimal q) (decimal p) (decimal 0)
values_of (critical rule xs q n) = make (bytes "critical") dash dash (decimal rule) (decimals xs) (decimal q) dash (decimal n)
values_of (accepted n) = make (bytes "accepted") dash dash dash dash dash dash (decimal n)
values_of (stopped n) = make (bytes "stopped") dash dash dash dash dash dash (decimal n)

answer_text : (v : Verdict) → answer v ≡ text (values_of v)
unfolding answer eight values_of
answer_text (malformed n l) = refl
answer_text (unsuitable q p) = refl
answer_text (critical rule xs q n) = refl
answer_text (accepted n) = refl
answer_text (stopped n) = refl

unbroken : {w r l u x c b e : List ℕ} → Without LF w → Without LF r → Without LF l → Without LF u → Without LF x → Without LF c → Without LF b → Without LF e
    → AllUnbroken (make w r l u x c b e)
unbroken w r l u x c b e = record { word = w; refusal = r; line = l; rule = u; x = x; class = c; bad = b; examined = e }

unbroken_values : (v : Verdict) → AllUnbroken (values_of v)
unfolding values_of line_ends bytes
unbroken_values (malformed n l) = unbroken (ends_without (bytes "malformed") refl) (decimal_LF n) (if_LF l) dash_LF dash_LF dash_LF dash_LF dash_LF
unbroken_values (unsuitable q p) = unbroken (ends_without (bytes "unsuitable") refl) dash_LF dash_LF dash_LF dash_LF (decimal_LF q) (decimal_LF p) (decimal_LF 0)
unbroken_values (critical rule xs q n) =
    unbroken (ends_without (bytes "critical") refl) dash_LF dash_LF (decimal_LF rule) (decimals_LF xs) (decimal_LF q) dash_LF (decimal_LF n)
unbroken_values (accepted n) = unbroken (ends_without (bytes "accepted") refl) dash_LF dash_LF dash_LF dash_LF dash_LF dash_LF (decimal_LF n)
unbroken_values (stopped n) = unbroken (ends_without (bytes "stopped") refl) dash_LF dash_LF dash_LF dash_LF dash_LF dash_LF (decimal_LF n)

-- A list of numbers read back.
unfoldable list_back : List ℕ → List ℕ
list_back [] = []
list_back (b ∷ bs) = map (from_digits 0) (entries (b ∷ bs))

each_back : (ns : List ℕ) → map (from_digits 0) (map decimal ns) ≡ ns
each_back [] = refl
each_back (n ∷ ns) = rw (decimal_reads n, each_back ns)

list_back_lem : (ns : List ℕ) → list_back (decimals ns) ≡ ns
unfolding list_back decimals
list_back_lem [] = refl
list_back_lem (n ∷ ns) =
    let (b, bs, e) = decimals_cons n ns in
    let parted : entries (b ∷ bs) ≡ map decimal (n ∷ ns) = ap entries (sym e ∙ sym (commas_decimals (n ∷ ns))) ∙ entries_of decimal decimal_plain n ns in
    ap list_back e ∙ (ap (map (from_digits 0)) parted ∙ each_back (n ∷ ns))

-- A line read back: a number does not begin with a dash.
unfoldable line_back : List ℕ → Option ℕ
line_back bs = elim (eqb (get_or bs 0 0) 45) [ true ↦ none | false ↦ some (from_digits 0 bs) ]

no_dash : (bs : List ℕ) → Without 45 bs → eqb (get_or bs 0 0) 45 ≡ false
no_dash [] w = refl
no_dash (b ∷ bs) w = ne_eqb b 45 (λ e. w (Memᴰ.head (sym e)))

line_back_lem : (o : Option ℕ) → line_back (decimal_if o) ≡ o
unfolding line_back decimal_if dash bytes
line_back_lem none = refl
line_back_lem (some l) = rw (no_dash (decimal l) (decimal_plain l 45 (omega arith)), line_back) (ap some (decimal_reads l))

-- The verdict read back from the values: the word's first letter tells which.
unfoldable back : Values → Verdict
back a = elim (eqb (get_or a.word 0 0) 97) [
  | true ↦ accepted (from_digits 0 a.examined)
  | false ↦ elim (eqb (get_or a.word 0 0) 115) [
    | true ↦ stopped (from_digits 0 a.examined)
    | false ↦ elim (eqb (get_or a.word 0 0) 117) [
      | true ↦ unsuitable (from_digits 0 a.class) (from_digits 0 a.bad)
      | false ↦ elim (eqb (get_or a.word 0 0) 99) [
        | true ↦ critical (from_digits 0 a.rule) (list_back a.x) (from_digits 0 a.class) (from_digits 0 a.examined)
        | false ↦ malformed (from_digits 0 a.refusal) (line_back a.line)
      ]
    ]
  ]
]

values_back : (v : Verdict) → back (values_of v) ≡ v
unfolding back values_of bytes
values_back (malformed n l) = rw (decimal_reads n, line_back_lem l)
values_back (unsuitable q p) = rw (decimal_reads q, decimal_reads p)
values_back (critical rule xs q n) = rw (decimal_reads rule, list_back_lem xs, decimal_reads q, decimal_reads n)
values_back (accepted n) = rw (decimal_reads n)
values_back (stopped n) = rw (decimal_reads n)

-- One answer, one verdict.
pub distinct : (v w : Verdict) → answer v ≡ answer w → v ≡ w
distinct v w e =
    let same = same_values (values_of v) (values_of w) (unbroken_values v) (unbroken_values w) (sym (answer_text v) ∙ e ∙ answer_text w) in
    sym (values_back v) ∙ ap back same ∙ values_back w

-- A file's answer is the answer to a verdict only where it is the file's verdict.
pub answer_tells : (file : List ℕ) (v : Verdict) → answer_of file ≡ answer v → verdict_of file ≡ v
unfolding answer_of
answer_tells file v e = distinct (verdict_of file) v e

-- Two files with the same answer have the same verdict.
pub same_answer : (file other : List ℕ) → answer_of file ≡ answer_of other → verdict_of file ≡ verdict_of other
unfolding answer_of
same_answer file other e = distinct (verdict_of file) (verdict_of other) e
