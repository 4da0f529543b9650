-- Lines counted by their LFs.
use mathlib.Core.Path.{◌≡◌, refl, sym, ap, ◌∙◌}
use mathlib.Core.Logic.{◌⊎◌, inl, inr}
use mathlib.Core.List.Memᴰ
use mathlib.Core.List.{List, [], ◌∷◌, ◌++◌, append_assoc, append-nil}
use Prim.Native.Nat.{ℕ, suc, ◌+◌}
use Prim.Native.String.{String}
use native.Mathlib.Omega.{arith}
use lib.Dec.{eqb}
use borrow.Author.Tests.{eqb-false}
use Rattle.theory.proofs.Tests.{equal_iff}
use Rattle.paper.specs.Bytes.{bytes, LF}
use Rattle.paper.specs.Certificate.{Kind, Budget, Arities, States, Final, Trans, BadStates, BadFinal, BadTrans, Rules, Merge, row}
use Rattle.paper.specs.Answer.{line_with}
use Rattle.paper.specs.Lines.{Without, line_ends}
use Rattle.paper.proofs.Smallest.{decided}

-- The bytes are whole lines: none, or the last byte is an LF.
abbrev pub WholeLines : List ℕ → Type 0
WholeLines bs = (bs ≡ []) ⊎ ((cs : List ℕ) × (cs ++ (LF ∷ []) ≡ bs))

-- Of the bytes bs, which begin line number, the part rest begins line L: before it there are whole lines, and as many as the numbers differ by.
pub record Begin (number : ℕ) (bs : List ℕ) (L : ℕ) (rest : List ℕ) : Type 0 where
  pub before : List ℕ
  pub parts : before ++ rest ≡ bs
  pub whole : WholeLines before
  pub count : number + line_ends before ≡ L

ends_append : (xs bs : List ℕ) → line_ends (xs ++ bs) ≡ line_ends xs + line_ends bs
unfolding line_ends
ends_append [] bs = omega arith
ends_append (a ∷ xs) bs = elim (decided (eqb a LF)) [ inl h ↦ rw (h, line_ends) (omega (arith, ends_append xs bs)) | inr h ↦ rw (h, line_ends) (ends_append xs bs) ]

ends_none : (bs : List ℕ) → Without LF bs → line_ends bs ≡ 0
unfolding line_ends
ends_none [] w = refl
ends_none (b ∷ bs) w = elim (decided (eqb b LF)) [
  | inl h ↦ absurd (w (Memᴰ.head (sym ((equal_iff b LF).0 h))))
  | inr h ↦ rw (h, line_ends) (ends_none bs (λ m. w (Memᴰ.tail m)))
]

pub ends_without : (bs : List ℕ) → line_ends bs ≡ 0 → Without LF bs
unfolding line_ends
ends_without [] e m = elim m [ ]
ends_without (b ∷ bs) e m = elim (decided (eqb b LF)) [
  | inl h ↦ omega (arith, rw (h, line_ends) at e)
  | inr h ↦ elim (Memᴰ.cases_cons m) [ inl s ↦ eqb-false b LF h (sym s) | inr k ↦ ends_without bs (rw (h, line_ends) at e) k ]
]

-- A key without LF.
abbrev pub Unbroken : String → Type 0
Unbroken key = line_ends (bytes key) ≡ 0

pub row_plain : (kind : Kind) → Unbroken (row kind).key
unfolding row bytes line_ends
row_plain Budget = refl
row_plain Arities = refl
row_plain States = refl
row_plain Final = refl
row_plain Trans = refl
row_plain BadStates = refl
row_plain BadFinal = refl
row_plain BadTrans = refl
row_plain Rules = refl
row_plain Merge = refl

pub letter_plain : Unbroken "t" × Unbroken "u" × Unbroken "l" × Unbroken "r"
unfolding bytes line_ends
letter_plain = (refl, refl, refl, refl)

pub begin_here : (number : ℕ) (bs : List ℕ) → Begin number bs number bs
unfolding line_ends
begin_here number bs = record { before = []; parts = refl; whole = inl refl; count = omega arith }

pub begin_line : (key : String) {value rest bs : List ℕ} (number : ℕ) → Unbroken key → line_with key value ++ rest ≡ bs → Without LF value → Begin number bs (suc number) rest
unfolding line_with line_ends bytes
begin_line key {value} {rest} number plain e w = record {
  before = line_with key value;
  parts = e;
  whole = inr (bytes key ++ (bytes "=" ++ value), simp append_assoc);
  count = omega (arith, ends_append (bytes key) (bytes "=" ++ (value ++ (LF ∷ []))), ends_append value (LF ∷ []), ends_none value w);
}

whole_append : (xs bs : List ℕ) → WholeLines xs → WholeLines bs → WholeLines (xs ++ bs)
whole_append xs bs v (inl e) = elim v [ inl d ↦ inl (rw (d, e)) | inr (cs, d) ↦ inr (cs, d ∙ rw (e, append-nil)) ]
whole_append xs bs v (inr (cs, e)) = inr (xs ++ cs, append_assoc xs cs (LF ∷ []) ∙ ap (λ l. xs ++ l) e)

pub begin_on : {number L M : ℕ} {bs cs ds : List ℕ} → Begin number bs L cs → Begin L cs M ds → Begin number bs M ds
begin_on {ds = ds} a b = record {
  before = a.before ++ b.before;
  parts = append_assoc a.before b.before ds ∙ (ap (λ l. a.before ++ l) b.parts ∙ a.parts);
  whole = whole_append a.before b.before a.whole b.whole;
  count = omega (arith, ends_append a.before b.before);
}
