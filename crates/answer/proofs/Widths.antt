-- How long the seven lines are by the types of what they say: numbers of 8 bits have at most three digits, and numbers of 32 bits at most ten.
use mathlib.Core.Path.{◌≡◌}
use mathlib.Core.Logic.{inl, inr}
use mathlib.Core.List.Memᴰ
use mathlib.Core.List.{List, [], ◌∷◌, Memᴰ}
use Prim.Native.Nat.{ℕ, ◌+◌, ◌^◌, ◌≤◌, ◌<◌}
use native.Mathlib.Omega.{arith}
use lib.Dec.{eqb}
use lib.ListN.{length}
use denote.Laws.{Is}
use denote.Enum.Declared.{row}
use denote.Enum.Laws.{val}
use Rattle.paper.specs.Bytes.{bytes}
use Rattle.paper.specs.Answer.{decimal, decimals, dash, line_with, eight}
use Rattle.paper.proofs.Smallest.{decided}
use Rattle.paper.proofs.Numbers.{decimal_length}
use Rattle.paper.proofs.Bounds.{eight_length, four_classes}
use Rattle.verdicts.specs.Said.{class_then, classes_of}
use Rattle.verdicts.specs.declared.critical_pair.CriticalPair.{CriticalPair}
use Rattle.answer.specs.Shown.{shown, seven, seven_with, Says}
use Rattle.answer.specs.declared.Shown.{Shown}
use Rattle.answer.specs.declared.Shown.TheVariants.{Nothing, Number, Classes}
use Rattle.answer.specs.declared.Lines.{Lines}
use Rattle.answer.specs.contracts.Shown.{the_type}
use Rattle.answer.proofs.Shown.TheLaws.{the_laws}

-- A number of 8 bits, and one of 32 bits.
pub three : (n : ℕ) → n < 256 → length (decimal n) ≤ 3
three n h = decimal_length 2 n (omega arith)

pub ten : (n : ℕ) → n < 4_294_967_296 → length (decimal n) ≤ 10
ten n h = decimal_length 9 n (omega arith)

module _ (x : ℕ) (xs : List ℕ) where
  then_length : (n : ℕ) → length xs ≤ n → length (class_then x xs) ≤ n + 1
  unfolding class_then
  then_length n h = elim (decided (eqb x 255)) [ inl e ↦ rw (e, class_then) (omega arith) | inr e ↦ rw (e, class_then) (omega arith) ]

  then_below : (b : ℕ) → x < b → ((y : ℕ) → Memᴰ y xs → y < b) → (y : ℕ) → Memᴰ y (class_then x xs) → y < b
  unfolding class_then
  then_below b h g y m = elim (decided (eqb x 255)) [
    | inl e ↦ absurd (Memᴰ.not-nil (rw (e, class_then) at m))
    | inr e ↦ elim (Memᴰ.cases_cons (rw (e, class_then) at m)) [ inl d ↦ omega arith | inr i ↦ g y i ]
  ]

-- The classes of a critical pair, with their commas.
pub fifteen : (p : CriticalPair) → p.x0 < 256 → p.x1 < 256 → p.x2 < 256 → p.x3 < 256 → length (decimals (classes_of p)) ≤ 15
unfolding classes_of
fifteen p h0 h1 h2 h3 =
    four_classes 2 (classes_of p)
    (then_length p.x0 _ 3 (then_length p.x1 _ 2 (then_length p.x2 _ 1 (then_length p.x3 [] 0 (omega arith)))))
    (then_below p.x0 _ (10 ^ 3) (omega arith)
    (then_below p.x1 _ (10 ^ 3) (omega arith)
    (then_below p.x2 _ (10 ^ 3) (omega arith) (then_below p.x3 [] (10 ^ 3) (omega arith) (λ y m. absurd (Memᴰ.not-nil m))))))

-- What a function is told of a value that it is handed, and the longest value.
abbrev pub Typed : Shown → Type 0
Typed v = Is (row the_type) v (val the_type the_laws v ∷ [])

pub any_shown : (v : Shown) → Typed v → length (shown v) ≤ 15
unfolding shown dash bytes
any_shown Nothing g = omega arith
any_shown (Number n) g = omega (arith, ten n (omega (arith, g)))
any_shown (Classes p) g = fifteen p (omega (arith, g)) (omega (arith, g)) (omega (arith, g)) (omega (arith, g))

-- How many bytes the seven values have together; lines with at most 34 are short.
abbrev pub width : Lines → ℕ
width l = length (shown l.refusal) + length (shown l.line) + length (shown l.rule) + length (shown l.x) + length (shown l.class) + length (shown l.bad) + length (shown l.examined)

pub says_short : {l : Lines} {text : List ℕ} → seven l ≡ text → width l ≤ 34 → Says text l
unfolding eight seven seven_with line_with bytes
says_short {l} same h =
    let all = eight_length "" "" (shown l.refusal) (shown l.line) (shown l.rule) (shown l.x) (shown l.class) (shown l.bad) (shown l.examined) in
    record { says = same; short = omega (arith, all) }
