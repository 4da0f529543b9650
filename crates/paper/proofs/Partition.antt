-- One partition has one line: two lines that are numbered in order and say the same partition are the same.
use mathlib.Core.Path.{◌≡◌, refl, sym, ◌∙◌}
use mathlib.Core.Bool.{true, and-eq-true_iff}
use mathlib.Core.List.{List, [], ◌∷◌, ◌++◌, append_assoc}
use Prim.Native.Nat.{ℕ, suc, ◌+◌, ◌≤◌, ◌<◌, max}
use native.Mathlib.Omega.{arith}
use native.Mathlib.Decide.{dec_lt}
use lib.Dec.{leb}
use lib.ListN.{length, get_or, length-append, get_or-append}
use lib.Seq.{get_or-append_seam}
use borrow.Author.Tests.{leb-true}
use Rattle.paper.specs.Tables.{numbered}
use Rattle.paper.specs.WellFormed.{Numbered, SamePartition}
use Rattle.paper.proofs.Words.{numbered_exact}

-- The classes below k, and no others, are in use.
record Used (ps : List ℕ) (k : ℕ) : Type 0 where
  member : (c : ℕ) → c < k → (i : ℕ) × (i < length ps) × (get_or ps i 0 ≡ c)

-- A class that is in use is the same in both.
old : (ps : List ℕ) (c d : ℕ) (cs ds : List ℕ) → SamePartition (ps ++ (c ∷ cs)) (ps ++ (d ∷ ds)) → (i : ℕ) → i < length ps → get_or ps i 0 ≡ c → c ≡ d
old ps c d cs ds w i h e =
    let long : length (ps ++ (c ∷ cs)) ≡ length ps + suc (length cs) = length-append ps (c ∷ cs) in
    let here = (w.same i (length ps) (omega arith) (omega arith)).0 (get_or-append ps (c ∷ cs) 0 i h ∙ (e ∙ sym (get_or-append_seam ps c cs 0))) in
    sym e ∙ (sym (get_or-append ps (d ∷ ds) 0 i h) ∙ (here ∙ get_or-append_seam ps d ds 0))

turned : {cs ds : List ℕ} → SamePartition cs ds → SamePartition ds cs
turned {cs} {ds} w = record { count = sym w.count; same = λ i j h l. let (to, from) = w.same i j (omega (arith, w.count)) (omega (arith, w.count)) in (from, to) }

next : (ps : List ℕ) (k c : ℕ) → c ≤ k → Used ps k → Used (ps ++ (c ∷ [])) (max k (suc c))
next ps k c h u = record {
  member = λ d l. elim (dec_lt d k) [
    | yes m ↦ let (i, j, e) = u.member d m in (i, omega (arith, length-append ps (c ∷ [])), get_or-append ps (c ∷ []) 0 i j ∙ e)
    | no m ↦ let same : c ≡ d = omega arith in (length ps, omega (arith, length-append ps (c ∷ [])), get_or-append_seam ps c [] 0 ∙ same)
  ];
}

same_lines : (ps : List ℕ) (k : ℕ) → Used ps k → (cs ds : List ℕ) → numbered k cs ≡ true → numbered k ds ≡ true → SamePartition (ps ++ cs) (ps ++ ds) → cs ≡ ds
unfolding numbered
same_lines ps k u [] [] n m w = refl
same_lines ps k u [] (d ∷ ds) n m w = absurd (omega (arith, w.count, length-append ps [], length-append ps (d ∷ ds)))
same_lines ps k u (c ∷ cs) [] n m w = absurd (omega (arith, w.count, length-append ps [], length-append ps (c ∷ cs)))
same_lines ps k u (c ∷ cs) (d ∷ ds) n m w =
    let (a, b) = (and-eq-true_iff (leb c k) (numbered (max k (suc c)) cs)).0 n in
    let (e, f) = (and-eq-true_iff (leb d k) (numbered (max k (suc d)) ds)).0 m in
    let low = leb-true c k a in
    let same : c ≡ d = elim (dec_lt c k) [
      | yes h ↦ let (i, l, g) = u.member c h in old ps c d cs ds w i l g
      | no h ↦ elim (dec_lt d k) [
        | yes l ↦ let (i, j, g) = u.member d l in sym (old ps d c ds cs (turned w) i j g)
        | no l ↦ omega (arith, leb-true d k e)
      ]
    ] in
    let rest : SamePartition ((ps ++ (c ∷ [])) ++ cs) ((ps ++ (c ∷ [])) ++ ds) = rw (append_assoc ps (c ∷ []) cs, append_assoc ps (c ∷ []) ds) (rw (← same) at w) in
    let tail = same_lines (ps ++ (c ∷ [])) (max k (suc c)) (next ps k c low u) cs ds b (rw (← same) at f) rest in
    cc

-- One partition has one line.
pub one_line : (cs ds : List ℕ) → Numbered cs → Numbered ds → SamePartition cs ds → cs ≡ ds
one_line cs ds n m w = same_lines [] 0 (record { member = λ c h. absurd (omega arith) }) cs ds ((numbered_exact cs).1 n) ((numbered_exact ds).1 m) w
