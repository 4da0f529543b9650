-- The reader's tests of final states and of classes are the scope's words: entries ascend, classes are numbered as they come.
use mathlib.Core.Path.{◌≡◌, refl}
use mathlib.Core.Logic.{◌⊎◌, inl, inr, ◌↔◌}
use mathlib.Core.Bool.{true, and-eq-true_iff}
use mathlib.Core.List.{List, [], ◌∷◌}
use Prim.Native.Nat.{ℕ, zero, suc, ◌≤◌, ◌<◌, max}
use native.Mathlib.Omega.{arith}
use native.Mathlib.Decide.{dec_le}
use lib.Dec.{leb}
use lib.ListN.{length, get_or}
use borrow.Author.Tests.{leb-true, le-leb}
use Rattle.paper.specs.Tables.{ascending, numbered}
use Rattle.paper.specs.WellFormed.{Ascends, Numbered}

-- From n on: the first entry is at least n, and each is below the next.
ascends_from : (n : ℕ) (qs : List ℕ) → ascending n qs ≡ true → ((0 < length qs) → n ≤ get_or qs 0 0) × Ascends qs
unfolding ascending
ascends_from n [] e = (λ h. absurd (omega arith), record { below = λ i h. absurd (omega arith) })
ascends_from n (q ∷ qs) e =
    let (l, r) = (and-eq-true_iff (leb n q) (ascending (suc q) qs)).0 e in
    let (first, rest) = ascends_from (suc q) qs r in
    (λ h. leb-true n q l, record { below = next first rest })
  where
    next : ((0 < length qs) → suc q ≤ get_or qs 0 0) → Ascends qs → (i : ℕ) → suc i < length (q ∷ qs) → get_or (q ∷ qs) i 0 < get_or (q ∷ qs) (suc i) 0
    next first rest zero h = omega (arith, first (omega arith))
    next first rest (suc i) h = rest.below i (omega arith)

ascending_from : (n : ℕ) (qs : List ℕ) → ((0 < length qs) → n ≤ get_or qs 0 0) → Ascends qs → ascending n qs ≡ true
unfolding ascending
ascending_from n [] f w = refl
ascending_from n (q ∷ qs) f w =
    (and-eq-true_iff (leb n q) (ascending (suc q) qs)).1
    (le-leb n q (f (omega arith)), ascending_from (suc q) qs (λ h. w.below 0 (omega arith)) (record { below = λ i h. w.below (suc i) (omega arith) }))

-- The test `ascending` passes exactly where each entry is below the next.
pub ascending_exact : (qs : List ℕ) → (ascending 0 qs ≡ true) ↔ Ascends qs
ascending_exact qs = (λ e. (ascends_from 0 qs e).1, ascending_from 0 qs (λ h. omega arith))

-- Each entry is below k, the number of classes before the list, or at most k, or at most one more than an entry before it in the list.
abbrev Next : ℕ → List ℕ → Type 0
Next k cs = (i : ℕ) → i < length cs → (get_or cs i 0 ≤ k) ⊎ ((j : ℕ) × (j < i) × (get_or cs i 0 ≤ suc (get_or cs j 0)))

next_from : (k : ℕ) (cs : List ℕ) → numbered k cs ≡ true → Next k cs
unfolding numbered
next_from k [] e i h = absurd (omega arith)
next_from k (c ∷ cs) e zero h = inl (leb-true c k ((and-eq-true_iff (leb c k) (numbered (max k (suc c)) cs)).0 e).0)
next_from k (c ∷ cs) e (suc i) h = elim (next_from (max k (suc c)) cs ((and-eq-true_iff (leb c k) (numbered (max k (suc c)) cs)).0 e).1 i (omega arith)) [
  | inr (j, l, m) ↦ inr (suc j, omega arith, m)
  | inl l ↦ elim (dec_le (get_or cs i 0) k) [ yes m ↦ inl m | no m ↦ inr (0, omega arith, omega arith) ]
]

from_next : (k : ℕ) (cs : List ℕ) → Next k cs → numbered k cs ≡ true
unfolding numbered
from_next k [] w = refl
from_next k (c ∷ cs) w =
    (and-eq-true_iff (leb c k) (numbered (max k (suc c)) cs)).1 (le-leb c k (first (w 0 (omega arith))), from_next (max k (suc c)) cs rest)
  where
    first : (c ≤ k) ⊎ ((j : ℕ) × (j < 0) × (c ≤ suc (get_or (c ∷ cs) j 0))) → c ≤ k
    first (inl l) = l
    first (inr (j, l, m)) = absurd (omega arith)

    moved : (i j : ℕ) → j < suc i → get_or cs i 0 ≤ suc (get_or (c ∷ cs) j 0) → (get_or cs i 0 ≤ max k (suc c)) ⊎ ((j : ℕ) × (j < i) × (get_or cs i 0 ≤ suc (get_or cs j 0)))
    moved i zero l m = inl (omega arith)
    moved i (suc j) l m = inr (j, omega arith, m)

    rest : Next (max k (suc c)) cs
    rest i h = elim (w (suc i) (omega arith)) [ inl l ↦ inl (omega arith) | inr (j, l, m) ↦ moved i j l m ]

-- The test `numbered` passes exactly where the first entry is 0 and each later one at most one more than some entry before it.
pub numbered_exact : (cs : List ℕ) → (numbered 0 cs ≡ true) ↔ Numbered cs
numbered_exact cs = (to, from)
  where
    to : numbered 0 cs ≡ true → Numbered cs
    to e = let w = next_from 0 cs e in record {
      first = λ h. elim (w 0 h) [ inl l ↦ omega arith | inr (j, l, m) ↦ absurd (omega arith) ];
      later = λ i p h. elim (w i h) [ inl l ↦ (0, p, omega arith) | inr o ↦ o ];
    }

    next : Numbered cs → Next 0 cs
    next w zero h = inl (omega (arith, w.first h))
    next w (suc i) h = inr (w.later (suc i) (omega arith) h)

    from : Numbered cs → numbered 0 cs ≡ true
    from w = from_next 0 cs (next w)

-- Every class is below the number of entries.
pub numbered_low : (cs : List ℕ) → Numbered cs → (i : ℕ) → i < length cs → get_or cs i 0 ≤ i
numbered_low cs w i h = below i i (omega arith) h
  where
    start : (i : ℕ) → i ≤ 0 → i < length cs → get_or cs i 0 ≤ i
    start i l h = let zeroth : i ≡ 0 = omega arith in rw zeroth (omega (arith, w.first (omega arith)))

    below : (n i : ℕ) → i ≤ n → i < length cs → get_or cs i 0 ≤ i
    below zero i l h = start i l h
    below (suc n) i l h = elim (dec_le i 0) [
      | yes z ↦ start i z h
      | no z ↦ let (j, m, e) = w.later i (omega arith) h in omega (arith, below n j (omega arith) (omega arith))
    ]
