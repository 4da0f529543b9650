-- Every partition has exactly one line: the classes numbered as they come.
use mathlib.Core.Path.{◌≡◌, refl, sym, ap, ◌∙◌}
use mathlib.Core.Logic.{◌⊎◌, inl, inr, ◌↔◌}
use mathlib.Core.List.{List, [], ◌∷◌, ◌++◌, append_assoc, append-nil}
use Prim.Native.Nat.{ℕ, zero, suc, ◌+◌, ◌≤◌, ◌<◌}
use native.Mathlib.Omega.{arith}
use native.Mathlib.Decide.{dec_lt, dec_le, ℕ_discrete}
use lib.ListN.{length, get_or, length-append, get_or-append}
use lib.Seq.{get_or-append_seam}
use Rattle.theory.specs.Automaton.{largest}
use Rattle.theory.proofs.Merged.{entry_bound}
use Rattle.paper.specs.WellFormed.{Numbered, SamePartition}
use Rattle.paper.proofs.Partition.{one_line}

-- The number stands in the list or not.
sought : (p : ℕ) (ps : List ℕ) → ((i : ℕ) × (i < length ps) × (get_or ps i 0 ≡ p)) ⊎ ((i : ℕ) → i < length ps → get_or ps i 0 ≡ p → ⊥)
sought p [] = inr (λ i h e. omega arith)
sought p (q ∷ ps) = elim (ℕ_discrete q p) [
  | yes e ↦ inl (0, omega arith, e)
  | no n ↦ elim (sought p ps) [
    | inl (i, h, e) ↦ inl (suc i, omega arith, e)
    | inr h ↦ inr (λ i. elim i as (λ i. i < length (q ∷ ps) → get_or (q ∷ ps) i 0 ≡ p → ⊥) [ zero ↦ λ l e. n e | suc j ↦ λ l e. h j (omega arith) e ])
  ]
]

-- A class that no state has yet: one more than the largest, and 0 where there is none.
fresh : List ℕ → ℕ
fresh [] = 0
fresh (c ∷ cs) = suc (largest (c ∷ cs))

fresh_above : (cs : List ℕ) (i : ℕ) → i < length cs → get_or cs i 0 < fresh cs
unfolding fresh
fresh_above [] i h = absurd (omega arith)
fresh_above (c ∷ cs) i h = omega (arith, entry_bound (c ∷ cs) i)

largest_stands : (c : ℕ) (cs : List ℕ) → (j : ℕ) × (j < length (c ∷ cs)) × (get_or (c ∷ cs) j 0 ≡ largest (c ∷ cs))
unfolding largest
largest_stands c [] = (0, omega arith, omega arith)
largest_stands c (d ∷ cs) = let (j, h, e) = largest_stands d cs in elim (dec_le (largest (d ∷ cs)) c) [ yes l ↦ (0, omega arith, omega arith) | no l ↦ (suc j, omega arith, omega arith) ]

-- The entries before a last one, and the last one.
old_new : (ns : List ℕ) (n i : ℕ) → i < length ns → get_or (ns ++ (n ∷ [])) i 0 ≡ get_or ns i 0
old_new ns n i h = get_or-append ns (n ∷ []) 0 i h

last_new : (ns : List ℕ) (n i : ℕ) → i < length (ns ++ (n ∷ [])) → (i < length ns → ⊥) → get_or (ns ++ (n ∷ [])) i 0 ≡ n
last_new ns n i h l = let end : i ≡ length ns = omega (arith, length-append ns (n ∷ [])) in rw end (get_or-append_seam ns n [] 0)

-- One state more, in the class c.
module _ (ps cs : List ℕ) (p c : ℕ) (w : SamePartition ps cs) (fits : (i : ℕ) → i < length ps → (get_or ps i 0 ≡ p) ↔ (get_or cs i 0 ≡ c)) where
  one_more : SamePartition (ps ++ (p ∷ [])) (cs ++ (c ∷ []))
  one_more = record { count = longer; same = both }
    where
      longer : length (ps ++ (p ∷ [])) ≡ length (cs ++ (c ∷ []))
      longer = length-append ps (p ∷ []) ∙ (ap (λ n. n + 1) w.count ∙ sym (length-append cs (c ∷ [])))

      both : (i j : ℕ) → i < length (ps ++ (p ∷ [])) → j < length (ps ++ (p ∷ []))
          → (get_or (ps ++ (p ∷ [])) i 0 ≡ get_or (ps ++ (p ∷ [])) j 0) ↔ (get_or (cs ++ (c ∷ [])) i 0 ≡ get_or (cs ++ (c ∷ [])) j 0)
      both i j h l = elim (dec_lt i (length ps)) [
        | yes a ↦ elim (dec_lt j (length ps)) [
          | yes b ↦ rw (old_new ps p i a, old_new ps p j b, old_new cs c i (omega (arith, w.count)), old_new cs c j (omega (arith, w.count))) (w.same i j a b)
          | no b ↦ rw (old_new ps p i a, last_new ps p j l b, old_new cs c i (omega (arith, w.count)), last_new cs c j (omega (arith, longer)) (λ g. b (omega (arith, w.count)))) (fits i a)
        ]
        | no a ↦ elim (dec_lt j (length ps)) [
          | yes b ↦
              let (to, from) = fits j b in
              rw (last_new ps p i h a, old_new ps p j b, last_new cs c i (omega (arith, longer)) (λ g. a (omega (arith, w.count))), old_new cs c j (omega (arith, w.count)))
              (λ e. sym (to (sym e)), λ e. sym (from (sym e)))
          | no b ↦ rw (
            last_new ps p i h a,
            last_new ps p j l b,
            last_new cs c i (omega (arith, longer)) (λ g. a (omega (arith, w.count))),
            last_new cs c j (omega (arith, longer)) (λ g. b (omega (arith, w.count))),
          ) (λ e. refl, λ e. refl)
        ]
      ]

-- A numbered line with one entry more that comes in turn.
numbered_more : (cs : List ℕ) (c : ℕ) → Numbered cs → (length cs ≡ 0 → c ≡ 0) → (0 < length cs → (j : ℕ) × (j < length cs) × (c ≤ suc (get_or cs j 0))) → Numbered (cs ++ (c ∷ []))
numbered_more cs c w start behind = record { first = first; later = later }
  where
    long : length (cs ++ (c ∷ [])) ≡ length cs + 1
    long = length-append cs (c ∷ [])

    first : 0 < length (cs ++ (c ∷ [])) → get_or (cs ++ (c ∷ [])) 0 0 ≡ 0
    first h = elim (dec_lt 0 (length cs)) [
      | yes l ↦ old_new cs c 0 l ∙ w.first l
      | no l ↦ last_new cs c 0 h l ∙ start (omega arith)
    ]

    later : (i : ℕ) → 0 < i → i < length (cs ++ (c ∷ [])) → (j : ℕ) × (j < i) × (get_or (cs ++ (c ∷ [])) i 0 ≤ suc (get_or (cs ++ (c ∷ [])) j 0))
    later i p h = elim (dec_lt i (length cs)) [
      | yes l ↦ let (j, m, e) = w.later i p l in (j, m, omega (arith, old_new cs c i l, old_new cs c j (omega arith)))
      | no l ↦
          let end : i ≡ length cs = omega (arith, long) in
          let (j, m, e) = behind (omega arith) in
          (j, omega arith, omega (arith, last_new cs c i h l, old_new cs c j m))
    ]

-- A line for the states ps, given one for those before them.
numbering : (seen cs : List ℕ) → SamePartition seen cs → Numbered cs → (ps : List ℕ) → (ds : List ℕ) × SamePartition (seen ++ ps) ds × Numbered ds
unfolding fresh
numbering seen cs w n [] = (cs, rw append-nil w, n)
numbering seen cs w n (p ∷ ps) = elim (sought p seen) [
  | inl (i, h, e) ↦
      let more = one_more seen cs p (get_or cs i 0) w (λ j l. let (to, from) = w.same j i l h in (λ d. to (d ∙ sym e), λ d. from d ∙ e)) in
      let turn = numbered_more cs (get_or cs i 0) n (λ z. absurd (omega (arith, w.count))) (λ l. (i, omega (arith, w.count), omega arith)) in
      rw (← append_assoc seen (p ∷ []) ps) (numbering (seen ++ (p ∷ [])) (cs ++ (get_or cs i 0 ∷ [])) more turn ps)
  | inr new ↦
      let more = one_more seen cs p (fresh cs) w (λ j l. (λ d. absurd (new j l d), λ d. absurd (omega (arith, fresh_above cs j (omega (arith, w.count)))))) in
      rw (← append_assoc seen (p ∷ []) ps) (numbering (seen ++ (p ∷ [])) (cs ++ (fresh cs ∷ [])) more (turn cs n) ps)
]
  where
    turn : (cs : List ℕ) → Numbered cs → Numbered (cs ++ (fresh cs ∷ []))
    turn [] n = numbered_more [] 0 n (λ z. refl) (λ l. absurd (omega arith))
    turn (c ∷ cs) n = numbered_more (c ∷ cs) (fresh (c ∷ cs)) n (λ z. absurd (omega arith)) (λ l. let (j, h, e) = largest_stands c cs in (j, h, omega arith))

onto : {cs ds es : List ℕ} → SamePartition cs ds → SamePartition cs es → SamePartition ds es
onto v w = record {
  count = sym v.count ∙ w.count;
  same = λ i j h l.
      let (a, b) = v.same i j (omega (arith, v.count)) (omega (arith, v.count)) in
      let (c, d) = w.same i j (omega (arith, v.count)) (omega (arith, v.count)) in
      (λ e. c (b e), λ e. a (d e));
}

-- Every partition of states, given by any numbers, has exactly one merge line.
pub exactly_one_line : (ps : List ℕ) → (cs : List ℕ) × SamePartition ps cs × Numbered cs × ((ds : List ℕ) → SamePartition ps ds → Numbered ds → cs ≡ ds)
exactly_one_line ps =
    let (cs, w, n) = numbering [] [] (record { count = refl; same = λ i j h l. absurd (omega arith) }) (record { first = λ h. absurd (omega arith); later = λ i p h. absurd (omega arith) }) ps in
    (cs, w, n, λ ds v m. one_line cs ds n m (onto w v))
