-- The byte machine's entries are paper's: each entry of the value up to the LF, read as a number or a token.
use mathlib.Core.Path.{◌≡◌, refl, ap, ◌∙◌}
use mathlib.Core.Bool.{Bool, true, false, ◌&&◌, and-false}
use mathlib.Core.Logic.{inl, inr}
use mathlib.Core.List.{List, [], ◌∷◌}
use Prim.Native.Nat.{ℕ, zero, suc, ◌+◌, ◌*◌, ◌-◌}
use borrow.Author.Tests.{eqb-true}
use lib.Dec.{eqb}
use lib.ListN.{drop}
use Rattle.paper.specs.Checked.{Checked, fault, says, ◌>>=◌}
use Rattle.paper.specs.Lines.{Said, ended}
use Rattle.paper.specs.Fields.{each, entries, lengthen}
use Rattle.paper.proofs.Smallest.{decided}
use Rattle.paper.proofs.Checked.{silent, parts}
use Rattle.paper.proofs.Lines.{entries_sound}
use Rattle.fields.specs.Number.{is_digit, full}
use Rattle.fields.specs.Value.{Value, numbers, not_numbers, with_first, code, back, entries_from}
use Rattle.fields.specs.Line.{has_end}
use Rattle.fields.proofs.Digits.{read_on}
use Rattle.fields.proofs.Rest.{next_rest}

-- A value that the machine found, in paper's words.
unfoldable pub said_value : List ℕ → Value → Checked (Said (List ℕ))
said_value file (numbers ns at) = says (record { what = ns; rest = drop at file })
said_value file not_numbers = fault 4

-- What is judged of a value, with the bytes behind it.
unfoldable pub found : {X : Type 0} → List ℕ → Checked X → Checked (Said X)
found behind j = j >>= (λ x. says (record { what = x; rest = behind }))

-- The first entry read by f and the others by g.
unfoldable pub headed : (f g : List ℕ → Checked ℕ) → List (List ℕ) → Checked (List ℕ)
headed f g [] = fault 4
headed f g (e ∷ es) = f e >>= (λ w. each g es >>= (λ ws. says (w ∷ ws)))

onto : ℕ → Checked (Said (List ℕ)) → Checked (Said (List ℕ))
onto c j = j >>= (λ s. says (record { what = c ∷ s.what; rest = s.rest }))

said_first : (file : List ℕ) (c : ℕ) (x : Value) → said_value file (with_first c x) ≡ onto c (said_value file x)
unfolding said_value onto ◌>>=◌
said_first file c (numbers ns at) = refl
said_first file c not_numbers = refl

onto_found : (c : ℕ) (behind : List ℕ) (j : Checked (List ℕ)) → onto c (found behind j) ≡ found behind (j >>= (λ ws. says (c ∷ ws)))
unfolding found onto ◌>>=◌
onto_found c behind (fault n) = refl
onto_found c behind (says ws) = refl

-- One byte more in front of the first entry.
longer : (f k g : List ℕ → Checked ℕ) (b : ℕ) (e : List ℕ) (es : List (List ℕ)) → f e ≡ k (b ∷ e) → headed f g (e ∷ es) ≡ headed k g ((b ∷ e) ∷ es)
unfolding headed
longer f k g b e es h = ap (λ j. j >>= (λ w. each g es >>= (λ ws. says (w ∷ ws)))) h

back_back : (y : ℕ) → back (back y) ≡ back y
back_back zero = refl
back_back (suc y) = refl

-- A value that ends in LF has an end.
pub ended_has : (s : List ℕ) → has_end s ≡ true → (l : (Said (List ℕ))) × (ended s ≡ says l)
unfolding has_end ended ◌>>=◌
ended_has [] h = cc
ended_has (b ∷ s) h = elim (decided (eqb b 10)) [
  | inl p ↦ (record { what = []; rest = s }, rw (p, ended))
  | inr p ↦ let (l, e) = ended_has s (rw (p, has_end) at h) in (record { what = b ∷ l.what; rest = l.rest }, rw (p, ended) (rw e))
]

pub ended_not : (s : List ℕ) → has_end s ≡ false → ended s ≡ fault 3
unfolding has_end ended ◌>>=◌
ended_not [] h = refl
ended_not (b ∷ s) h = elim (decided (eqb b 10)) [
  | inl p ↦ let w : true ≡ false = rw (p, has_end) at h in cc
  | inr p ↦ rw (p, ended) (rw (ended_not s (rw (p, has_end) at h)))
]

-- What the machine does at one byte.
module _ (y n v at b : ℕ) (s : List ℕ) where
  step_digit : is_digit b ≡ true → full n v ≡ false → entries_from y n v at (b ∷ s) ≡ entries_from y (n + 1) (v * 10 + (b - 48)) (at + 1) s
  unfolding entries_from
  step_digit d f = rw (d, f, entries_from)

  step_full : is_digit b ≡ true → full n v ≡ true → entries_from y n v at (b ∷ s) ≡ not_numbers
  unfolding entries_from
  step_full d f = rw (d, f, entries_from)

  step_x : is_digit b ≡ false → eqb n 0 ≡ true → (eqb y 1 && eqb b 120) ≡ true → entries_from y n v at (b ∷ s) ≡ entries_from 2 0 0 (at + 1) s
  unfolding entries_from
  step_x d z x = rw (d, z, x, entries_from)

  step_none : is_digit b ≡ false → eqb n 0 ≡ true → (eqb y 1 && eqb b 120) ≡ false → entries_from y n v at (b ∷ s) ≡ not_numbers
  unfolding entries_from
  step_none d z x = rw (d, z, x, entries_from)

  step_other : is_digit b ≡ false → eqb n 0 ≡ false → eqb b 10 ≡ false → eqb b 44 ≡ false → entries_from y n v at (b ∷ s) ≡ not_numbers
  unfolding entries_from
  step_other d z h c = rw (d, z, h, c, entries_from)

  step_lf : is_digit b ≡ false → eqb n 0 ≡ false → eqb b 10 ≡ true → entries_from y n v at (b ∷ s) ≡ numbers (code y v ∷ []) (at + 1)
  unfolding entries_from
  step_lf d z h = rw (d, z, h, entries_from)

  step_comma : is_digit b ≡ false → eqb n 0 ≡ false → eqb b 10 ≡ false → eqb b 44 ≡ true → entries_from y n v at (b ∷ s) ≡ with_first (code y v) (entries_from (back y) 0 0 (at + 1) s)
  unfolding entries_from
  step_comma d z h c = rw (d, z, h, c, entries_from)

-- The same of one entry.
module _ (y n v b : ℕ) (e : List ℕ) where
  on_digit : is_digit b ≡ true → full n v ≡ false → read_on y (n + 1) (v * 10 + (b - 48)) e ≡ read_on y n v (b ∷ e)
  unfolding read_on
  on_digit d f = rw (d, f, read_on)

  on_full : is_digit b ≡ true → full n v ≡ true → read_on y n v (b ∷ e) ≡ fault 4
  unfolding read_on
  on_full d f = rw (d, f, read_on)

  on_x : is_digit b ≡ false → eqb n 0 ≡ true → (eqb y 1 && eqb b 120) ≡ true → read_on 2 0 0 e ≡ read_on y n v (b ∷ e)
  unfolding read_on
  on_x d z x = rw (d, z, x, read_on)

  on_none : is_digit b ≡ false → eqb n 0 ≡ true → (eqb y 1 && eqb b 120) ≡ false → read_on y n v (b ∷ e) ≡ fault 4
  unfolding read_on
  on_none d z x = rw (d, z, x, read_on)

  on_other : is_digit b ≡ false → eqb n 0 ≡ false → read_on y n v (b ∷ e) ≡ fault 4
  unfolding read_on
  on_other d z = rw (d, z, read_on)

on_nothing : (y n v : ℕ) → eqb n 0 ≡ true → read_on y n v [] ≡ fault 4
unfolding read_on
on_nothing y n v z = rw (z, read_on)

on_end : (y n v : ℕ) → eqb n 0 ≡ false → read_on y n v [] ≡ says (code y v)
unfolding read_on
on_end y n v z = rw (z, read_on)

no_digit : (b c : ℕ) → b ≡ c → is_digit c ≡ false → is_digit b ≡ false
no_digit b c e h = ap is_digit e ∙ h

no_x : (y b c : ℕ) → b ≡ c → eqb c 120 ≡ false → (eqb y 1 && eqb b 120) ≡ false
no_x y b c e h = ap (λ k. eqb y 1 && eqb k 120) e ∙ (rw h (and-false (eqb y 1)))

both_x : (y : ℕ) (t : Bool) → (eqb y 1 && t) ≡ true → back y ≡ 1
both_x zero t h = cc
both_x (suc y) t h = refl

one_headed : (k g : List ℕ → Checked ℕ) (w : ℕ) (behind : List ℕ) → k [] ≡ says w → says (record { what = w ∷ []; rest = behind }) ≡ found behind (headed k g ([] ∷ []))
unfolding headed found each ◌>>=◌
one_headed k g w behind h = rw h

no_headed : (k g : List ℕ → Checked ℕ) (e : List ℕ) (es : List (List ℕ)) (behind : List ℕ) → k e ≡ fault 4 → fault 4 ≡ found behind (headed k g (e ∷ es))
unfolding headed found ◌>>=◌
no_headed k g e es behind h = rw h

comma_headed : (k g : List ℕ → Checked ℕ) (w : ℕ) (e : List ℕ) (es : List (List ℕ)) (behind : List ℕ) → k [] ≡ says w
    → onto w (found behind (headed g g (e ∷ es))) ≡ found behind (headed k g ([] ∷ (e ∷ es)))
unfolding headed each ◌>>=◌
comma_headed k g w e es behind h = onto_found w behind (headed g g (e ∷ es)) ∙ rw h

module _ (file : List ℕ) (y n v at b : ℕ) (s : List ℕ) where
  said_none : (behind : List ℕ) (e : List ℕ) (es es' : List (List ℕ)) → entries_from y n v at (b ∷ s) ≡ not_numbers → es' ≡ e ∷ es → read_on y n v e ≡ fault 4
      → said_value file (entries_from y n v at (b ∷ s)) ≡ found behind (headed (read_on y n v) (read_on (back y) 0 0) es')
  unfolding said_value
  said_none behind e es es' p q r = rw (p, q) (no_headed (read_on y n v) (read_on (back y) 0 0) e es behind r)

  at_end : drop (at + 1) file ≡ s → eqb b 10 ≡ true → said_value file (entries_from y n v at (b ∷ s)) ≡ found s (headed (read_on y n v) (read_on (back y) 0 0) (entries []))
  unfolding said_value entries is_digit
  at_end d t =
      let h = eqb-true b 10 t in
      elim (decided (eqb n 0)) [
        | inl z ↦ said_none s [] [] (entries []) (step_none y n v at b s (no_digit b 10 h refl) z (no_x y b 10 h refl)) refl (on_nothing y n v z)
        | inr z ↦ rw (step_lf y n v at b s (no_digit b 10 h refl) z t, d) (one_headed (read_on y n v) (read_on (back y) 0 0) (code y v) s (on_end y n v z))
      ]

  at_comma : (m : (Said (List ℕ))) → eqb b 10 ≡ false → eqb b 44 ≡ true
      → said_value file (entries_from (back y) 0 0 (at + 1) s) ≡ found m.rest (headed (read_on (back y) 0 0) (read_on (back (back y)) 0 0) (entries m.what))
      → said_value file (entries_from y n v at (b ∷ s)) ≡ found m.rest (headed (read_on y n v) (read_on (back y) 0 0) (entries (b ∷ m.what)))
  unfolding entries is_digit
  at_comma m l t ih =
      let h = eqb-true b 44 t in
      let i = entries_sound m.what in
      let q : entries (b ∷ m.what) ≡ [] ∷ (i.first ∷ i.others) = rw (t, entries) (ap (λ es. [] ∷ es) i.are) in
      elim (decided (eqb n 0)) [
        | inl z ↦ said_none m.rest [] (i.first ∷ i.others) _ (step_none y n v at b s (no_digit b 44 h refl) z (no_x y b 44 h refl)) q (on_nothing y n v z)
        | inr z ↦
            let ih2 = rw (back_back y, i.are) at ih in
            rw (step_comma y n v at b s (no_digit b 44 h refl) z l t, q)
            (said_first file (code y v) _ ∙ ap (onto (code y v)) ih2 ∙ comma_headed (read_on y n v) (read_on (back y) 0 0) (code y v) i.first i.others m.rest (on_end y n v z))
      ]

  inside : (m : (Said (List ℕ))) → eqb b 10 ≡ false → eqb b 44 ≡ false
      → ((y n v : ℕ) → said_value file (entries_from y n v (at + 1) s) ≡ found m.rest (headed (read_on y n v) (read_on (back y) 0 0) (entries m.what)))
      → said_value file (entries_from y n v at (b ∷ s)) ≡ found m.rest (headed (read_on y n v) (read_on (back y) 0 0) (entries (b ∷ m.what)))
  unfolding entries lengthen
  inside m h c ih =
      let i = entries_sound m.what in
      let q : entries (b ∷ m.what) ≡ (b ∷ i.first) ∷ i.others = rw (c, entries) (ap (lengthen b) i.are) in
      elim (decided (is_digit b)) [
        | inl d ↦ elim (decided (full n v)) [
          | inl f ↦ said_none m.rest (b ∷ i.first) i.others _ (step_full y n v at b s d f) q (on_full y n v b i.first d f)
          | inr f ↦
              let ih2 = rw i.are at (ih y (n + 1) (v * 10 + (b - 48))) in
              rw (step_digit y n v at b s d f, q)
              (ih2 ∙ ap (found m.rest)
              (longer (read_on y (n + 1) (v * 10 + (b - 48))) (read_on y n v) (read_on (back y) 0 0) b i.first i.others (on_digit y n v b i.first d f)))
        ]
        | inr d ↦ elim (decided (eqb n 0)) [
          | inl z ↦ elim (decided (eqb y 1 && eqb b 120)) [
            | inl x ↦
                let ih2 = rw i.are at (ih 2 0 0) in
                rw (step_x y n v at b s d z x, q, both_x y (eqb b 120) x)
                (ih2 ∙ ap (found m.rest) (longer (read_on 2 0 0) (read_on y n v) (read_on 1 0 0) b i.first i.others (on_x y n v b i.first d z x)))
            | inr x ↦ said_none m.rest (b ∷ i.first) i.others _ (step_none y n v at b s d z x) q (on_none y n v b i.first d z x)
          ]
          | inr z ↦ said_none m.rest (b ∷ i.first) i.others _ (step_other y n v at b s d z h c) q (on_other y n v b i.first d z)
        ]
      ]

-- n digits of value v of the first entry, of kind y, stand before `at`
pub entries_said : (file s : List ℕ) (y n v at : ℕ) (l : (Said (List ℕ))) → drop at file ≡ s → ended s ≡ says l
    → said_value file (entries_from y n v at s) ≡ found l.rest (headed (read_on y n v) (read_on (back y) 0 0) (entries l.what))
unfolding ended
entries_said file [] y n v at l d e = absurd (silent e)
entries_said file (b ∷ s) y n v at l d e = elim (decided (eqb b 10)) [
  | inl h ↦
      let f = rw (h, ended) at e in
      let same : record { what = []; rest = s } ≡ l = cc in
      rw (← same) (at_end file y n v at b s (next_rest file at b s d) h)
  | inr h ↦
      let (m, p, g) = parts (ended s) _ (rw (h, ended) at e) in
      let same : record { what = b ∷ m.what; rest = m.rest } ≡ l = cc in
      let ih : (y n v : ℕ) → said_value file (entries_from y n v (at + 1) s) ≡ found m.rest (headed (read_on y n v) (read_on (back y) 0 0) (entries m.what)) =
      λ y n v. entries_said file s y n v (at + 1) m (next_rest file at b s d) p in
      rw (← same) (elim (decided (eqb b 44)) [
        | inl c ↦ at_comma file y n v at b s m h c (ih (back y) 0 0)
        | inr c ↦ inside file y n v at b s m h c ih
      ])
]
