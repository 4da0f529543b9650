-- How numbers are handed over: what stands behind them, how large they are, and the place behind their line.
use mathlib.Core.Path.{◌≡◌, refl, sym, ap}
use mathlib.Core.Bool.{Bool, true, false, ◌&&◌}
use mathlib.Core.Logic.{inl, inr}
use mathlib.Core.List.{List, [], ◌∷◌}
use Prim.Native.Nat.{ℕ, zero, suc, ◌+◌, ◌*◌, ◌-◌, ◌≤◌, ◌<◌}
use native.Mathlib.Omega.{arith}
use lib.Dec.{eqb}
use lib.ListN.{length, drop, get_or, replicate, length-drop}
use Rattle.std.specs.declared.option.Option.{Option}
use Rattle.std.specs.declared.option.Option.TheVariants.{Some, None}
use Rattle.paper.specs.Certificate.{Row}
use Rattle.paper.proofs.Smallest.{decided}
use Rattle.fields.specs.declared.cursor.Cursor.{Cursor}
use Rattle.fields.specs.declared.cursor.Sort.{Sort}
use Rattle.fields.specs.Number.{is_digit, full}
use Rattle.fields.specs.Value.{Value, numbers, not_numbers, with_first, back, code, sort_kind, entries_from, value_of}
use Rattle.fields.specs.Line.{has_end, ending, open_at, key_of}
use Rattle.fields.specs.Listed.{laid}
use Rattle.fields.specs.Lines.{good, entry_line}
use Rattle.fields.specs.Padded.{padded}
use Rattle.fields.specs.Said.{Placed}
use Rattle.fields.proofs.LineLaws.{key_within}
use Rattle.fields.proofs.TellLaws.{good_line}

pub padded_length : (n : ℕ) (xs : List ℕ) → length (padded n xs) ≡ n
unfolding padded
padded_length zero xs = refl
padded_length (suc n) [] = ap suc (padded_length n [])
padded_length (suc n) (x ∷ xs) = ap suc (padded_length n xs)

padded_none : (n : ℕ) → padded n [] ≡ replicate n 0
unfolding padded
padded_none zero = refl
padded_none (suc n) = ap (λ (l : List ℕ). 0 ∷ l) (padded_none n)

-- numbers laid over zeros
pub laid_padded : (n : ℕ) (ns : List ℕ) → laid ns (replicate n 0) ≡ padded n ns
unfolding laid padded
laid_padded zero ns = refl
laid_padded (suc n) [] = ap (λ (l : List ℕ). 0 ∷ l) (sym (padded_none n))
laid_padded (suc n) (v ∷ ns) = ap (λ (l : List ℕ). v ∷ l) (laid_padded n ns)

pub padded_low : (m n : ℕ) (ns : List ℕ) → ((i : ℕ) → get_or ns i 0 ≤ m) → (k : ℕ) → get_or (padded n ns) k 0 ≤ m
unfolding padded
padded_low m zero ns h k = omega arith
padded_low m (suc n) [] h zero = omega arith
padded_low m (suc n) [] h (suc k) = padded_low m n [] h k
padded_low m (suc n) (v ∷ ns) h zero = h 0
padded_low m (suc n) (v ∷ ns) h (suc k) = padded_low m n ns (λ i. h (suc i)) k

-- The place behind a value is past its start, and in the file.
first_within : (v : ℕ) (x : Value) (ns : List ℕ) (next : ℕ) → with_first v x ≡ numbers ns next → (ms : List ℕ) × (x ≡ numbers ms next)
first_within v not_numbers ns next e = let z : ◌≡◌ {A = ℕ} 0 1 = cc in absurd (omega arith)
first_within v (numbers ms at) ns next e = let p : at ≡ next = cc in (ms, ap (numbers ms) p)

never : {P : Type 0} (ns : List ℕ) (next : ℕ) → not_numbers ≡ numbers ns next → P
never ns next e = let z : ◌≡◌ {A = ℕ} 0 1 = cc in absurd (omega arith)

Behind : ℕ → ℕ → List ℕ → Type 0
Behind at next s = (at < next) × (next ≤ at + length s)

later : (at next b : ℕ) (s : List ℕ) → Behind (at + 1) next s → Behind at next (b ∷ s)
unfolding Behind
later at next b s h = (omega arith, omega arith)

here : (at next b : ℕ) (s ns : List ℕ) (m : List ℕ) → numbers m (at + 1) ≡ numbers ns next → Behind at next (b ∷ s)
unfolding Behind
here at next b s ns m e = let g : at + 1 ≡ next = cc in (omega arith, omega arith)

entries_within : (s : List ℕ) (y n v at : ℕ) (ns : List ℕ) (next : ℕ) → entries_from y n v at s ≡ numbers ns next → Behind at next s
unfolding entries_from
entries_within [] y n v at ns next e = never ns next e
entries_within (b ∷ s) y n v at ns next e =
    go (λ y n v ns e. later at next b s (entries_within s y n v (at + 1) ns next e))
    (is_digit b) refl (full n v) refl (eqb n 0) refl (eqb y 1 && eqb b 120) refl (eqb b 10) refl (eqb b 44) refl
  where
    go : ((y n v : ℕ) (ns : List ℕ) → entries_from y n v (at + 1) s ≡ numbers ns next → Behind at next (b ∷ s))
        → (d : Bool) → is_digit b ≡ d → (f : Bool) → full n v ≡ f → (z : Bool) → eqb n 0 ≡ z → (x : Bool) → (eqb y 1 && eqb b 120) ≡ x
        → (l : Bool) → eqb b 10 ≡ l → (k : Bool) → eqb b 44 ≡ k → Behind at next (b ∷ s)
    go ih true p true q z r x t l u k w = never ns next (rw (p, q, entries_from) at e)
    go ih true p false q z r x t l u k w = ih y (n + 1) (v * 10 + (b - 48)) ns (rw (p, q, entries_from) at e)
    go ih false p f q true r true t l u k w = ih 2 0 0 ns (rw (p, r, t, entries_from) at e)
    go ih false p f q true r false t l u k w = never ns next (rw (p, r, t, entries_from) at e)
    go ih false p f q false r x t true u k w = here at next b s ns (code y v ∷ []) (rw (p, r, u, entries_from) at e)
    go ih false p f q false r x t false u true w =
        let (ms, h) = first_within (code y v) (entries_from (back y) 0 0 (at + 1) s) ns next (rw (p, r, u, w, entries_from) at e) in
        ih (back y) 0 0 ms h
    go ih false p f q false r x t false u false w = never ns next (rw (p, r, u, w, entries_from) at e)

value_within : (y at : ℕ) (s : List ℕ) (ns : List ℕ) (next : ℕ) → value_of y at s ≡ numbers ns next → Behind at next s
unfolding value_of
value_within y at [] ns next e = never ns next e
value_within y at (b ∷ s) ns next e = elim (decided (eqb b 10)) [
  | inl u ↦ here at next b s ns [] (rw (u, value_of) at e)
  | inr u ↦ entries_within (b ∷ s) y 0 0 at ns next (rw (u, value_of) at e)
]

ending_at : (file : List ℕ) (o : Option ℕ) (from : ℕ) → ending file o ≡ Some from → o ≡ Some from
unfolding ending
ending_at file None from e = e
ending_at file (Some d) from e = elim (decided (has_end (drop d file))) [
  | inl p ↦ rw (p, ending) at e
  | inr p ↦ let w : None ≡ Some from = rw (p, ending) at e in let z : ◌≡◌ {A = ℕ} 0 1 = cc in absurd (omega arith)
]

-- The next line's place, after a list line.
pub line_placed : (sort : Sort) (r : Row) (file : List ℕ) (c : Cursor) → Placed file c → (ns : List ℕ) (next : ℕ) → entry_line sort r file c.at ≡ good ns next
    → Placed file (record { at = next; line = c.line + 1 })
unfolding Behind
line_placed sort r file c p ns next e =
    let g = good_line sort r.empty file (open_at (key_of r) file c.at) ns next e in
    let k = key_within (key_of r) (drop c.at file) c.at g.from (ending_at file _ g.from g.opened) in
    let v = value_within (sort_kind sort) g.from (drop g.from file) ns next g.value in
    let l = length-drop c.at file in
    let m = length-drop g.from file in
    record { inside = omega (arith, p.inside); near = omega (arith, p.near); fits = p.fits }
