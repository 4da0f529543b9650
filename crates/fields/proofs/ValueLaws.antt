-- A value by the number at its front: what `entries_from` is after `number_from` has read a number, and where that number ends.
-- A value that is numbers has its LF.
use mathlib.Core.Path.{◌≡◌, refl, sym, ap, ◌∙◌}
use mathlib.Core.Bool.{Bool, true, false, ◌&&◌}
use mathlib.Core.Logic.{inl, inr}
use mathlib.Core.List.{List, [], ◌∷◌}
use Prim.Native.Nat.{ℕ, zero, suc, ◌+◌, ◌*◌, ◌-◌, ◌≤◌, ◌<◌}
use native.Mathlib.Omega.{arith}
use borrow.Author.Tests.{eq-eqb, ne_eqb, eqb-true, eqb-false}
use lib.Dec.{eqb}
use lib.ListN.{length, drop, get_or, length-drop}
use Rattle.paper.proofs.Smallest.{decided}
use Rattle.std.specs.declared.option.Option.{Option}
use Rattle.std.specs.declared.option.Option.TheVariants.{Some as Got, None}
use Rattle.fields.specs.declared.cursor.Taken.{Taken}
use Rattle.fields.specs.Number.{is_digit, full, read, ended, number_from}
use Rattle.fields.specs.Value.{Value, numbers, not_numbers, with_first, code, back, coded, entry_at, entries_from, value_of, value_at}
use Rattle.fields.specs.Line.{has_end}
use Rattle.fields.proofs.Rest.{rest_end, rest_cons, next_rest}

-- an entry w has been read, of a list of kind y, and s stands at `at`, after it
abbrev pub after_entry : ℕ → ℕ → ℕ → List ℕ → Value
after_entry y w at [] = not_numbers
after_entry y w at (b ∷ s) =
    elim (eqb b 10) [
      | true ↦ numbers (w ∷ []) (at + 1)
      | false ↦ elim (eqb b 44) [ true ↦ with_first w (entries_from y 0 0 (at + 1) s) | false ↦ not_numbers ]
    ]

abbrev pub after : ℕ → List ℕ → Option Taken → Value
after y file (Got t) = after_entry y t.value t.end (drop t.end file)
after y file None = not_numbers

-- where no `x` can come: after a digit, or not at the start of a token
entries_number : (file s : List ℕ) (y n v at : ℕ) → (eqb n 0 && eqb y 1) ≡ false → drop at file ≡ s
    → entries_from y n v at s ≡ after (back y) file (coded y (number_from n v at s))
unfolding entries_from number_from ended coded
entries_number file [] y n v at k e = go (eqb n 0) refl
  where
    go : (z : Bool) → eqb n 0 ≡ z → not_numbers ≡ after (back y) file (coded y (ended n v at))
    go true p = rw p
    go false p = rw (p, e)
entries_number file (b ∷ s) y n v at k e =
    go (entries_number file s y (n + 1) (v * 10 + (b - 48)) (at + 1) (rw (ne_eqb (n + 1) 0 (λ z. omega arith))) (next_rest file at b s e))
    (is_digit b) refl (full n v) refl (eqb n 0) refl
  where
    go : entries_from y (n + 1) (v * 10 + (b - 48)) (at + 1) s ≡ after (back y) file (coded y (number_from (n + 1) (v * 10 + (b - 48)) (at + 1) s))
        → (d : Bool) → is_digit b ≡ d → (f : Bool) → full n v ≡ f → (z : Bool) → eqb n 0 ≡ z
        → entries_from y n v at (b ∷ s) ≡ after (back y) file (coded y (number_from n v at (b ∷ s)))
    go ih true p true q z r = rw (p, q, entries_from, number_from)
    go ih true p false q z r = rw (p, q, entries_from, number_from) ih
    go ih false p f q true r = let w : eqb y 1 ≡ false = rw r at k in rw (p, r, w, entries_from, number_from)
    go ih false p f q false r = rw (p, r, e, entries_from, number_from)

-- a number is coded as itself
coded_number : (x : Option Taken) → coded 0 x ≡ x
unfolding coded code
coded_number (Got t) = refl
coded_number None = refl

-- a whole entry of kind 0 or 1
pub entries_entry : (file s : List ℕ) (y at : ℕ) → y ≤ 1 → drop at file ≡ s → entries_from y 0 0 at s ≡ after y file (entry_at y at s)
unfolding entry_at
entries_entry file s zero at h e = entries_number file s 0 0 0 at refl e ∙ ap (after 0 file) (coded_number (number_from 0 0 at s))
entries_entry file [] (suc zero) at h e = unfold entries_from in refl
entries_entry file (b ∷ s) (suc zero) at h e = go (eqb b 120) refl (is_digit b) refl
  where
    go : (t : Bool) → eqb b 120 ≡ t → (d : Bool) → is_digit b ≡ d → entries_from 1 0 0 at (b ∷ s) ≡ after 1 file (entry_at 1 at (b ∷ s))
    go true p true q =
        let z : ◌≡◌ {A = Bool} true false = sym (ap is_digit (sym (eqb-true b 120 p)) ∙ q) ∙ (unfold is_digit in refl) in
        let w : ◌≡◌ {A = ℕ} 0 1 = cc in absurd (omega arith)
    go true p false q =
        unfold entries_from in
        (rw (q, p, entries_from, entry_at) (entries_number file s 2 0 0 (at + 1) refl (next_rest file at b s e)))
    go false p true q =
        unfold entries_from number_from full in
        (rw (p, entry_at) (rw (q, entries_from, number_from) (entries_number file s 1 1 (0 * 10 + (b - 48)) (at + 1) refl (next_rest file at b s e))))
    go false p false q = unfold entries_from number_from ended coded in (rw (p, entry_at) (rw (q, p, entries_from, number_from)))
entries_entry file s (suc (suc y)) at h e = absurd (omega arith)

-- entries that are there are one at least, and s has an LF
unfoldable pub Some : List ℕ → Value → Type 0
Some s not_numbers = Unit {0}
Some s (numbers [] at) = ⊥
Some s (numbers (v ∷ ns) at) = has_end s ≡ true

module _ (b : ℕ) (s : List ℕ) where
  end_behind : has_end s ≡ true → has_end (b ∷ s) ≡ true
  unfolding has_end
  end_behind h = elim (decided (eqb b 10)) [
    | inl p ↦ rw (p, has_end)
    | inr p ↦ rw (p, has_end) h
  ]

  some_behind : (x : Value) → Some s x → Some (b ∷ s) x
  unfolding Some
  some_behind (numbers [] at) h = elim h [ ]
  some_behind not_numbers h = tt
  some_behind (numbers (v ∷ ns) at) h = end_behind h

  some_first : (w : ℕ) (x : Value) → Some s x → Some (b ∷ s) (with_first w x)
  unfolding Some
  some_first w (numbers [] at) h = elim h [ ]
  some_first w not_numbers h = tt
  some_first w (numbers (v ∷ ns) at) h = end_behind h

pub entries_some : (s : List ℕ) (y n v at : ℕ) → Some s (entries_from y n v at s)
unfolding Some entries_from has_end
entries_some [] y n v at = tt
entries_some (b ∷ s) y n v at =
    go (λ y n v at. entries_some s y n v at) (is_digit b) (full n v) (eqb n 0) (eqb y 1 && eqb b 120) (eqb b 10) refl (eqb b 44)
  where
    go : ((y n v at : ℕ) → Some s (entries_from y n v at s)) → (d f z x l : Bool) → eqb b 10 ≡ l → (k : Bool)
        → Some (b ∷ s) (elim d [
          | true ↦ elim f [ true ↦ not_numbers | false ↦ entries_from y (n + 1) (v * 10 + (b - 48)) (at + 1) s ]
          | false ↦ elim z [
            | true ↦ elim x [ true ↦ entries_from 2 0 0 (at + 1) s | false ↦ not_numbers ]
            | false ↦ elim l [
              | true ↦ numbers (code y v ∷ []) (at + 1)
              | false ↦ elim k [ true ↦ with_first (code y v) (entries_from (back y) 0 0 (at + 1) s) | false ↦ not_numbers ]
            ]
          ]
        ])
    go ih true true z x l p k = tt
    go ih true false z x l p k = some_behind b s (entries_from y (n + 1) (v * 10 + (b - 48)) (at + 1) s) (ih y (n + 1) (v * 10 + (b - 48)) (at + 1))
    go ih false f true true l p k = some_behind b s (entries_from 2 0 0 (at + 1) s) (ih 2 0 0 (at + 1))
    go ih false f true false l p k = tt
    go ih false f false x true p k = rw (p, has_end)
    go ih false f false x false p true = some_first b s (code y v) (entries_from (back y) 0 0 (at + 1) s) (ih (back y) 0 0 (at + 1))
    go ih false f false x false p false = tt

-- without an LF a value is no entries
pub value_endless : (s : List ℕ) (y at : ℕ) → has_end s ≡ false → value_of y at s ≡ not_numbers
unfolding value_of Some
value_endless [] y at h = refl
value_endless (b ∷ s) y at h = elim (decided (eqb b 10)) [
  | inl p ↦ unfold has_end in (never (sym (rw (p, has_end) at h)))
  | inr p ↦ rw (p, value_of) (go (entries_from y 0 0 at (b ∷ s)) (entries_some (b ∷ s) y 0 0 at))
]
  where
    never : {P : Type 0} → false ≡ true → P
    never e = cc

    go : (x : Value) → Some (b ∷ s) x → x ≡ not_numbers
    go not_numbers k = refl
    go (numbers [] e) k = elim k [ ]
    go (numbers (v ∷ ns) e) k = never (sym h ∙ k)

-- two numbers that are the same end at one place
same_end : (v at w e : ℕ) → read v at ≡ read w e → at ≡ e
same_end v at w e h =
    let p : ◌≡◌ {A = Taken} (record { value = v; end = at }) (record { value = w; end = e }) = cc in
    ap (λ (t : Taken). t.end) p

-- a number that has been read ends within s, and takes a byte at least
end_within : (n v at w e l : ℕ) → ended n v at ≡ read w e → (at + 1 ≤ e + n) × (e ≤ at + l)
unfolding ended
end_within n v at w e l h = go (eqb n 0) refl
  where
    go : (z : Bool) → eqb n 0 ≡ z → (at + 1 ≤ e + n) × (e ≤ at + l)
    go true p = let q : None ≡ read w e = rw p at h in cc
    go false p =
        let k = same_end v at w e (rw p at h) in
        let z = eqb-false n 0 p in
        (omega arith, omega arith)

number_within : (s : List ℕ) (n v at w e : ℕ) → number_from n v at s ≡ read w e → (at + 1 ≤ e + n) × (e ≤ at + length s)
unfolding number_from
number_within [] n v at w e h = end_within n v at w e 0 h
number_within (b ∷ s) n v at w e h = go (number_within s (n + 1) (v * 10 + (b - 48)) (at + 1) w e) (is_digit b) refl (full n v) refl
  where
    go : (number_from (n + 1) (v * 10 + (b - 48)) (at + 1) s ≡ read w e → (at + 1 + 1 ≤ e + (n + 1)) × (e ≤ at + 1 + length s))
        → (d : Bool) → is_digit b ≡ d → (f : Bool) → full n v ≡ f → (at + 1 ≤ e + n) × (e ≤ at + suc (length s))
    go ih true p true q = let k : None ≡ read w e = rw (p, q, number_from) at h in cc
    go ih true p false q = let k = ih (rw (p, q, number_from) at h) in (omega arith, omega arith)
    go ih false p f q = end_within n v at w e (suc (length s)) (rw (p, number_from) at h)

coded_within : (y : ℕ) (s : List ℕ) (at w e : ℕ) → coded y (number_from 0 0 at s) ≡ read w e → (at + 1 ≤ e) × (e ≤ at + length s)
coded_within y s at w e h = go (number_from 0 0 at s) refl h
  where
    go : (x : Option Taken) → number_from 0 0 at s ≡ x → coded y x ≡ read w e → (at + 1 ≤ e) × (e ≤ at + length s)
    go (Got t) p q =
        let z = same_end (code y t.value) t.end w e (unfold coded in q) in
        let k = number_within s 0 0 at t.value t.end p in
        (omega arith, omega arith)
    go None p q =
        let r : None ≡ read w e = unfold coded in q in
        cc

entry_within : (y : ℕ) (s : List ℕ) (at w e : ℕ) → entry_at y at s ≡ read w e → (at + 1 ≤ e) × (e ≤ at + length s)
unfolding entry_at
entry_within zero s at w e h = let k = number_within s 0 0 at w e h in (omega arith, omega arith)
entry_within (suc y) [] at w e h = cc
entry_within (suc y) (b ∷ s) at w e h = go (eqb b 120) refl
  where
    go : (t : Bool) → eqb b 120 ≡ t → (at + 1 ≤ e) × (e ≤ at + suc (length s))
    go true p = let k = coded_within 2 s (at + 1) w e (rw (p, entry_at) at h) in (omega arith, omega arith)
    go false p = let k = coded_within 1 (b ∷ s) at w e (rw (p, entry_at) at h) in (omega arith, omega arith)

module _ (y : ℕ) (file : List ℕ) (at v : ℕ) where
  -- the place after the entry is in the file, and past `at`
  pub read_within : at ≤ length file → (e : ℕ) → entry_at y at (drop at file) ≡ read v e → (at < e) × (e ≤ length file)
  read_within h e p =
      let w = entry_within y (drop at file) at v e p in
      let l = length-drop at file in
      (omega arith, omega arith)

  -- what stands after an entry
  pub after_end : length file ≤ at → after_entry y v at (drop at file) ≡ not_numbers
  after_end h = rw (rest_end file at h)

  pub after_lf : at < length file → get_or file at 0 ≡ 10 → after_entry y v at (drop at file) ≡ numbers (v ∷ []) (at + 1)
  after_lf h e = rw (rest_cons file at h, eq-eqb _ _ e, after_entry)

  pub after_comma : at < length file → get_or file at 0 ≡ 44 → after_entry y v at (drop at file) ≡ with_first v (entries_from y 0 0 (at + 1) (drop (at + 1) file))
  after_comma h e = rw (rest_cons file at h, e)

  pub after_other : at < length file → (get_or file at 0 ≡ 10 → ⊥) → (get_or file at 0 ≡ 44 → ⊥) → after_entry y v at (drop at file) ≡ not_numbers
  after_other h e f = rw (rest_cons file at h, ne_eqb _ _ e, ne_eqb _ _ f, after_entry)

-- the entries from `at` on, from the one that is read there
module _ (y : ℕ) (k : y ≤ 1) (file : List ℕ) (at : ℕ) where
  pub entries_read : (v e : ℕ) → entry_at y at (drop at file) ≡ read v e → entries_from y 0 0 at (drop at file) ≡ after_entry y v e (drop e file)
  entries_read v e h = entries_entry file _ y at k refl ∙ ap (after y file) h

  pub entries_fault : entry_at y at (drop at file) ≡ None → entries_from y 0 0 at (drop at file) ≡ not_numbers
  entries_fault h = entries_entry file _ y at k refl ∙ ap (after y file) h

-- the value at `at`, from the byte there
module _ (y : ℕ) (file : List ℕ) (at : ℕ) where
  pub value_entries : at < length file → (get_or file at 0 ≡ 10 → ⊥) → value_of y at (drop at file) ≡ entries_from y 0 0 at (drop at file)
  unfolding value_of
  value_entries h e = rw (rest_cons file at h, ne_eqb _ _ e, value_of)

  pub value_lf : at < length file → get_or file at 0 ≡ 10 → value_of y at (drop at file) ≡ numbers [] (at + 1)
  unfolding value_of
  value_lf h e = rw (rest_cons file at h, eq-eqb _ _ e, value_of)

  pub value_end : length file ≤ at → value_of y at (drop at file) ≡ not_numbers
  unfolding value_of
  value_end h = rw (rest_end file at h)

-- the value at `at`, from what reading a number there finds
pub value_read : (file s : List ℕ) (at v e : ℕ) → drop at file ≡ s → number_from 0 0 at s ≡ read v e → value_at at s ≡ after_entry 0 v e (drop e file)
unfolding number_from ended is_digit value_of entry_at
value_read file [] at v e d h = cc
value_read file (b ∷ s) at v e d h = go (eqb b 10) refl
  where
    go : (t : Bool) → eqb b 10 ≡ t → value_at at (b ∷ s) ≡ after_entry 0 v e (drop e file)
    go true p = let q : None ≡ read v e = rw (eqb-true b 10 p) at h in cc
    go false p = rw (p, value_of) (entries_entry file (b ∷ s) 0 at (omega arith) d ∙ ap (after 0 file) h)
