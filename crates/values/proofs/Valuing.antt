-- The steps of valuing a symbol's term: its arguments one after the other, then its own sheet from theirs.
use mathlib.Core.Path.{◌≡◌, refl, ap}
use mathlib.Core.Logic.{inr, ⊎_elim}
use mathlib.Core.List.{List, [], ◌∷◌, map}
use Prim.Native.Nat.{ℕ, zero, suc, ◌+◌, ◌-◌, ◌*◌, ◌^◌, ◌≤◌, ◌<◌}
use native.Mathlib.Nat.{mul-le-mul_right}
use native.Mathlib.Omega.{arith}
use lib.ListN.{length, get_or, set, take}
use Rattle.sets.specs.Sets.{Set}
use Rattle.woven.proofs.Indexing.{within}
use Rattle.std.specs.declared.option.Option.{Option}
use Rattle.woven.specs.Ready.{Ready}
use Rattle.values.specs.Lanes.{sheet_of}
use Rattle.values.specs.Rows.{Room, Apart, Gatherable, Gathered}
use Rattle.values.specs.Standing.{Stands, Kept, Noted, Valuable, Valued}
use Rattle.values.proofs.Sheets.{same_within, apart, room, sheet_where}
use Rattle.values.proofs.Standing.{moves, StandsRow, RowValued, within_room, sheet_room, subterms, first_stands, others_stand, symbol_valued}
use Rattle.values.proofs.Keeping.{Lacks, LacksRow, lacks_symbol, kept_beside, kept_more, kept_noted}

-- A sheet's first row is a number of 64 bits.
pub sheet_fits : (b k : ℕ) → b < 52 → k ≤ 64 → b * k < 2 ^ 64
sheet_fits b k h hk = omega (arith, mul-le-mul_right {m = b} {n = 52} k (omega arith))

-- A sheet behind that of the place `at`.
abbrev pub Behind : (at r : ℕ) → Type 0
Behind at r = (at < r) × (r < 52)

-- Some arguments are left to value: a row of terms at a place.
pub record Ahead (arities words heads tokens : List ℕ) (near : Option ℕ) (k p left : ℕ) (ends : List ℕ) (m : List (List ℕ)) : Type 0 where
  pub row : StandsRow arities tokens p left
  pub room : 52 * k ≤ length m
  pub kept : Kept (moves arities words heads) arities tokens k near m ends

module _ {arities words heads tokens : List ℕ} {near : Option ℕ} {k : ℕ} where
  pub ahead_first : {at n : ℕ} {ends : List ℕ} {m : List (List ℕ)} → Valuable arities words heads tokens near k at ends m → get_or tokens at 0 < 64 → n ≡ get_or arities (get_or tokens at 0) 0
      → Ahead arities words heads tokens near k (at + 1) n ends m
  ahead_first {at = at} v hs e = record { row = rw e (subterms arities tokens at (get_or arities (get_or tokens at 0) 0) v.stands hs refl); room = v.room; kept = v.kept }

  module _ {p left : ℕ} {ends : List ℕ} {m : List (List ℕ)} (a : Ahead arities words heads tokens near k p left ends m) (some : 0 < left) where
    pub ahead_stands : Stands arities tokens p
    ahead_stands = first_stands arities tokens p left some a.row

    pub ahead_next : {ends' : List ℕ} {m' : List (List ℕ)} {next : ℕ}
        → Valued (moves arities words heads) arities tokens k m p m' next × Kept (moves arities words heads) arities tokens k near m' ends'
        → Ahead arities words heads tokens near k next (left - 1) ends' m'
    ahead_next (v, kept) = record { row = others_stand arities tokens (moves arities words heads) k some v a.row; room = omega (arith, a.room, v.long); kept = kept }

    pub ahead_valuable : {at : ℕ} {ends₀ : List ℕ} {m₀ : List (List ℕ)} → Valuable arities words heads tokens near k at ends₀ m₀ → Valuable arities words heads tokens near k p ends m
    ahead_valuable v = record { tokens_long = v.tokens_long; stands = ahead_stands; room = a.room; kept = a.kept }

    -- Its sheet lies behind those of the places before it.
    pub ahead_behind : {r : ℕ} → r ≡ sheet_of tokens p → (at : ℕ) → at < p → Behind at r
    ahead_behind e at h = let here = within_room ahead_stands in (⊎_elim (λ w. omega arith) (λ w. omega arith) (sheet_where tokens p), omega (arith, sheet_room arities tokens p ahead_stands))

-- A symbol's arguments are valued one after the other: what is known after the first, the second and the third.
module _ {arities words heads tokens : List ℕ} {near : Option ℕ} {k at n : ℕ} {ends : List ℕ} {m : List (List ℕ)} (v : Valuable arities words heads tokens near k at ends m)
    (hs : get_or tokens at 0 < 64) (e : n ≡ get_or arities (get_or tokens at 0) 0) where
  module _ {next : ℕ} {ends' : List ℕ} {m' : List (List ℕ)} (some : 0 < n)
      (w : Valued (moves arities words heads) arities tokens k m (at + 1) m' next × Kept (moves arities words heads) arities tokens k near m' ends') where
    pub after_first : Ahead arities words heads tokens near k next (n - 1) ends' m'
    after_first = ahead_next (ahead_first v hs e) some w

    module _ {next₂ : ℕ} {ends₂ : List ℕ} {m₂ : List (List ℕ)} (more : 0 < n - 1)
        (w₂ : Valued (moves arities words heads) arities tokens k m' next m₂ next₂ × Kept (moves arities words heads) arities tokens k near m₂ ends₂) where
      pub after_second : Ahead arities words heads tokens near k next₂ (n - 1 - 1) ends₂ m₂
      after_second = ahead_next after_first more w₂

      pub after_third : {next₃ : ℕ} {ends₃ : List ℕ} {m₃ : List (List ℕ)} → 0 < n - 1 - 1
          → Valued (moves arities words heads) arities tokens k m₂ next₂ m₃ next₃ × Kept (moves arities words heads) arities tokens k near m₃ ends₃
          → Ahead arities words heads tokens near k next₃ (n - 1 - 1 - 1) ends₃ m₃
      after_third last w₃ = ahead_next after_second last w₃

-- A symbol's words may be gathered into its sheet.
module _ {arities words heads tokens : List ℕ} {near : Option ℕ} {k at n : ℕ} {ends : List ℕ} {m mid : List (List ℕ)} (ready : Ready arities words heads k)
    (v : Valuable arities words heads tokens near k at ends m)
    (hs : get_or tokens at 0 < 64) (arity : get_or arities (get_or tokens at 0) 0 ≡ n) (long : 52 * k ≤ length mid) where
  gatherable : (kids : List ℕ) → ((j : ℕ) → j < n → Room k mid (get_or kids j 0)) → ((j : ℕ) → j < n → Apart k (get_or kids j 0) (at * k))
      → Gatherable words heads (get_or tokens at 0) n k mid kids (at * k)
  gatherable kids kr ka = let f = get_or tokens at 0 in record {
    indexed = ready.indexed;
    symbol = hs;
    few = omega (arith, ready.ranks f);
    target = λ i lo hi. ready.target i (omega (arith, within words heads ready.indexed f hs));
    argument = λ i j lo hi hj.
        ready.argument i j (omega (arith, within words heads ready.indexed f hs))
        (omega (arith, ap (λ g. get_or arities g 0) (ready.indexed.sorted.own f i hs lo hi)));
    kids_room = kr;
    kids_apart = ka;
    out_room = room k at (omega (arith, within_room v.stands)) long;
  }

  pub gatherable_leaf : (kids : List ℕ) → n ≡ 0 → Gatherable words heads (get_or tokens at 0) n k mid kids (at * k)
  gatherable_leaf kids z = gatherable kids (λ j h. absurd (omega arith)) (λ j h. absurd (omega arith))

  pub gatherable_three : (a b c : ℕ) → Behind at a → Behind at b → Behind at c → Gatherable words heads (get_or tokens at 0) n k mid (a * k ∷ (b * k ∷ (c * k ∷ []))) (at * k)
  gatherable_three a b c ha hb hc =
      gatherable (a * k ∷ (b * k ∷ (c * k ∷ [])))
      (λ j h. three (Room k mid) j (omega (arith, ready.ranks (get_or tokens at 0))) (roomy a ha) (roomy b hb) (roomy c hc))
      (λ j h. three (λ x. Apart k x (at * k)) j (omega (arith, ready.ranks (get_or tokens at 0))) (off a ha) (off b hb) (off c hc))
    where
      roomy : (r : ℕ) → Behind at r → Room k mid (r * k)
      roomy r h = room k r h.1 long

      off : (r : ℕ) → Behind at r → Apart k (r * k) (at * k)
      off r h = apart k r at (inr h.0)

      three : (P : ℕ → Type 0) (j : ℕ) → j < 3 → P (a * k) → P (b * k) → P (c * k) → P (get_or (a * k ∷ (b * k ∷ (c * k ∷ []))) j 0)
      three P zero h pa pb pc = pa
      three P (suc zero) h pa pb pc = pb
      three P (suc (suc zero)) h pa pb pc = pc
      three P (suc (suc (suc j))) h pa pb pc = absurd (omega arith)

-- The symbol's sheet is filled, and what is kept stays right; it is kept too where its arguments are.
module _ {arities words heads tokens : List ℕ} {near : Option ℕ} {k : ℕ} {m : List (List ℕ)} {at n : ℕ} {bs kids : List ℕ} {mid after : List (List ℕ)} {next : ℕ} {ends : List ℕ}
    (s : Stands arities tokens at) (hs : get_or tokens at 0 < 64) (arity : get_or arities (get_or tokens at 0) 0 ≡ n) (pick : (g : ℕ → Set) → take n (map g kids) ≡ map g bs)
    (r : RowValued arities tokens (moves arities words heads) k m (at + 1) n bs mid next)
    (g : Gathered arities words heads (get_or tokens at 0) n k mid kids (at * k) after) (kept : Kept (moves arities words heads) arities tokens k near mid ends) where
  filled : Valued (moves arities words heads) arities tokens k m at after next
  filled = symbol_valued s hs arity pick r g

  filled_kept : Kept (moves arities words heads) arities tokens k near after ends
  filled_kept = kept_beside s filled (same_within k at mid after g.within) kept

  lacking : LacksRow arities tokens near (at + 1) n → Lacks arities tokens near at
  lacking = lacks_symbol s hs arity

  pub filled_more : LacksRow arities tokens near (at + 1) n
      → Valued (moves arities words heads) arities tokens k m at after next × Kept (moves arities words heads) arities tokens k near after (set ends at next)
  filled_more lacks = (filled, kept_more s filled (lacking lacks) filled_kept)

  pub filled_noted : {a b c : ℕ} {ends' : List ℕ} → (0 < get_or ends a 0 → 0 < get_or ends b 0 → 0 < get_or ends c 0 → LacksRow arities tokens near (at + 1) n) → Noted ends at a b c next ends'
      → Valued (moves arities words heads) arities tokens k m at after next × Kept (moves arities words heads) arities tokens k near after ends'
  filled_noted lacks note = (filled, kept_noted s filled (λ ha hb hc. lacking (lacks ha hb hc)) note filled_kept)
