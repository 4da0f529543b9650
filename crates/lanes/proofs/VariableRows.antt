-- The variables' sheets: where they lie, what their rows say of the sets in the lanes, and how a class for each lane gets into one of them.
use mathlib.Core.Path.{◌≡◌, refl, sym, ap, ◌∙◌, fun_ext}
use mathlib.Core.Bool.{false, ◌&&◌, ◌||◌, or-false}
use mathlib.Core.Logic.{◌⊎◌, inl, inr}
use mathlib.Core.List.{List, []}
use Prim.Native.Nat.{ℕ, ◌+◌, ◌*◌, ◌^◌, ◌/◌, ◌%◌, ◌≤◌, ◌<◌}
use native.Mathlib.Nat.{suc-mul, mul-le-mul_right, div-add-mod', div-le_self, mod-lt}
use native.Mathlib.Decide.{dec_lt, ℕ_discrete}
use native.Mathlib.Omega.{arith}
use lib.Arith.{digits_div, digits_mod}
use lib.Bits.{bit_or}
use lib.Dec.{eqb, ltb}
use lib.ListN.{length, get_or, set, length-set, length-replicate}
use lib.Seq.{get_or-set_same, get_or-set_other}
use borrow.Author.Tests.{lt-ltb, le-ltb, eq-eqb, ne_eqb}
use Rattle.sets.specs.Sets.{Set, mem, none, plus, under, all_mask}
use Rattle.sets.proofs.Laws.{mem_with}
use Rattle.theory.proofs.Bools.{and_on, and_off}
use Rattle.values.specs.Lanes.{lit, given}
use Rattle.values.specs.Rows.{Within}
use Rattle.values.proofs.Sheets.{room, same_wider, same_within, same_then}
use Rattle.values.proofs.Rows.{none_lit, ones, all_lit_lem, row_within}
use Rattle.lanes.specs.Batches.{Roomy, Touched, Full, Lighted, Paired, BothTouched}
use Rattle.lanes.proofs.Stays.{SameRows, given_stays, touched_rows, other_rows}

-- One lane of a row is lit.
module _ (row : List ℕ) (l : ℕ) (wide : length row ≡ 8) (low : l < 512) where
  abbrev pub with_lane : List ℕ
  with_lane = set row (l / 64) (bit_or (get_or row (l / 64) 0) (2 ^ (l % 64)))

  -- In the same word the lanes differ as their places do.
  same_word : (j : ℕ) → j / 64 ≡ l / 64 → eqb (l % 64) (j % 64) ≡ eqb l j
  same_word j e = elim (ℕ_discrete l j) [
    | yes is ↦ ap (λ n. eqb (l % 64) (n % 64)) (sym is) ∙ eq-eqb (l % 64) (l % 64) refl ∙ sym (eq-eqb l j is)
    | no not ↦ ne_eqb (l % 64) (j % 64) (λ s. not (omega arith)) ∙ sym (ne_eqb l j not)
  ]

  one_lane : (j : ℕ) → lit with_lane j ≡ (lit row j || eqb l j)
  one_lane j = elim (ℕ_discrete (j / 64) (l / 64)) [
    | yes e ↦
        ap (λ n. mem n (j % 64)) (ap (λ i. get_or with_lane i 0) e ∙ get_or-set_same row (l / 64) _ 0 (omega arith))
        ∙ ap (λ (s : Set). s (j % 64)) (mem_with (get_or row (l / 64) 0) (l % 64))
        ∙ ap (λ b. mem (get_or row (l / 64) 0) (j % 64) || b) (same_word j e)
        ∙ ap (λ i. mem (get_or row i 0) (j % 64) || eqb l j) (sym e)
    | no other ↦
        ap (λ n. mem n (j % 64)) (get_or-set_other row (l / 64) (j / 64) _ 0 other)
        ∙ sym (or-false (lit row j)) ∙ ap (λ b. lit row j || b) (sym (ne_eqb l j (λ is. other (ap (λ n. n / 64) (sym is)))))
  ]

pub lighted : (m : List (List ℕ)) (i l : ℕ) (inside : i < length m) (wide : length (get_or m i []) ≡ 8) (low : l < 512) → Lighted m i l (set m i (with_lane (get_or m i []) l wide low))
lighted m i l inside wide low =
    let row = with_lane (get_or m i []) l wide low in
    let is : get_or (set m i row) i [] ≡ row = get_or-set_same m i row [] inside in
    record {
      long = length-set m i row;
      wide = ap length is ∙ length-set (get_or m i []) (l / 64) _;
      lit = λ j h. ap (λ r. lit r j) is ∙ one_lane (get_or m i []) l wide low j;
      same = λ r other. get_or-set_other m i r row [] other;
    }

module _ (k : ℕ) where
  pub sheet_room : (x : ℕ) (m : List (List ℕ)) → Roomy k m → x < 4 → (48 + x) * k + k ≤ length m
  sheet_room x m roomy h = room k (48 + x) (omega arith) roomy

  module _ (m after : List (List ℕ)) where
    pub touched : (x : ℕ) → Within k m ((48 + x) * k) after → Touched k x (x + 1) m after
    touched x only = record {
      long = only.long;
      same = same_wider k (48 + x) (48 + x + 1) m after (same_within k (48 + x) m after only) (48 + x) (48 + (x + 1)) (omega arith) (omega arith);
    }

    other_sheet : (x y : ℕ) → Within k m ((48 + y) * k) after → (x ≡ y → ⊥) → SameRows k m after x
    other_sheet x y only = other_rows k m after y (touched y only) x

    light_within : (a c l : ℕ) → c < k → Lighted m (a + c) l after → Within k m a after
    light_within a c l low done = row_within k m a c m after low done.long done.same (record { long = refl; same = λ i out. refl })

  module _ (m : List (List ℕ)) (l x : ℕ) where
    -- The set that a variable has in a lane, from its rows.
    given_is : (s : Set) → ((q : ℕ) → q < k → lit (get_or m ((48 + x) * k + q) []) l ≡ s q) → ((q : ℕ) → k ≤ q → s q ≡ false) → given k m l x ≡ s
    unfolding given
    given_is s inside past = fun_ext (λ q. elim (dec_lt q k) [
      | yes h ↦ and_on (ltb q k) _ (lt-ltb q k h) ∙ inside q h
      | no nh ↦ and_off (ltb q k) _ (le-ltb q k (omega arith)) ∙ sym (past q (omega arith))
    ])

    given_one : (c : ℕ) → c < k → ((q : ℕ) → q < k → lit (get_or m ((48 + x) * k + q) []) l ≡ eqb c q) → given k m l x ≡ plus none c
    given_one c low each = given_is (plus none c) each (λ q h. ne_eqb c q (λ e. omega arith))

  -- A sheet of empty rows, one of which is filled.
  pub fixed : (m : List (List ℕ)) (x c l : ℕ) → c < k → (48 + x) * k + k ≤ length m → Full k m ((48 + x) * k) 0 → l < 512
      → given k (set m ((48 + x) * k + c) ones) l x ≡ plus none c
  fixed m x c l low room full h = given_one _ l x c low (λ q hq. elim (ℕ_discrete c q) [
    | yes e ↦
        ap (λ i. lit (get_or (set m ((48 + x) * k + c) ones) ((48 + x) * k + i) []) l) (sym e)
        ∙ ap (λ r. lit r l) (get_or-set_same m ((48 + x) * k + c) ones [] (omega arith)) ∙ all_lit_lem l h ∙ sym (eq-eqb c q e)
    | no other ↦
        ap (λ r. lit r l) (get_or-set_other m ((48 + x) * k + c) ((48 + x) * k + q) ones [] (λ e. other (omega arith)) ∙ full q hq)
        ∙ none_lit l ∙ sym (ne_eqb c q other)
  ])

  pub freed : (m : List (List ℕ)) (x l : ℕ) → Full k m ((48 + x) * k) all_mask → l < 512 → given k m l x ≡ under k
  freed m x l full h = given_is m l x (under k) (λ q hq. ap (λ r. lit r l) (full q hq) ∙ all_lit_lem l h ∙ sym (lt-ltb q k hq)) (λ q hq. le-ltb q k hq)

-- The variables from `first` to before x have their sets in every lane, and only their sheets are changed.
pub record Upto (k first : ℕ) (s : ℕ → Set) (m₀ m : List (List ℕ)) (x : ℕ) : Type 0 where
  pub each : (y l : ℕ) → first ≤ y → y < x → l < 512 → given k m l y ≡ s y
  pub only : Touched k first x m₀ m

module _ (k first : ℕ) (s : ℕ → Set) where
  pub upto_more : (m₀ m after : List (List ℕ)) (x : ℕ) → first ≤ x → Upto k first s m₀ m x → ((l : ℕ) → l < 512 → given k after l x ≡ s x) → Touched k x (x + 1) m after
      → Upto k first s m₀ after (x + 1)
  upto_more m₀ m after x from old new only = record {
    each = λ y l low high h. elim (dec_lt y x) [
      | yes before ↦ given_stays k m after y l (touched_rows k m after x (x + 1) only y (inl before)) ∙ old.each y l low before h
      | no nb ↦ let e : y ≡ x = omega arith in ap (given k after l) e ∙ new l h ∙ ap s (sym e)
    ];
    only = record {
      long = only.long ∙ old.only.long;
      same = same_then k (48 + first) (48 + (x + 1)) m₀ m after (same_wider k (48 + first) (48 + x) m₀ m old.only.same (48 + first) (48 + (x + 1)) (omega arith) (omega arith))
          (same_wider k (48 + x) (48 + (x + 1)) m after only.same (48 + first) (48 + (x + 1)) (omega arith) (omega arith));
    };
  }

-- The variable x has in each lane j before l the class d j, if that is below k, and no class in the other lanes.
pub record Laned (k x : ℕ) (d : ℕ → ℕ) (m : List (List ℕ)) (l : ℕ) : Type 0 where
  pub wide : (q : ℕ) → q < k → length (get_or m ((48 + x) * k + q) []) ≡ 8
  pub each : (q j : ℕ) → q < k → j < 512 → lit (get_or m ((48 + x) * k + q) []) j ≡ (ltb j l && eqb (d j) q)

-- Whether the lane j is in row q, with one lane more.
module _ (d : ℕ → ℕ) (q l j : ℕ) where
  lane_else : (j ≡ l → ⊥) → ltb j l ≡ ltb j (l + 1)
  lane_else ne = elim (dec_lt j l) [
    | yes h ↦ lt-ltb j l h ∙ sym (lt-ltb j (l + 1) (omega arith))
    | no nh ↦ le-ltb j l (omega arith) ∙ sym (le-ltb j (l + 1) (omega arith))
  ]

  lane_past : (d l ≡ q → ⊥) → (ltb j l && eqb (d j) q) ≡ (ltb j (l + 1) && eqb (d j) q)
  lane_past other = elim (ℕ_discrete j l) [
    | yes e ↦ and_off (ltb j l) _ (le-ltb j l (omega arith)) ∙ sym (ne_eqb (d j) q (λ is. other (ap d (sym e) ∙ is))) ∙ sym (and_on (ltb j (l + 1)) _ (lt-ltb j (l + 1) (omega arith)))
    | no ne ↦ ap (λ b. b && eqb (d j) q) (lane_else ne)
  ]

  lane_here : d l ≡ q → ((ltb j l && eqb (d j) q) || eqb l j) ≡ (ltb j (l + 1) && eqb (d j) q)
  lane_here is = elim (ℕ_discrete j l) [
    | yes e ↦
        ap (λ b. b || eqb l j) (and_off (ltb j l) _ (le-ltb j l (omega arith))) ∙ eq-eqb l j (sym e)
        ∙ sym (and_on (ltb j (l + 1)) _ (lt-ltb j (l + 1) (omega arith)) ∙ eq-eqb (d j) q (ap d e ∙ is))
    | no ne ↦ ap (λ b. (ltb j l && eqb (d j) q) || b) (ne_eqb l j (λ e. ne (sym e))) ∙ or-false (ltb j l && eqb (d j) q) ∙ ap (λ b. b && eqb (d j) q) (lane_else ne)
  ]

module _ (k x : ℕ) (d : ℕ → ℕ) where
  laned_none : (m : List (List ℕ)) → Full k m ((48 + x) * k) 0 → Laned k x d m 0
  laned_none m full = record {
    wide = λ q hq. ap length (full q hq) ∙ length-replicate {A = ℕ} 8 0;
    each = λ q j hq h. ap (λ r. lit r j) (full q hq) ∙ none_lit j ∙ sym (and_off (ltb j 0) _ (le-ltb j 0 (omega arith)));
  }

  laned_past : (m : List (List ℕ)) (l : ℕ) → k ≤ d l → Laned k x d m l → Laned k x d m (l + 1)
  laned_past m l past old = record { wide = old.wide; each = λ q j hq h. old.each q j hq h ∙ lane_past d q l j (λ e. omega arith) }

  laned_kept : (m after : List (List ℕ)) (l : ℕ) → ((q : ℕ) → q < k → get_or after ((48 + x) * k + q) [] ≡ get_or m ((48 + x) * k + q) []) → Laned k x d m l → Laned k x d after l
  laned_kept m after l same old = record { wide = λ q hq. ap length (same q hq) ∙ old.wide q hq; each = λ q j hq h. ap (λ r. lit r j) (same q hq) ∙ old.each q j hq h }

  laned_more : (m after : List (List ℕ)) (l c : ℕ) → d l ≡ c → c < k → Lighted m ((48 + x) * k + c) l after → Laned k x d m l → Laned k x d after (l + 1)
  laned_more m after l c is low done old = record {
    wide = λ q hq. elim (ℕ_discrete q c) [
      | yes e ↦ ap (λ q. length (get_or after ((48 + x) * k + q) [])) e ∙ done.wide ∙ old.wide c low
      | no ne ↦ ap length (done.same _ (λ e. ne (omega arith))) ∙ old.wide q hq
    ];
    each = λ q j hq h. elim (ℕ_discrete q c) [
      | yes e ↦
          ap (λ q. lit (get_or after ((48 + x) * k + q) []) j) e ∙ done.lit j h ∙ ap (λ b. b || eqb l j) (old.each c j low h)
          ∙ lane_here d c l j is ∙ ap (λ q. ltb j (l + 1) && eqb (d j) q) (sym e)
      | no ne ↦ ap (λ r. lit r j) (done.same _ (λ e. ne (omega arith))) ∙ old.each q j hq h ∙ lane_past d q l j (λ e. ne (sym e ∙ is))
    ];
  }

  laned_given : (m : List (List ℕ)) (n l c : ℕ) → Laned k x d m n → n ≤ 512 → l < n → d l ≡ c → c < k → given k m l x ≡ plus none c
  laned_given m n l c all few h is low =
      given_one k m l x c low (λ q hq. all.each q l hq (omega arith) ∙ and_on (ltb l n) _ (lt-ltb l n h) ∙ ap (λ c. eqb c q) is)

-- The two digits of a lane's number, counted from `start` on, to the base k.
module _ (k start : ℕ) where
  abbrev high_digit : ℕ → ℕ
  high_digit j = (start + j) / k

  abbrev low_digit : ℕ → ℕ
  low_digit j = (start + j) % k

  high_is : (y z l : ℕ) → z < k → y * k + z ≡ start + l → high_digit l ≡ y
  high_is y z l low e = ap (λ n. n / k) (sym e) ∙ digits_div y low

  low_is : (y z l : ℕ) → z < k → y * k + z ≡ start + l → low_digit l ≡ z
  low_is y z l low e = ap (λ n. n % k) (sym e) ∙ digits_mod y low

  -- y and z are the digits of lane l.
  pub record Digits (y z l : ℕ) : Type 0 where
    pub sum : y * k + z ≡ start + l
    pub low : z < k
    pub few : y ≤ start + l

  pub digits_first : 1 ≤ k → Digits (start / k) (start % k) 0
  digits_first some = record { sum = div-add-mod' start k ∙ omega arith; low = mod-lt start some; few = omega (arith, div-le_self start k) }

  pub digits_next : (y z l : ℕ) → Digits y z l → (z + 1 ≡ k → ⊥) → Digits y (z + 1) (l + 1)
  digits_next y z l old not = record { sum = omega (arith, old.sum); low = omega (arith, old.low); few = omega (arith, old.few) }

  pub digits_carry : (y z l : ℕ) → Digits y z l → z + 1 ≡ k → Digits (y + 1) 0 (l + 1)
  digits_carry y z l old carry = record { sum = omega (arith, old.sum, suc-mul y k); low = omega arith; few = omega (arith, old.few) }

module _ (k hi lo : ℕ) where
  pub both_one : (m after : List (List ℕ)) (x : ℕ) → (x ≡ hi) ⊎ (x ≡ lo) → Within k m ((48 + x) * k) after → BothTouched k hi lo m after
  both_one m after x which only = record {
    long = only.long;
    tokens = λ i h. only.same i (inl (omega (arith, mul-le-mul_right {m = 48} {n = 48 + x} k (omega arith))));
    others = λ y q h low one two. other_sheet k m after y x only (not_own y one two which) q low;
  }
    where
      not_own : (y : ℕ) → (y ≡ hi → ⊥) → (y ≡ lo → ⊥) → (x ≡ hi) ⊎ (x ≡ lo) → y ≡ x → ⊥
      not_own y one two (inl e) is = one (is ∙ e)
      not_own y one two (inr e) is = two (is ∙ e)

  pub both_then : (m₀ m after : List (List ℕ)) → BothTouched k hi lo m₀ m → BothTouched k hi lo m after → BothTouched k hi lo m₀ after
  both_then m₀ m after old new = record {
    long = new.long ∙ old.long;
    tokens = λ i h. new.tokens i h ∙ old.tokens i h;
    others = λ x q h low one two. new.others x q h low one two ∙ old.others x q h low one two;
  }

-- Two variables get the digits of the lanes' numbers.
module _ (k hi lo start : ℕ) where
  -- The first lanes of hi and the first lanes of lo have their digits, and no other rows are changed.
  pub record Written (m₀ m : List (List ℕ)) (highs lows : ℕ) : Type 0 where
    pub high : Laned k hi (high_digit k start) m highs
    pub low : Laned k lo (low_digit k start) m lows
    pub both : BothTouched k hi lo m₀ m

  pub written_paired : (m₀ m : List (List ℕ)) (n : ℕ) → n ≤ 512 → Written m₀ m n n → Paired k m hi lo start n
  written_paired m₀ m n few all = record {
    high = λ y z l hy hz h e. laned_given k hi (high_digit k start) m n l y all.high few h (high_is k start y z l hz e) hy;
    low = λ y z l hy hz h e. laned_given k lo (low_digit k start) m n l z all.low few h (low_is k start y z l hz e) hz;
  }

  module _ (two : hi ≡ lo → ⊥) where
    pub written_none : (m after : List (List ℕ)) → Full k m ((48 + hi) * k) 0 → Full k after ((48 + lo) * k) 0 → Within k m ((48 + lo) * k) after → Written after after 0 0
    written_none m after one other only = record {
      high = laned_kept k hi (high_digit k start) m after 0 (other_sheet k m after hi lo only two) (laned_none k hi (high_digit k start) m one);
      low = laned_none k lo (low_digit k start) after other;
      both = record { long = refl; tokens = λ i h. refl; others = λ x q h low one two. refl };
    }

    module _ (m₀ m : List (List ℕ)) (y z l : ℕ) (next : Digits k start y z l) where
      -- Past the last pair hi has no class.
      pub high_past : k ≤ y → Written m₀ m l l → Written m₀ m (l + 1) l
      high_past past old = record {
        high = laned_past k hi (high_digit k start) m l (omega (arith, high_is k start y z l next.low next.sum)) old.high;
        low = old.low;
        both = old.both;
      }

      pub high_lit : (after : List (List ℕ)) → y < k → Lighted m ((48 + hi) * k + y) l after → Written m₀ m l l → Written m₀ after (l + 1) l
      high_lit after inside done old = let only = light_within k m after ((48 + hi) * k) y l inside done in record {
        high = laned_more k hi (high_digit k start) m after l y (high_is k start y z l next.low next.sum) inside done old.high;
        low = laned_kept k lo (low_digit k start) m after l (other_sheet k m after lo hi only (λ e. two (sym e))) old.low;
        both = both_then k hi lo m₀ m after old.both (both_one k hi lo m after hi (inl refl) only);
      }

      pub low_lit : (after : List (List ℕ)) → Lighted m ((48 + lo) * k + z) l after → Written m₀ m (l + 1) l → Written m₀ after (l + 1) (l + 1)
      low_lit after done old = let only = light_within k m after ((48 + lo) * k) z l next.low done in record {
        high = laned_kept k hi (high_digit k start) m after (l + 1) (other_sheet k m after hi lo only two) old.high;
        low = laned_more k lo (low_digit k start) m after l z (low_is k start y z l next.low next.sum) next.low done old.low;
        both = both_then k hi lo m₀ m after old.both (both_one k hi lo m after lo (inr refl) only);
      }
