-- Arrays that are filled from the front.
use mathlib.Core.Path.{◌≡◌, refl, ap, ◌∙◌}
use mathlib.Core.List.{List, [], ◌∷◌, ◌++◌, map, append-nil, Memᴰ}
use Prim.Native.Nat.{ℕ, zero, suc, ◌+◌, ◌-◌, ◌≤◌, ◌<◌}
use native.Mathlib.Omega.{arith}
use lib.ListN.{length, drop, take, get_or, set, drop_of_length-le}
use borrow.Rule.Slice.PartMut.{put_mid}
use lib.Seq.{take_at, drop_at}
use Rattle.theory.specs.Lists.{count_from}
use Rattle.fields.specs.Padded.{padded}
use Rattle.blocks.specs.Packed.{filled}

-- Numbers are filled up with zeros.
pub padded_filled : (n : ℕ) (xs : List ℕ) → padded n xs ≡ filled 0 n xs
unfolding padded filled
padded_filled zero xs = refl
padded_filled (suc n) [] = ap (λ (l : List ℕ). 0 ∷ l) (padded_filled n [])
padded_filled (suc n) (x ∷ xs) = ap (λ (l : List ℕ). x ∷ l) (padded_filled n xs)

module _ {X : Type 0} (z : X) where
  pub filled_length : (n : ℕ) (xs : List X) → length (filled z n xs) ≡ n
  unfolding filled
  filled_length zero xs = refl
  filled_length (suc n) [] = ap suc (filled_length n [])
  filled_length (suc n) (x ∷ xs) = ap suc (filled_length n xs)

  -- one more
  snoc : (n : ℕ) (xs : List X) (v : X) → length xs < n → set (filled z n xs) (length xs) v ≡ filled z n (xs ++ (v ∷ []))
  unfolding filled
  snoc zero xs v h = absurd (omega arith)
  snoc (suc n) [] v h = refl
  snoc (suc n) (x ∷ xs) v h = ap (λ (l : List X). x ∷ l) (snoc n xs v (omega arith))

  pub filled_step : (n : ℕ) (xs : List X) (at : ℕ) (v : X) → length xs ≡ at → at < n → set (filled z n xs) at v ≡ filled z n (xs ++ (v ∷ []))
  filled_step n xs at v e h = rw (← e) (snoc n xs v (omega arith))

  -- more of them, laid over what stands there
  laid : (n : ℕ) (vs : List X) → length vs ≤ n → vs ++ drop (length vs) (filled z n []) ≡ filled z n vs
  unfolding filled
  laid n [] h = refl
  laid zero (v ∷ vs) h = absurd (omega arith)
  laid (suc n) (v ∷ vs) h = ap (λ (l : List X). v ∷ l) (laid n vs (omega arith))

  laid_behind : (n : ℕ) (xs vs : List X) → length xs + length vs ≤ n → put_mid (length xs) (length vs) (filled z n xs) vs ≡ filled z n (xs ++ vs)
  unfolding filled
  laid_behind n [] vs h = laid n vs (omega arith)
  laid_behind zero (x ∷ xs) vs h = absurd (omega arith)
  laid_behind (suc n) (x ∷ xs) vs h = ap (λ (l : List X). x ∷ l) (laid_behind n xs vs (omega arith))

  pub filled_more : (n : ℕ) (xs vs : List X) (at k : ℕ) → length xs ≡ at → length vs ≡ k → at + k ≤ n → put_mid at k (filled z n xs) vs ≡ filled z n (xs ++ vs)
  filled_more n xs vs at k e f h = rw (← e, ← f) (laid_behind n xs vs (omega arith))

-- the front of what is filled up
pub padded_front : (m n : ℕ) (xs : List ℕ) → m ≤ n → take m (padded n xs) ≡ padded m xs
unfolding padded
padded_front zero n xs h = refl
padded_front (suc m) zero xs h = absurd (omega arith)
padded_front (suc m) (suc n) [] h = ap (λ (l : List ℕ). 0 ∷ l) (padded_front m n [] (omega arith))
padded_front (suc m) (suc n) (x ∷ xs) h = ap (λ (l : List ℕ). x ∷ l) (padded_front m n xs (omega arith))

-- a second half that is written over
pub second_half : {X : Type 0} (k : ℕ) (xs zs ys : List X) → length xs ≡ k → length zs ≡ k → put_mid k k (xs ++ zs) ys ≡ xs ++ ys
second_half k xs zs ys e f = rw (take_at xs zs k e, drop_at xs zs k e, drop_of_length-le zs {i = k} (omega arith), append-nil ys)

pub padded_get : (n : ℕ) (xs : List ℕ) (i : ℕ) → i < n → get_or (padded n xs) i 0 ≡ get_or xs i 0
unfolding padded
padded_get zero xs i h = absurd (omega arith)
padded_get (suc n) [] zero h = refl
padded_get (suc n) [] (suc i) h = padded_get n [] i (omega arith)
padded_get (suc n) (x ∷ xs) zero h = refl
padded_get (suc n) (x ∷ xs) (suc i) h = padded_get n xs i (omega arith)

pub take_padded : (n : ℕ) (xs : List ℕ) → length xs ≤ n → take (length xs) (padded n xs) ≡ xs
unfolding padded
take_padded n [] h = refl
take_padded zero (x ∷ xs) h = absurd (omega arith)
take_padded (suc n) (x ∷ xs) h = ap (λ (l : List ℕ). x ∷ l) (take_padded n xs (omega arith))

pub drop_padded : (n : ℕ) (xs ys : List ℕ) → length xs ≤ n → drop (length xs) (padded n (xs ++ ys)) ≡ padded (n - length xs) ys
unfolding padded
drop_padded n [] ys h = let p : n - 0 ≡ n = omega arith in rw p
drop_padded zero (x ∷ xs) ys h = absurd (omega arith)
drop_padded (suc n) (x ∷ xs) ys h = let p : suc n - suc (length xs) ≡ n - length xs = omega arith in rw p (drop_padded n xs ys (omega arith))

pub append_low : (m : ℕ) (xs ys : List ℕ) → ((i : ℕ) → get_or xs i 0 ≤ m) → ((i : ℕ) → get_or ys i 0 ≤ m) → (i : ℕ) → get_or (xs ++ ys) i 0 ≤ m
append_low m [] ys h g i = g i
append_low m (x ∷ xs) ys h g zero = h 0
append_low m (x ∷ xs) ys h g (suc i) = append_low m xs ys (λ k. h (suc k)) g i

-- a list is what stands at each of its places
listed_from : {X : Type 0} (f : ℕ → X) (d : X) (xs : List X) (k : ℕ) → ((i : ℕ) → i < length xs → f (k + i) ≡ get_or xs i d) → map f (count_from k (length xs)) ≡ xs
unfolding count_from
listed_from f d [] k h = refl
listed_from f d (x ∷ xs) k h =
    let p : k ≡ k + 0 = omega arith in
    let head : f k ≡ x = ap f p ∙ h 0 (omega arith) in
    rw head (ap (λ l. x ∷ l) (listed_from f d xs (suc k) (λ i l. let q : suc k + i ≡ k + suc i = omega arith in ap f q ∙ h (suc i) (omega arith))))

pub listed : {X : Type 0} (f : ℕ → X) (d : X) (xs : List X) → ((i : ℕ) → i < length xs → f i ≡ get_or xs i d) → map f (count_from 0 (length xs)) ≡ xs
listed f d xs h = listed_from f d xs 0 (λ i l. let p : 0 + i ≡ i = omega arith in ap f p ∙ h i l)

pub get_or-mem : {X : Type 0} (xs : List X) (i : ℕ) (d : X) → i < length xs → Memᴰ (get_or xs i d) xs
get_or-mem [] i d h = absurd (omega arith)
get_or-mem (x ∷ xs) zero d h = Memᴰ.head refl
get_or-mem (x ∷ xs) (suc i) d h = Memᴰ.tail (get_or-mem xs i d (omega arith))

pub list_low : (m : ℕ) (xs : List ℕ) → ((q : ℕ) → Memᴰ q xs → q ≤ m) → (i : ℕ) → get_or xs i 0 ≤ m
list_low m [] h i = omega arith
list_low m (q ∷ xs) h zero = h q (Memᴰ.head refl)
list_low m (q ∷ xs) h (suc i) = list_low m xs (λ x p. h x (Memᴰ.tail p)) i

-- a part of a list is no higher
pub taken_low : (m : ℕ) (xs : List ℕ) (n : ℕ) → ((i : ℕ) → get_or xs i 0 ≤ m) → (i : ℕ) → get_or (take n xs) i 0 ≤ m
taken_low m xs zero h i = omega arith
taken_low m [] (suc n) h i = omega arith
taken_low m (x ∷ xs) (suc n) h zero = h 0
taken_low m (x ∷ xs) (suc n) h (suc i) = taken_low m xs n (λ k. h (suc k)) i
