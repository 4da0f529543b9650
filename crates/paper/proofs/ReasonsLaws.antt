-- Tests that stand in the order of their numbers refuse by the smallest number that has a reason.
use mathlib.Core.Path.{◌≡◌, refl, sym, ap, ◌∙◌}
use mathlib.Core.Logic.{◌⊎◌, inl, inr, ◌↔◌}
use mathlib.Core.Bool.{Bool, true, false, false≢true}
use mathlib.Core.List.{List, [], ◌∷◌}
use Prim.Native.Nat.{ℕ, ◌≤◌, ◌<◌}
use native.Mathlib.Omega.{arith}
use native.Mathlib.Decide.{dec_le}
use Rattle.paper.specs.Checked.{Checked, fault, says, ◌>>=◌, ◌>>◌, ◌unless◌}
use Rattle.paper.specs.Fields.{each}
use Rattle.paper.specs.Meaning.{Smallest}
use Rattle.paper.proofs.Checked.{silent}

-- The reasons R decide the judgement j: it refuses by the smallest number that has one; where it says x there is none, and x may be said.
pub record Judges {X : Type 0} (S : X → Type 0) (R : ℕ → Type 0) (j : Checked X) : Type 0 where
  pub faults : (n : ℕ) → j ≡ fault n → Smallest R n
  pub speaks : (x : X) → j ≡ says x → S x × ((n : ℕ) → R n → ⊥)

-- Reasons have numbers from m on.
abbrev pub From : ℕ → (ℕ → Type 0) → Type 0
From m R = (n : ℕ) → R n → m ≤ n

pub judges_fault : {X : Type 0} {S : X → Type 0} {R : ℕ → Type 0} (m : ℕ) → R m → From m R → Judges S R (fault m)
judges_fault {R = R} m r h = record { faults = λ n e. let same : m ≡ n = cc in rw (← same) (record { itself = r; least = h }); speaks = λ x e. absurd (silent e) }

pub judges_says : {X : Type 0} {S : X → Type 0} {R : ℕ → Type 0} (x : X) → ((n : ℕ) → R n → ⊥) → S x → Judges S R (says x)
judges_says {S = S} x clear s = record { faults = λ n e. let z : ◌≡◌ {A = ℕ} 0 1 = cc in absurd (omega arith); speaks = λ y e. let same : x ≡ y = cc in (rw same at s, clear) }

-- It refuses by n exactly when n has a reason and no smaller number has one.
pub judges_exact : {X : Type 0} {S : X → Type 0} {R : ℕ → Type 0} (j : Checked X) → Judges S R j → (n : ℕ) → (j ≡ fault n) ↔ (R n × ((m : ℕ) → m < n → R m → ⊥))
judges_exact (fault a) d n =
    let s = d.faults a refl in (
      λ e. let t = d.faults n e in (t.itself, λ m l r. omega (arith, t.least m r)),
      λ (r, h). elim (dec_le n a) [ yes l ↦ let same : a ≡ n = omega (arith, s.least n r) in ap fault same | no l ↦ absurd (h a (omega arith) s.itself) ],
    )
judges_exact (says x) d n = (λ e. let z : ◌≡◌ {A = ℕ} 0 1 = cc in absurd (omega arith), λ (r, h). absurd ((d.speaks x refl).1 n r))

-- What is said left aside.
pub unsaid : {X : Type 0} {S : X → Type 0} {R : ℕ → Type 0} {j : Checked X} → Judges S R j → Judges (λ x. Unit {0}) R j
unsaid d = record { faults = d.faults; speaks = λ x e. (tt, (d.speaks x e).1) }

-- Whatever refuses has the number m.
abbrev pub Only : {X : Type 0} → ℕ → Checked X → Type 0
Only m j = (n : ℕ) → j ≡ fault n → n ≡ m

pub only_fault : {X : Type 0} (m : ℕ) → Only {X = X} m (fault m)
only_fault m n e = cc

pub only_says : {X : Type 0} {m : ℕ} (x : X) → Only m (says x)
only_says x n e = let z : ◌≡◌ {A = ℕ} 0 1 = cc in absurd (omega arith)

pub only_read : {X Y : Type 0} {m : ℕ} (j : Checked X) (k : X → Checked Y) → Only m j → ((x : X) → Only m (k x)) → Only m (j >>= k)
unfolding ◌>>=◌
only_read (fault a) k h g n e = let f = h a refl in cc
only_read (says x) k h g n e = g x n e

pub only_test : {Y : Type 0} (m : ℕ) (b : Bool) (j : Checked Y) → Only m j → Only m (m unless b >> j)
unfolding ◌unless◌ ◌>>◌
only_test m true j g n e = g n e
only_test m false j g n e = cc

pub only_each : {Y Z : Type 0} {m : ℕ} (f : Y → Checked Z) → ((y : Y) → Only m (f y)) → (ys : List Y) → Only m (each f ys)
unfolding each
only_each f h [] = only_says []
only_each f h (y ∷ ys) = only_read (f y) _ (h y) (λ z. only_read (each f ys) _ (only_each f h ys) (λ zs. only_says (z ∷ zs)))

-- A chain goes on where it is gone on with.
pub read_on : {X Y Z : Type 0} (j : Checked X) (k : X → Checked Y) (l : Y → Checked Z) → (j >>= k) >>= l ≡ j >>= (λ x. k x >>= l)
unfolding ◌>>=◌
read_on (fault n) k l = refl
read_on (says x) k l = refl

pub test_on : {Y Z : Type 0} (m : ℕ) (b : Bool) (j : Checked Y) (l : Y → Checked Z) → (m unless b >> j) >>= l ≡ m unless b >> (j >>= l)
unfolding ◌>>=◌ ◌>>◌ ◌unless◌
test_on m true j l = refl
test_on m false j l = refl

-- Tests with their numbers, one after another.
unfoldable pub checks : {X : Type 0} → List (ℕ × Bool) → Checked X → Checked X
checks [] j = j
checks (t ∷ ts) j = t.0 unless t.1 >> checks ts j

-- One of them with the number n fails.
unfoldable pub Failed : List (ℕ × Bool) → ℕ → Type 0
Failed [] n = ⊥
Failed (t ∷ ts) n = ((n ≡ t.0) × (t.1 ≡ false)) ⊎ Failed ts n

-- Their numbers do not fall, from m up to top.
unfoldable pub Rising : ℕ → List (ℕ × Bool) → ℕ → Type 0
Rising m [] top = m ≤ top
Rising m (t ∷ ts) top = (m ≤ t.0) × Rising t.0 ts top

rising_top : (m : ℕ) (ts : List (ℕ × Bool)) (top : ℕ) → Rising m ts top → m ≤ top
unfolding Rising
rising_top m [] top l = l
rising_top m (t ∷ ts) top (l, h) = omega (arith, rising_top t.0 ts top h)

failed_from : (m : ℕ) (ts : List (ℕ × Bool)) (top : ℕ) → Rising m ts top → From m (Failed ts)
unfolding Rising Failed
failed_from m [] top l n f = absurd f
failed_from m (t ∷ ts) top (l, h) n (inl (e, f)) = omega arith
failed_from m (t ∷ ts) top (l, h) n (inr f) = omega (arith, failed_from t.0 ts top h n f)

module _ {X : Type 0} {S : X → Type 0} {R : ℕ → Type 0} where
  one_test : (m : ℕ) (b : Bool) (j : Checked X) → From m R → (b ≡ false → R m) → (b ≡ true → Judges S R j) → Judges S R (m unless b >> j)
  unfolding ◌unless◌ ◌>>◌
  one_test m true j h r g = g refl
  one_test m false j h r g = judges_fault m (r refl) h

  -- THE law: the reasons are the failed tests, and those of what comes after them, in the order of the numbers.
  pub tested : {T : ℕ → Type 0} (m : ℕ) (ts : List (ℕ × Bool)) (top : ℕ) (j : Checked X) → Rising m ts top → ((n : ℕ) → Failed ts n → R n)
      → ((n : ℕ) → R n → Failed ts n ⊎ T n) → From top T → (((n : ℕ) → R n → T n) → Judges S R j) → Judges S R (checks ts j)
  unfolding checks Failed Rising
  tested m [] top j rise to back h k = k (λ n r. elim (back n r) [ inl f ↦ absurd f | inr t ↦ t ])
  tested m (t ∷ ts) top j (l, rise) to back h k = one_test t.0 t.1 _ from (λ e. to t.0 (inl (refl, e))) (λ e.
      tested t.0 ts top j rise (λ n f. to n (inr f)) (λ n r. elim (back n r) [ inl (inl (p, f)) ↦ absurd (false≢true (sym f ∙ e)) | inl (inr f) ↦ inl f | inr u ↦ inr u ]) h k)
    where
      from : From t.0 R
      from n r = elim (back n r) [
        | inl (inl (e, f)) ↦ omega arith
        | inl (inr f) ↦ failed_from t.0 ts top rise n f
        | inr u ↦ omega (arith, h n u, rising_top t.0 ts top rise)
      ]

  -- The same where something is said behind the tests.
  pub all_tested : (m : ℕ) (ts : List (ℕ × Bool)) (top : ℕ) (x : X) → Rising m ts top → ((n : ℕ) → Failed ts n → R n) → ((n : ℕ) → R n → Failed ts n)
      → (((n : ℕ) → R n → ⊥) → S x) → Judges S R (checks ts (says x))
  all_tested m ts top x rise to back s = tested {T = λ n. ⊥} m ts top (says x) rise to (λ n r. inl (back n r)) (λ n t. absurd t) (λ clear. judges_says x clear (s clear))

  -- A reading in front: it says what Is, and refuses by the smallest number alone.
  pub reading : {Z : Type 0} {Is : Z → Type 0} (m : ℕ) (j : Checked Z) (k : Z → Checked X) → ((z : Z) → (j ≡ says z) ↔ Is z) → Only m j → From m R
      → (((z : Z) → Is z → ⊥) → R m) → ((z : Z) → Is z → Judges S R (k z)) → Judges S R (j >>= k)
  unfolding ◌>>=◌
  reading m (fault a) k i o h r g = let same = o a refl in rw same (judges_fault m (r (λ z w. silent ((i z).1 w))) h)
  reading m (says z) k i o h r g = g z ((i z).0 refl)
