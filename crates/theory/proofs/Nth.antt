-- The elements of a list: what holds of each, and the elements by their numbers: members, splits and first parts.
use mathlib.Core.Path.{◌≡◌, refl, sym, ap, ◌∙◌}
use mathlib.Core.List.Memᴰ
use mathlib.Core.List.{List, [], ◌∷◌, ◌++◌, Memᴰ}
use Prim.Native.Nat.{ℕ, zero, suc, ◌<◌}
use native.Mathlib.Omega.{arith}
use lib.ListN.{length, take}
use Rattle.theory.specs.Lists.{Nth}

-- What holds of the first and of each behind it holds of each.
pub all_cons : {Y : Type 0} {P : Y → Type 0} {x : Y} {xs : List Y} → P x → ((y : Y) → Memᴰ y xs → P y) → (y : Y) → Memᴰ y (x ∷ xs) → P y
all_cons p ps y (Memᴰ.head e) = rw e p
all_cons p ps y (Memᴰ.tail m) = ps y m

pub nth_mem : {Y : Type 0} (ys : List Y) (i : ℕ) {y : Y} → Nth ys i y → Memᴰ y ys
unfolding Nth
nth_mem [] i n = absurd n
nth_mem (x ∷ xs) zero e = Memᴰ.head (sym e)
nth_mem (x ∷ xs) (suc i) n = Memᴰ.tail (nth_mem xs i n)

pub mem_nth : {Y : Type 0} {y : Y} {ys : List Y} → Memᴰ y ys → (i : ℕ) × Nth ys i y
unfolding Nth
mem_nth (Memᴰ.head e) = (0, sym e)
mem_nth (Memᴰ.tail m) = let (i, n) = mem_nth m in (suc i, n)

pub nth_one : {Y : Type 0} (ys : List Y) (i : ℕ) {y z : Y} → Nth ys i y → Nth ys i z → y ≡ z
unfolding Nth
nth_one [] i n m = absurd n
nth_one (x ∷ xs) zero d e = sym d ∙ e
nth_one (x ∷ xs) (suc i) n m = nth_one xs i n m

pub nth_below : {Y : Type 0} (ys : List Y) (i : ℕ) (y : Y) → Nth ys i y → i < length ys
unfolding Nth
nth_below [] i y n = absurd n
nth_below (x ∷ xs) zero y e = omega arith
nth_below (x ∷ xs) (suc i) y n = omega (arith, nth_below xs i y n)

-- What stands behind the first i elements is number i, and what is number i stands behind the first i.
pub nth_seam : {Y : Type 0} (before : List Y) (y : Y) (rest : List Y) → Nth (before ++ (y ∷ rest)) (length before) y
unfolding Nth
nth_seam [] y rest = refl
nth_seam (x ∷ xs) y rest = nth_seam xs y rest

pub nth_split : {Y : Type 0} (ys : List Y) (i : ℕ) (y : Y) → Nth ys i y → (before : List Y) × (rest : List Y) × (before ++ (y ∷ rest) ≡ ys) × (length before ≡ i)
unfolding Nth
nth_split [] i y n = absurd n
nth_split (x ∷ xs) zero y e = ([], xs, ap (λ z. z ∷ xs) (sym e), refl)
nth_split (x ∷ xs) (suc i) y n = let (before, rest, e, l) = nth_split xs i y n in (x ∷ before, rest, ap (λ l. x ∷ l) e, ap suc l)

-- The first b elements are those with a number below b.
pub nth_take : {Y : Type 0} (ys : List Y) (i b : ℕ) {y : Y} → Nth ys i y → i < b → Memᴰ y (take b ys)
unfolding Nth
nth_take [] i b n l = absurd n
nth_take (x ∷ xs) i zero n l = absurd (omega arith)
nth_take (x ∷ xs) zero (suc b) e l = Memᴰ.head (sym e)
nth_take (x ∷ xs) (suc i) (suc b) n l = Memᴰ.tail (nth_take xs i b n (omega arith))

pub take_nth : {Y : Type 0} {y : Y} (ys : List Y) (b : ℕ) → Memᴰ y (take b ys) → (i : ℕ) × (i < b) × Nth ys i y
unfolding Nth
take_nth [] zero m = absurd (Memᴰ.not-nil m)
take_nth [] (suc b) m = absurd (Memᴰ.not-nil m)
take_nth (x ∷ xs) zero m = absurd (Memᴰ.not-nil m)
take_nth (x ∷ xs) (suc b) (Memᴰ.head e) = (0, omega arith, sym e)
take_nth (x ∷ xs) (suc b) (Memᴰ.tail m) = let (i, l, n) = take_nth xs b m in (suc i, omega arith, n)
