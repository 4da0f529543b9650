-- The place of a substitution: earlier rules' powers of k, and its place in its own rule.
use mathlib.Core.Path.{◌≡◌, refl, ap, ◌∙◌}
use mathlib.Core.Logic.{◌⊎◌, inl, inr}
use mathlib.Core.List.Memᴰ
use mathlib.Core.List.{List, [], ◌∷◌, ◌++◌, map}
use Prim.Native.Nat.{ℕ, zero, suc, ◌+◌, ◌*◌, ◌^◌}
use native.Mathlib.Omega.{arith}
use native.Mathlib.Nat.{zero-mul, suc-mul}
use lib.ListN.{length, length-append, length-map, take}
use Rattle.theory.specs.Lists.{count_from, Nth}
use Rattle.theory.specs.Rewriting.{Rule, variable_count}
use Rattle.theory.specs.Value.{spread, substitutions}
use Rattle.theory.proofs.Nth.{nth_split}
use Rattle.theory.proofs.Search.{substitutions_sound}
use Rattle.paper.specs.Computed.{Case, case, cases}
use Rattle.paper.specs.Meaning.{total, place_of}
use Rattle.paper.proofs.Cases.{length_substitutions}

-- Where two lists in a row are split, the split is in the first or in the second.
split_append : {Y : Type 0} (before xs : List Y) (y : Y) (rest ys : List Y) → before ++ (y ∷ rest) ≡ xs ++ ys
    → ((more : List Y) × (before ++ (y ∷ more) ≡ xs)) ⊎ ((more : List Y) × (before ≡ xs ++ more) × (more ++ (y ∷ rest) ≡ ys))
split_append [] [] y rest ys e = inr ([], refl, e)
split_append [] (x ∷ xs) y rest ys e = inl (xs, cc)
split_append (b ∷ bs) [] y rest ys e = inr (b ∷ bs, refl, e)
split_append (b ∷ bs) (x ∷ xs) y rest ys e =
    let tails : bs ++ (y ∷ rest) ≡ xs ++ ys = cc in
    let heads : b ≡ x = cc in
    elim (split_append bs xs y rest ys tails) [
      | inl (more, h) ↦ inl (more, cc)
      | inr (more, h, i) ↦ inr (more, cc, i)
    ]

-- An element of a mapped list, with how many stand before it.
record Mapped {X Y : Type 0} (f : X → Y) (ls : List X) (y : Y) (n : ℕ) : Type 0 where
  before : List X
  this : X
  rest : List X
  split : before ++ (this ∷ rest) ≡ ls
  image : f this ≡ y
  count : length before ≡ n

split_map : {X Y : Type 0} (f : X → Y) (ls : List X) (before : List Y) (y : Y) (rest : List Y) → before ++ (y ∷ rest) ≡ map f ls → Mapped f ls y (length before)
split_map f [] [] y rest e = let z : ◌≡◌ {A = ℕ} 0 1 = cc in absurd (omega arith)
split_map f [] (b ∷ bs) y rest e = let z : ◌≡◌ {A = ℕ} 0 1 = cc in absurd (omega arith)
split_map f (l ∷ ls) [] y rest e = record { before = []; this = l; rest = ls; split = refl; image = cc; count = refl }
split_map f (l ∷ ls) (b ∷ bs) y rest e =
    let tails : bs ++ (y ∷ rest) ≡ map f ls = cc in
    let m = split_map f ls bs y rest tails in
    record { before = l ∷ m.before; this = m.this; rest = m.rest; split = ap (λ xs. l ∷ xs) m.split; image = m.image; count = ap suc m.count }

-- An element of a spread list: its first entry, what is behind it, and how many stand before.
record Spread (n : ℕ) (ls : List (List ℕ)) (σ : List ℕ) (count : ℕ) : Type 0 where
  first : ℕ
  before : List (List ℕ)
  this : List ℕ
  rest : List (List ℕ)
  split : before ++ (this ∷ rest) ≡ ls
  whole : first ∷ this ≡ σ
  place : count + n * length ls ≡ first * length ls + length before

split_spread : (n m : ℕ) (ls : List (List ℕ)) (before : List (List ℕ)) (σ : List ℕ) (rest : List (List ℕ)) → before ++ (σ ∷ rest) ≡ spread (count_from n m) ls → Spread n ls σ (length before)
unfolding spread count_from
split_spread n zero ls [] σ rest e = let z : ◌≡◌ {A = ℕ} 0 1 = cc in absurd (omega arith)
split_spread n zero ls (b ∷ bs) σ rest e = let z : ◌≡◌ {A = ℕ} 0 1 = cc in absurd (omega arith)
split_spread n (suc m) ls before σ rest e = elim (split_append before (map (λ l. n ∷ l) ls) σ rest (spread (count_from (suc n) m) ls) e) [
  | inl (more, h) ↦
      let s = split_map (λ l. n ∷ l) ls before σ more h in
      record { first = n; before = s.before; this = s.this; rest = s.rest; split = s.split; whole = s.image; place = omega (arith, s.count) }
  | inr (more, h, i) ↦
      let s = split_spread (suc n) m ls more σ rest i in
      let long : length before ≡ length ls + length more = ap length h ∙ (length-append (map (λ l. n ∷ l) ls) more ∙ rw (length-map ls (λ l. n ∷ l))) in
      let next : suc n * length ls ≡ n * length ls + length ls = suc-mul n (length ls) in
      record { first = s.first; before = s.before; this = s.this; rest = s.rest; split = s.split; whole = s.whole; place = omega (arith, s.place) }
]

-- Before a substitution stand as many as its place says.
pub substitutions_place : (k v : ℕ) (before : List (List ℕ)) (σ : List ℕ) (rest : List (List ℕ)) → before ++ (σ ∷ rest) ≡ substitutions k v → length before ≡ place_of k σ
unfolding substitutions place_of
substitutions_place k zero [] σ rest e = let same : σ ≡ [] = cc in rw same
substitutions_place k zero (b ∷ []) σ rest e = let z : ◌≡◌ {A = ℕ} 0 1 = cc in absurd (omega arith)
substitutions_place k zero (b ∷ c ∷ bs) σ rest e = let z : ◌≡◌ {A = ℕ} 0 1 = cc in absurd (omega arith)
substitutions_place k (suc v) before σ rest e =
    let s = split_spread 0 k (substitutions k v) before σ rest e in
    let (long, below) = substitutions_sound k v (rw s.split at (Memᴰ.append_right s.before (Memᴰ.head {x = s.this} {xs = s.rest} refl))) in
    let inner = substitutions_place k v s.before s.this s.rest s.split in
    let size : length (substitutions k v) ≡ k ^ length s.this = length_substitutions k v ∙ rw long in
    let count : length before ≡ s.first * length (substitutions k v) + length s.before = omega (arith, s.place, zero-mul (length (substitutions k v))) in
    count ∙ (rw (size, inner) (ap (place_of k) s.whole))

-- A substitution to be examined: its rule is in the list, and before it stand those of the earlier rules and the earlier ones of its own.
pub record Placed (k n : ℕ) (R : List Rule) (c : Case) (count : ℕ) : Type 0 where
  pub earlier : ℕ
  pub listed : Nth R earlier c.rule
  pub number : c.number ≡ n + earlier
  pub place : count ≡ total k (take earlier R) + place_of k c.σ

cases_place : (k n : ℕ) (R : List Rule) (before : List Case) (c : Case) (rest : List Case) → before ++ (c ∷ rest) ≡ cases k n R → Placed k n R c (length before)
unfolding cases total Nth
cases_place k n [] [] c rest e = let z : ◌≡◌ {A = ℕ} 0 1 = cc in absurd (omega arith)
cases_place k n [] (b ∷ bs) c rest e = let z : ◌≡◌ {A = ℕ} 0 1 = cc in absurd (omega arith)
cases_place k n (rule ∷ R) before c rest e = elim (split_append before (map (case n rule) (substitutions k (variable_count rule))) c rest (cases k (suc n) R) e) [
  | inl (more, h) ↦
      let m = split_map (case n rule) (substitutions k (variable_count rule)) before c more h in
      let p = substitutions_place k (variable_count rule) m.before m.this m.rest m.split in
      record { earlier = 0; listed = ap (λ c. c.rule) m.image; number = omega (arith, ap (λ c. c.number) m.image); place = omega (arith, m.count, p ∙ ap (λ c. place_of k c.σ) m.image) }
  | inr (more, h, i) ↦
      let s = cases_place k (suc n) R more c rest i in
      let mine = map (case n rule) (substitutions k (variable_count rule)) in
      let long : length before ≡ k ^ variable_count rule + length more =
      ap length h ∙ (length-append mine more ∙ rw (length-map (substitutions k (variable_count rule)) (case n rule), length_substitutions)) in
      record { earlier = suc s.earlier; listed = s.listed; number = omega (arith, s.number); place = omega (arith, s.place) }
]

pub cases_nth : (k : ℕ) (R : List Rule) (i : ℕ) (c : Case) → Nth (cases k 0 R) i c → Placed k 0 R c i
cases_nth k R i c n = let (before, rest, e, l) = nth_split (cases k 0 R) i c n in rw l at (cases_place k 0 R before c rest e)
