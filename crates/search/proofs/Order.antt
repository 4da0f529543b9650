-- The substitutions by their places.
use mathlib.Core.Path.{◌≡◌, refl, sym, ap, ◌∙◌}
use mathlib.Core.List.{List, [], ◌∷◌, ◌++◌, map, Memᴰ}
use Prim.Native.Nat.{ℕ, zero, suc, ◌+◌, ◌*◌, ◌^◌, ◌≤◌, ◌<◌}
use native.Mathlib.Nat.{zero-mul, suc-mul, zero-add, add-zero}
use native.Mathlib.Numerals.{add-one}
use native.Mathlib.Omega.{arith}
use lib.ListN.{length, get_or, take, length-map, get_or-append}
use lib.Seq.{get_or-append-add}
use Rattle.theory.specs.Lists.{count_from}
use Rattle.theory.specs.Term.{var}
use Rattle.theory.specs.Rewriting.{Rule, variable_count}
use Rattle.theory.specs.Value.{spread, substitutions}
use Rattle.paper.specs.Computed.{Case, case, cases}
use Rattle.paper.specs.Meaning.{total}
use Rattle.paper.proofs.Cases.{length_substitutions}

-- What stands at a place is listed, and what is listed stands at a place.
pub place_listed : {Y : Type 0} (ys : List Y) (d : Y) (i : ℕ) → i < length ys → Memᴰ (get_or ys i d) ys
place_listed [] d i h = absurd (omega arith)
place_listed (y ∷ ys) d zero h = Memᴰ.head refl
place_listed (y ∷ ys) d (suc i) h = Memᴰ.tail (place_listed ys d i (omega arith))

pub listed_place : {Y : Type 0} (d : Y) (ys : List Y) {y : Y} → Memᴰ y ys → (i : ℕ) × (i < length ys) × (get_or ys i d ≡ y)
listed_place d [] m = elim m [ ]
listed_place d (x ∷ ys) (Memᴰ.head e) = (0, omega arith, sym e)
listed_place d (x ∷ ys) (Memᴰ.tail m) = let (i, h, e) = listed_place d ys m in (suc i, omega arith, e)

-- An entry of a mapped list.
pub mapped : {Y Z : Type 0} (f : Y → Z) (ys : List Y) (d : Y) (e : Z) (i : ℕ) → i < length ys → get_or (map f ys) i e ≡ f (get_or ys i d)
mapped f [] d e i h = absurd (omega arith)
mapped f (y ∷ ys) d e zero h = refl
mapped f (y ∷ ys) d e (suc i) h = mapped f ys d e i (omega arith)

spread_at : (a k : ℕ) (ls : List (List ℕ)) (x d : ℕ) → x < k → d < length ls → get_or (spread (count_from a k) ls) (x * length ls + d) [] ≡ (a + x) ∷ get_or ls d []
unfolding spread count_from
spread_at a zero ls x d hx hd = absurd (omega arith)
spread_at a (suc k) ls zero d hx hd =
    let e : zero * length ls + d ≡ d = rw zero-mul (zero-add d) in
    let long : d < length (map (λ l. a ∷ l) ls) = omega (arith, length-map ls (λ (l : List ℕ). a ∷ l)) in
    ap (λ n. get_or (map (λ l. a ∷ l) ls ++ spread (count_from (suc a) k) ls) n []) e
    ∙ get_or-append (map (λ l. a ∷ l) ls) (spread (count_from (suc a) k) ls) [] d long
    ∙ mapped (λ l. a ∷ l) ls [] [] d hd
    ∙ ap (λ n. n ∷ get_or ls d []) (sym (add-zero a))
spread_at a (suc k) ls (suc x) d hx hd =
    let e : suc x * length ls + d ≡ length (map (λ (l : List ℕ). a ∷ l) ls) + (x * length ls + d) = omega (arith, suc-mul x (length ls), length-map ls (λ (l : List ℕ). a ∷ l)) in
    let shift : suc a + x ≡ a + suc x = omega arith in
    ap (λ n. get_or (map (λ l. a ∷ l) ls ++ spread (count_from (suc a) k) ls) n []) e
    ∙ get_or-append-add (map (λ l. a ∷ l) ls) (spread (count_from (suc a) k) ls) (x * length ls + d) []
    ∙ spread_at (suc a) k ls x d (omega arith) hd
    ∙ ap (λ n. n ∷ get_or ls d []) shift

-- The first class is the most significant digit of a substitution's place.
pub substitution_at : (k w x d : ℕ) → x < k → d < k ^ w → get_or (substitutions k (suc w)) (x * k ^ w + d) [] ≡ x ∷ get_or (substitutions k w) d []
unfolding substitutions
substitution_at k w x d hx hd =
    let long = length_substitutions k w in
    ap (λ n. get_or (spread (count_from 0 k) (substitutions k w)) (x * n + d) []) (sym long)
    ∙ spread_at 0 k (substitutions k w) x d hx (omega (arith, long))
    ∙ ap (λ n. n ∷ get_or (substitutions k w) d []) (zero-add x)

-- What stands past the end.
abbrev pub no_rule : Rule
no_rule = record { left = var 0; right = var 0 }

abbrev pub no_case : Case
no_case = case 0 no_rule []

abbrev pub rule_in : List Rule → ℕ → Rule
rule_in R r = get_or R r no_rule

length_of_cases : (k n : ℕ) (rule : Rule) → length (map (case n rule) (substitutions k (variable_count rule))) ≡ k ^ variable_count rule
length_of_cases k n rule = length-map (substitutions k (variable_count rule)) (case n rule) ∙ length_substitutions k (variable_count rule)

-- The substitutions of rule r stand behind those of the earlier rules.
pub case_at_lem : (k n : ℕ) (R : List Rule) (r d : ℕ) → r < length R → d < k ^ variable_count (rule_in R r)
    → get_or (cases k n R) (total k (take r R) + d) no_case ≡ case (n + r) (rule_in R r) (get_or (substitutions k (variable_count (rule_in R r))) d [])
unfolding cases total
case_at_lem k n [] r d hr hd = absurd (omega arith)
case_at_lem k n (rule ∷ R) zero d hr hd =
    let long = length_of_cases k n rule in
    ap (λ i. get_or (map (case n rule) (substitutions k (variable_count rule)) ++ cases k (suc n) R) i no_case) (zero-add d)
    ∙ get_or-append (map (case n rule) (substitutions k (variable_count rule))) (cases k (suc n) R) no_case d (omega (arith, long))
    ∙ mapped (case n rule) (substitutions k (variable_count rule)) [] no_case d (omega (arith, length_substitutions k (variable_count rule)))
    ∙ ap (λ m. case m rule (get_or (substitutions k (variable_count rule)) d [])) (sym (add-zero n))
case_at_lem k n (rule ∷ R) (suc r) d hr hd =
    let long = length_of_cases k n rule in
    let e : k ^ variable_count rule + total k (take r R) + d ≡ length (map (case n rule) (substitutions k (variable_count rule))) + (total k (take r R) + d) = omega (arith, long) in
    let shift : suc n + r ≡ n + suc r = omega arith in
    ap (λ i. get_or (map (case n rule) (substitutions k (variable_count rule)) ++ cases k (suc n) R) i no_case) e
    ∙ get_or-append-add (map (case n rule) (substitutions k (variable_count rule))) (cases k (suc n) R) (total k (take r R) + d) no_case
    ∙ case_at_lem k (suc n) R r d (omega arith) hd
    ∙ ap (λ m. case m (rule_in R r) (get_or (substitutions k (variable_count (rule_in R r))) d [])) shift

-- The earlier rules' powers, with one rule more, and with all of them.
pub total_next : (k : ℕ) (R : List Rule) (r : ℕ) → r < length R → total k (take (r + 1) R) ≡ total k (take r R) + k ^ variable_count (rule_in R r)
unfolding total
total_next k R r h = ap (λ n. total k (take n R)) (add-one r) ∙ go R r h
  where
    go : (R : List Rule) (r : ℕ) → r < length R → total k (take (suc r) R) ≡ total k (take r R) + k ^ variable_count (rule_in R r)
    go [] r h = absurd (omega arith)
    go (rule ∷ R) zero h = omega arith
    go (rule ∷ R) (suc r) h = omega (arith, go R r (omega arith))

pub total_inside : (k : ℕ) (R : List Rule) (r : ℕ) → r ≤ length R → total k (take r R) ≤ total k R
unfolding total
total_inside k [] r h = omega (arith, ap (λ n. total k (take n [])) none)
  where
    none : r ≡ 0
    none = omega arith
total_inside k (rule ∷ R) zero h = omega arith
total_inside k (rule ∷ R) (suc r) h = omega (arith, total_inside k R r (omega arith))
