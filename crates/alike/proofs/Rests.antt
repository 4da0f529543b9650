-- A word without one of its arguments, and the transitions that words with the same rest mean.
use mathlib.Core.Path.{◌≡◌, refl, sym, ap, ◌∙◌}
use mathlib.Core.List.{List, [], ◌∷◌}
use Prim.Native.Nat.{ℕ, zero, suc, ◌+◌, ◌-◌, ◌*◌, ◌/◌, ◌%◌, ◌^◌, ◌≤◌, ◌<◌}
use native.Mathlib.Nat.{div-div-eq-div-mul, mod-eq_of_lt}
use native.Mathlib.Omega.{arith}
use lib.Pow.{field, mod-mod-pow}
use lib.ListN.{length, get_or, set, take, length-take}
use lib.Seq.{get_or-take, take-set-lt}
use Rattle.theory.specs.Automaton.{◌of◌gives◌}
use Rattle.woven.specs.Woven.{part, move_of}
use Rattle.alike.specs.Words.{rest_of}

-- What is taken from a word is no more than the word, and fits.
rest_fits : (w p : ℕ) → p < 3 → (part w p * 2 ^ (8 * p) ≤ w) × (part w p * 2 ^ (8 * p) < 2 ^ 64)
unfolding part
rest_fits w zero h = (omega arith, omega arith)
rest_fits w (suc zero) h = (omega arith, omega arith)
rest_fits w (suc (suc zero)) h = (omega arith, omega arith)
rest_fits w (suc (suc (suc p))) h = absurd (omega arith)

-- As the code takes it.
pub rest_taken : (w p x : ℕ) → p < 3 → x ≡ part w p → ((x * 2 ^ (8 * p)) % 2 ^ 64 ≤ w) × (w - (x * 2 ^ (8 * p)) % 2 ^ 64 ≡ rest_of w p)
unfolding rest_of
rest_taken w p x h is =
    let (least, most) = rest_fits w p h in
    let same : (x * 2 ^ (8 * p)) % 2 ^ 64 ≡ part w p * 2 ^ (8 * p) = ap (λ n. (n * 2 ^ (8 * p)) % 2 ^ 64) is ∙ mod-eq_of_lt most in
    rw same (least, refl)

-- The three argument bytes of a word.
abbrev three : ℕ → List ℕ
three w = part w 0 ∷ (part w 1 ∷ (part w 2 ∷ []))

three_at : (w p : ℕ) → p < 3 → get_or (three w) p 0 ≡ part w p
three_at w zero h = refl
three_at w (suc zero) h = refl
three_at w (suc (suc zero)) h = refl
three_at w (suc (suc (suc p))) h = absurd (omega arith)

-- Six digits above those from b on, and six below 2 ^ (j + 6 + k).
above : (b m v w : ℕ) → v / b / 64 ≡ w / b / 64 → v / (b * 64 * m) % 64 ≡ w / (b * 64 * m) % 64
above b m v w e = ap (λ n. n % 64) (sym (apart v) ∙ (ap (λ n. n / m) e ∙ apart w))
  where
    apart : (n : ℕ) → n / b / 64 / m ≡ n / (b * 64 * m)
    apart n = ap (λ k. k / m) (div-div-eq-div-mul n b 64) ∙ div-div-eq-div-mul n (b * 64) m

under : (j k v w : ℕ) → v % 2 ^ (j + (6 + k)) ≡ w % 2 ^ (j + (6 + k)) → v / 2 ^ k % 2 ^ 6 ≡ w / 2 ^ k % 2 ^ 6
under j k v w e = sym (field v 6 k) ∙ (ap (λ n. n / 2 ^ k) (sym (mod-mod-pow v j (6 + k)) ∙ (ap (λ n. n % 2 ^ (6 + k)) e ∙ mod-mod-pow w j (6 + k))) ∙ field w 6 k)

-- Words with the same rest are the same but for argument p.
record Beside (w v p : ℕ) : Type 0 where
  arguments : three v ≡ set (three w) p (part v p)
  target : part v 3 ≡ part w 3
  symbol : part v 4 ≡ part w 4

beside : (w v p : ℕ) → p < 3 → rest_of v p ≡ rest_of w p → Beside w v p
unfolding part rest_of
beside w v zero h e =
    let high : v / 1 / 64 ≡ w / 1 / 64 = omega arith in
    let second : part v 1 ≡ part w 1 = above 1 4 v w high in
    let third : part v 2 ≡ part w 2 = above 1 1024 v w high in
    record { arguments = cc; target = above 1 262144 v w high; symbol = above 1 67108864 v w high }
beside w v (suc zero) h e =
    let high : v / 256 / 64 ≡ w / 256 / 64 = omega arith in
    let low : v % 256 ≡ w % 256 = omega arith in
    let first : part v 0 ≡ part w 0 = under 2 0 v w low in
    let third : part v 2 ≡ part w 2 = above 256 4 v w high in
    record { arguments = cc; target = above 256 1024 v w high; symbol = above 256 262144 v w high }
beside w v (suc (suc zero)) h e =
    let high : v / 65536 / 64 ≡ w / 65536 / 64 = omega arith in
    let low : v % 65536 ≡ w % 65536 = omega arith in
    let first : part v 0 ≡ part w 0 = under 10 0 v w low in
    let second : part v 1 ≡ part w 1 = under 2 8 v w low in
    record { arguments = cc; target = above 65536 4 v w high; symbol = above 65536 1024 v w high }
beside w v (suc (suc (suc p))) h e = absurd (omega arith)

-- The word means a transition of f over qs, which has an argument p.
module _ (arities : List ℕ) (w f p q : ℕ) (qs : List ℕ) (small : p < 3) (l : p < length qs) (e : move_of arities w ≡ (f of qs gives q)) where
  pub is_f : part w 4 ≡ f
  unfolding move_of
  is_f = ap (λ t. t.symbol) e

  pub is_q : part w 3 ≡ q
  unfolding move_of
  is_q = ap (λ t. t.target) e

  rank : ℕ
  rank = get_or arities (part w 4) 0

  args : take rank (three w) ≡ qs
  unfolding move_of rank
  args = ap (λ t. t.arguments) e

  inside : p < rank
  inside = omega (arith, ap length args, length-take rank (three w))

  pub own : part w p ≡ get_or qs p 0
  own = sym (three_at w p small) ∙ (sym (get_or-take rank (three w) p 0 inside) ∙ ap (λ l. get_or l p 0) args)

  -- A word with the same rest means the transition with its own class there.
  pub other : (v : ℕ) → rest_of v p ≡ rest_of w p → move_of arities v ≡ (f of set qs p (part v p) gives q)
  unfolding move_of rank
  other v r =
      let b = beside w v p small r in
      let new : take (get_or arities (part v 4) 0) (three v) ≡ set qs p (part v p) =
      ap (λ g. take (get_or arities g 0) (three v)) b.symbol ∙ (ap (take rank) b.arguments
      ∙ (take-set-lt rank (three w) p (part v p) inside ∙ ap (λ l. set l p (part v p)) args)) in
      let symbol : part v 4 ≡ f = b.symbol ∙ is_f in
      let target : part v 3 ≡ q = b.target ∙ is_q in
      cc
