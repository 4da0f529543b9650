-- A number's digits stored from the right.
use mathlib.Core.Path.{◌≡◌, refl, sym, ap, ◌∙◌}
use mathlib.Core.List.{List, [], ◌∷◌, ◌++◌, append_assoc, append-nil}
use Prim.Native.Nat.{ℕ, zero, suc, ◌+◌, ◌-◌, ◌^◌, ◌≤◌, ◌<◌, ◌/◌, ◌%◌}
use native.Mathlib.Omega.{arith}
use native.Mathlib.Nat.{pow-succ'}
use lib.ListN.{length, take, drop, set, replicate, length-append, length-replicate}
use Rattle.std.proofs.lemmas.List.{drop_at}
use Rattle.std.proofs.lemmas.Slice.{between_to_end}
use Rattle.paper.specs.Answer.{decimal}
use Rattle.paper.proofs.Numbers.{decimal_one, decimal_more}
use Rattle.writing.specs.Put.{digits_of}
use Rattle.writing.specs.declared.put.Digits.{Digits}

-- The last of the zeros is stored to.
set_last : (k d : ℕ) (ds : List ℕ) → set (replicate (suc k) 0 ++ ds) k d ≡ replicate k 0 ++ (d ∷ ds)
set_last zero d ds = refl
set_last (suc k) d ds = ap (λ (l : List ℕ). 0 ∷ l) (set_last k d ds)

-- Of the digits of n, those of `rest` are still to be stored, before `stored` and below the place `start`.
pub record Storing (n : ℕ) (bytes : List ℕ) (start rest : ℕ) : Type 0 where
  pub stored : List ℕ
  pub holds : bytes ≡ replicate start 0 ++ stored
  pub whole : decimal rest ++ stored ≡ decimal n
  pub room : rest < 10 ^ start
  pub some : 0 < start
  pub ten : start + length stored ≡ 10

pub storing_none : (n : ℕ) → n < 10 ^ 10 → Storing n (replicate 10 0) 10 n
storing_none n h = record { stored = []; holds = refl; whole = append-nil (decimal n); room = h; some = omega arith; ten = refl }

module _ {n start rest : ℕ} {bytes : List ℕ} (s : Storing n bytes start rest) (at : ℕ) (e : suc at ≡ start) where
  after_store : (d : ℕ) → set bytes at d ≡ replicate at 0 ++ (d ∷ s.stored)
  after_store d = ap (λ (l : List ℕ). set l at d) (s.holds ∙ ap (λ (k : ℕ). replicate k 0 ++ s.stored) (sym e)) ∙ set_last at d s.stored

  -- More than one digit is left: after the last is stored those of the tenth are.
  pub storing_more : 10 ≤ rest → 0 < at → Storing n (set bytes at (48 + rest % 10)) at (rest / 10)
  storing_more h g = record {
    stored = (48 + rest % 10) ∷ s.stored;
    holds = after_store (48 + rest % 10);
    whole = sym (append_assoc (decimal (rest / 10)) ((48 + rest % 10) ∷ []) s.stored) ∙ (ap (λ (ds : List ℕ). ds ++ s.stored) (sym (decimal_more rest h)) ∙ s.whole);
    room = omega (arith, rw (← e) at s.room, pow-succ' 10 at);
    some = g;
    ten = omega (arith, s.ten);
  }

  -- One digit is left: after it is stored all is.
  pub storing_last : rest < 10 → record { bytes = set bytes at (48 + rest % 10); start = at } ≡ digits_of n
  unfolding digits_of
  storing_last h =
      let one : decimal rest ≡ (48 + rest % 10) ∷ [] = decimal_one rest h ∙ ap (λ (d : ℕ). d ∷ []) (omega arith) in
      let text : (48 + rest % 10) ∷ s.stored ≡ decimal n = ap (λ (ds : List ℕ). ds ++ s.stored) (sym one) ∙ s.whole in
      let place : at ≡ 10 - length (decimal n) = omega (arith, s.ten, ap length text) in
      rw (← place, ← text) (ap (λ (bs : List ℕ). record { bytes = bs; start = at }) (after_store (48 + rest % 10)))

-- The digits stand at the end of ten bytes.
pub record Standing (n : ℕ) (r : Digits) : Type 0 where
  pub start : r.start ≤ length r.bytes
  pub says : take (length r.bytes - r.start) (drop r.start r.bytes) ≡ decimal n

pub digits_stand : (n : ℕ) (r : Digits) → r ≡ digits_of n → Standing n r
unfolding digits_of
digits_stand n r e =
    let k : ℕ = 10 - length (decimal n) in
    let zeros : List ℕ = replicate k 0 in
    let many = length-replicate {A = ℕ} k 0 in
    rw e (record {
      start = omega (arith, length-append zeros (decimal n));
      says = between_to_end (zeros ++ decimal n) k _ (omega arith) ∙ drop_at zeros (decimal n) k many;
    })
