-- Bytes put one after the other.
use mathlib.Core.Path.{◌≡◌, refl, sym, ap, ◌∙◌}
use mathlib.Core.List.{List, [], ◌∷◌, ◌++◌, append-nil, append_assoc}
use Prim.Native.Nat.{ℕ, suc, ◌+◌, ◌<◌}
use native.Mathlib.Nat.{add-zero, add-suc, suc-add}
use native.Mathlib.Numerals.{add-one}
use native.Mathlib.Omega.{arith}
use borrow.Author.Tests.{eq-eqb, ne_eqb}
use lib.ListN.{length, get_or, drop, set, length-append}
use lib.Seq.{sets, length-sets, drop-cons}
use Rattle.paper.specs.Bytes.{comma}
use Rattle.paper.specs.Answer.{decimal, decimals}
use Rattle.verdicts.specs.Said.{class_then}
use Rattle.writing.specs.Put.{Put, Room}

sets_append : (a b d : List ℕ) (at : ℕ) → sets (sets d at a) (at + length a) b ≡ sets d at (a ++ b)
sets_append [] b d at = rw add-zero
sets_append (x ∷ a) b d at = rw (add-suc, ← suc-add) (sets_append a b (set d at x) (suc at))

-- Nothing is put.
pub nothing : (d : List ℕ) (at : ℕ) → Put d at [] at d
nothing d at = record { place = sym (add-zero at); holds = refl }

-- What is put after what was put.
infixr 20 ◌then◌
pub ◌then◌ : {d e f a b : List ℕ} {at n m : ℕ} → Put d at a n e → Put e n b m f → Put d at (a ++ b) m f
◌then◌ {d} {e} {f} {a} {b} {at} {n} {m} p q = record { place = omega (arith, p.place, q.place, length-append a b); holds = rw (q.holds, p.holds, p.place) (sets_append a b d at) }

-- The same bytes, said otherwise.
pub said_as : {d e a b : List ℕ} {at n : ℕ} → a ≡ b → Put d at a n e → Put d at b n e
said_as e p = rw e at p

-- One byte is stored.
pub stored : (d : List ℕ) (at x : ℕ) → Put d at (x ∷ []) (at + 1) (set d at x)
stored d at x = record { place = refl; holds = refl }

-- A turn of the copy: what is left to store gives the same.
pub copied_one : (d bs : List ℕ) (o i : ℕ) → i < length bs → sets (set d o (get_or bs i 0)) (o + 1) (drop (i + 1) bs) ≡ sets d o (drop i bs)
copied_one d bs o i h = rw (drop-cons bs i 0 h, add-one o, add-one i)

-- The buffer stays as long as it was.
length_put : {d e bs : List ℕ} {at n : ℕ} → Put d at bs n e → length e ≡ length d
length_put {d} {e} {bs} {at} p = ap length p.holds ∙ length-sets d at bs

-- Of the bytes of `all` some are put, and those of `left` are still to be put.
pub record Putting (was : List ℕ) (at : ℕ) (all : List ℕ) (next : ℕ) (is left : List ℕ) : Type 0 where
  pub done : List ℕ
  pub put : Put was at done next is
  pub whole : done ++ left ≡ all
  pub room : Room was at all

pub begun : {was all : List ℕ} {at : ℕ} → Room was at all → Putting was at all at was all
begun {was} {all} {at} h = record { done = []; put = nothing was at; whole = refl; room = h }

module _ {was all is left : List ℕ} {at next : ℕ} (p : Putting was at all next is left) where
  -- Nothing is left: all is put.
  pub ended : left ≡ [] → Put was at all next is
  ended e = said_as (sym (append-nil p.done) ∙ ap (λ (bs : List ℕ). p.done ++ bs) (sym e) ∙ p.whole) p.put

  module _ {bs : List ℕ} (more : List ℕ) (e : left ≡ bs ++ more) where
    -- There is room for what stands first in it, ..
    pub room : Room is next bs
    room = record { fits = omega (arith, p.put.place, length_put p.put, ap length p.whole, ap length e, length-append p.done left, length-append bs more, p.room.fits) }

    -- .. and what stands behind is left when that is put.
    pub go_on : {now : List ℕ} {n : ℕ} → Put is next bs n now → Putting was at all n now more
    go_on q = record {
      done = p.done ++ bs;
      put = p.put then q;
      whole = append_assoc p.done bs more ∙ ap (λ (ds : List ℕ). p.done ++ ds) (sym e) ∙ p.whole;
      room = p.room;
    }

-- The numbers after the first of a list, each behind its comma.
unfoldable pub commaed : List ℕ → List ℕ
commaed [] = []
commaed (n ∷ ns) = comma ∷ (decimal n ++ commaed ns)

decimals_commaed : (n : ℕ) (ns : List ℕ) → decimals (n ∷ ns) ≡ decimal n ++ commaed ns
unfolding decimals commaed
decimals_commaed n [] = sym (append-nil (decimal n))
decimals_commaed n (m ∷ ns) = ap (λ (bs : List ℕ). decimal n ++ (comma ∷ bs)) (decimals_commaed m ns)

no_class : (x : ℕ) (xs : List ℕ) → x ≡ 255 → class_then x xs ≡ []
unfolding class_then
no_class x xs e = rw (eq-eqb x 255 e, class_then)

a_class : (x : ℕ) (xs : List ℕ) → (x ≡ 255 → ⊥) → class_then x xs ≡ x ∷ xs
unfolding class_then
a_class x xs h = rw (ne_eqb x 255 h, class_then)

-- No class at all, or a first and the others.
pub no_first : (x : ℕ) (xs : List ℕ) → x ≡ 255 → decimals (class_then x xs) ≡ []
unfolding decimals
no_first x xs e = ap decimals (no_class x xs e)

pub a_first : (x : ℕ) (xs : List ℕ) → (x ≡ 255 → ⊥) → decimals (class_then x xs) ≡ decimal x ++ commaed xs
a_first x xs h = ap decimals (a_class x xs h) ∙ decimals_commaed x xs

-- The classes before the first 255.
abbrev pub before_none : List ℕ → List ℕ
before_none [] = []
before_none (x ∷ xs) = class_then x (before_none xs)

-- From a place on there is no class more, or one behind its comma and the later ones.
module _ (xs : List ℕ) (i : ℕ) (h : i < length xs) where
  from_here : before_none (drop i xs) ≡ class_then (get_or xs i 0) (before_none (drop (i + 1) xs))
  from_here = rw (drop-cons xs i 0 h, add-one i)

  pub no_next : get_or xs i 0 ≡ 255 → commaed (before_none (drop i xs)) ≡ []
  unfolding commaed
  no_next e = ap commaed (from_here ∙ no_class (get_or xs i 0) _ e)

  pub a_next : (get_or xs i 0 ≡ 255 → ⊥) → commaed (before_none (drop i xs)) ≡ (comma ∷ decimal (get_or xs i 0)) ++ commaed (before_none (drop (i + 1) xs))
  unfolding commaed
  a_next n = ap commaed (from_here ∙ a_class (get_or xs i 0) _ n)
