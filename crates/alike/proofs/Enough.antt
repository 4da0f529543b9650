-- The classes left to look at are enough.
use mathlib.Core.Path.{◌≡◌, sym, ap, ◌∙◌}
use mathlib.Core.Bool.{true, false≢true}
use mathlib.Core.List.Memᴰ
use mathlib.Core.List.{List, Memᴰ}
use Prim.Native.Nat.{ℕ, ◌/◌, ◌^◌, ◌*◌, ◌<◌}
use native.Mathlib.Nat.{mod-lt}
use lib.Dec.{lit<}
use lib.ListN.{get_or}
use Rattle.theory.specs.Lists.{count_from}
use Rattle.theory.specs.Term.{Term, var}
use Rattle.theory.specs.Automaton.{Transition}
use Rattle.sets.specs.Sets.{mem, all_mask}
use Rattle.sets.proofs.Laws.{mem_all}
use Rattle.woven.specs.Woven.{part, move_of, woven_moves}
use Rattle.alike.specs.Alike.{AlikeIn, AlikeFor}
use Rattle.alike.specs.Sides.{SideJoined}
use Rattle.alike.specs.Needed.{Lowest, Enough}
use Rattle.alike.proofs.Sides.{symbol_bare}
use Rattle.alike.proofs.First.{same_sides}

-- All classes have every target of a word.
all_targets : (arities words : List ℕ) (n : ℕ) {tr : Transition} → Memᴰ tr (woven_moves arities words n) → mem all_mask tr.target ≡ true
unfolding woven_moves move_of part
all_targets arities words n m =
    let (i, k, e) = Memᴰ.of_map (λ i. move_of arities (get_or words i 0)) (count_from 0 n) m in
    ap (λ tr. mem all_mask tr.target) (sym e) ∙ mem_all _ (mod-lt (get_or words i 0 / 2 ^ (8 * 3)) (lit< tt))

module _ (words heads arities tokens : List ℕ) (x : ℕ) where
  -- All classes are.
  pub all_enough : Enough words heads arities tokens x all_mask
  all_enough M rule al ar left right bare same = record { smaller = λ d h e. absurd (false≢true (sym e ∙ mem_all d h)) }

  -- So are those in whose masks no smaller class is, once the masks are joined for both sides.
  pub lowest_enough : (w₀ w₁ w₂ : List ℕ) (mask : ℕ) → get_or tokens 24 0 < 64 → SideJoined words heads arities tokens x 0 w₀ w₁ → SideJoined words heads arities tokens x 24 w₁ w₂ → Lowest w₂ 64 mask
      → Enough words heads arities tokens x mask
  lowest_enough w₀ w₁ w₂ mask symbol l r low M rule al ar left right bare same = record {
    smaller = λ d h e.
        let (c, less, m) = low d h e in
        record {
          class = c;
          less = less;
          same = same_sides
              (alike rule.left (bare x) (rw same (l.alike rule.left al left d c h (r.within d c m))))
              (alike rule.right (symbol_bare arities tokens 24 rule.right ar x symbol right) (rw same (r.alike rule.right ar right d c h m)));
        };
  }
    where
      alike : {c d : ℕ} (t : Term ℕ) → (t ≡ var x → ⊥) → AlikeIn M.transitions x c d all_mask t → AlikeFor M x c d t
      alike t other places =
          record { not_bare = other; wanted = all_mask; targets = λ f qs q m. all_targets arities words (get_or heads 64 0) (rw same at m); places = places }
