-- The marks are fixed: two tables of 64 words that mark exactly the pairs that share a tree are equal.
use mathlib.Core.Path.{◌≡◌}
use mathlib.Core.List.{List}
use Prim.Native.Nat.{ℕ}
use lib.ListN.{length, get_or}
use lib.Seq.{ext_get_or}
use Rattle.theory.proofs.Bools.{same_test}
use Rattle.sets.specs.Sets.{mem}
use Rattle.sets.proofs.Laws.{mem_ext}
use Rattle.sharing.specs.Share.{Words, Exact}

pub one_marking : (merged bad ar xs ys : List ℕ) → length xs ≡ length ys → Words xs → Words ys → Exact merged bad ar xs → Exact merged bad ar ys → xs ≡ ys
one_marking merged bad ar xs ys long ws vs e f =
    ext_get_or 0 xs ys long (λ c l. mem_ext 64 (get_or xs c 0) (get_or ys c 0) (ws c) (vs c) (λ b k.
    same_test (mem (get_or xs c 0) b) (mem (get_or ys c 0) b) (λ h. (f c b).1 ((e c b).0 h)) (λ h. (e c b).1 ((f c b).0 h))))
