-- What is critical stays critical when an alike class stands for a variable.
use mathlib.Core.List.{List}
use Prim.Native.Nat.{ℕ}
use lib.ListN.{set}
use lib.Seq.{set-get_or}
use Rattle.theory.specs.Rewriting.{Rule}
use Rattle.theory.specs.Automaton.{Automaton}
use Rattle.theory.specs.Critical.{entry}
use Rattle.paper.specs.Computed.{case}
use Rattle.paper.proofs.Listed.{CriticalFor}
use Rattle.alike.specs.Alike.{AlikeFor, SameSides}
use Rattle.alike.proofs.Carried.{same_value}

-- Classes alike for x in both sides may stand for each other.
pub same_sides : {M : Automaton} {rule : Rule} {x c d : ℕ} → AlikeFor M x c d rule.left → AlikeFor M x c d rule.right → SameSides M rule x c d
same_sides l r = record { left = same_value l; right = same_value r }

-- With c for x the same class is critical.
pub still_critical : {M : Automaton} {rule : Rule} {x c : ℕ} (n : ℕ) (σ : List ℕ) {q : ℕ} → SameSides M rule x c (entry σ x) → CriticalFor M (case n rule σ) q
    → CriticalFor M (case n rule (set σ x c)) q
unfolding entry
still_critical {M} {rule} {x} {c} n σ {q} s k =
    let own = set-get_or σ x 0 in
    record {
      left = (s.left.same σ q).1 (rw own k.left);
      not_right = λ g. k.not_right (rw own at ((s.right.same σ q).0 g));
    }
