-- The merged table, byte by byte.
use Rattle.std.specs.Prelude.{ℕ, ◌*◌, ◌%◌, ◌≤◌, ◌<◌, Bool, cond, List, map, ◌≡◌, eqb, length, get_or}
use Rattle.paper.specs.Limits.{most_transitions}
use Rattle.theory.specs.Lists.{any}
use Rattle.tables.specs.Held.{members}

-- The byte at `at` of the merged table: a symbol stays, a state becomes its class.
unfoldable pub merged_byte : (rows merge : List ℕ) → ℕ → ℕ
merged_byte rows merge at = cond (eqb (at % 5) 0) (get_or rows at 0) (get_or merge (get_or rows at 0) 0)

-- The first n bytes are merged, the rest is 0, and every byte is below 64.
pub record Merged (rows merge : List ℕ) (n : ℕ) (bytes : List ℕ) : Type 0 where
  pub long : length bytes ≡ 5 * most_transitions
  pub small : (i : ℕ) → get_or bytes i 0 < 64
  pub each : (i : ℕ) → i < n → get_or bytes i 0 ≡ merged_byte rows merge i
  pub rest : (i : ℕ) → n ≤ i → ◌≡◌ {A = ℕ} (get_or bytes i 0) 0

-- The class q has a final member among the first n states.
unfoldable pub final_class : (finals : ℕ) → (merge : List ℕ) → ℕ → ℕ → Bool
final_class finals merge n q = any (map (λ s. get_or merge s 0) (members finals 0 n)) (eqb q)
