-- What every valuation relies on, and the words of one symbol.
use Rattle.std.specs.Prelude.{◌≡◌, List, ℕ, ◌+◌, ◌≤◌, ◌<◌, length, get_or}
use Rattle.paper.specs.Limits.{most_arity}
use Rattle.woven.specs.Woven.{part, Indexed}

-- The words by symbol, their states below k, the arities, and k.
pub record Ready (arities words heads : List ℕ) (k : ℕ) : Type 0 where
  pub indexed : Indexed words heads
  pub target : (i : ℕ) → i < get_or heads 64 0 → part (get_or words i 0) 3 < k
  pub argument : (i j : ℕ) → i < get_or heads 64 0 → j < get_or arities (part (get_or words i 0) 4) 0 → part (get_or words i 0) j < k
  pub ranks : (f : ℕ) → get_or arities f 0 ≤ most_arity
  pub some : 1 ≤ k
  pub most : k ≤ 64

-- The run of words that the symbol f has.
pub record SymbolRun (words heads : List ℕ) (f : ℕ) (run : List ℕ) : Type 0 where
  pub long : get_or heads f 0 + length run ≡ get_or heads (f + 1) 0
  pub at : (i : ℕ) → i < length run → get_or run i 0 ≡ get_or words (get_or heads f 0 + i) 0
