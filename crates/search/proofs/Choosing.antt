-- A turn of the loop over the first or the second variable: a class is gone into, or passed over and counted whole.
use mathlib.Core.Path.{◌≡◌, ◌∙◌}
use mathlib.Core.Bool.{false}
use mathlib.Core.List.{List}
use Prim.Native.Nat.{ℕ, ◌+◌, ◌-◌, ◌*◌, ◌^◌, ◌≤◌, ◌<◌}
use lib.ListN.{length}
use Rattle.sets.specs.Sets.{mem}
use Rattle.tables.specs.Held.{rules_of}
use Rattle.tables.specs.declared.Rules.{Rules}
use Rattle.lanes.specs.Prefixes.{rest, choices}
use Rattle.lanes.specs.Automaton.{woven_automaton}
use Rattle.search.proofs.Order.{rule_in}
use Rattle.search.proofs.Walk.{Level}
use Rattle.search.proofs.Loops.{AtChoice, roomed}
use Rattle.search.proofs.Turns.{choice_bit, next_done, passed_next}

module _ {arities words heads : List ℕ} {rules : Rules} {k budget most size r : ℕ} {tokens : List ℕ} {v lanes passed1 passed0 m0 m1 m2 variables right leads1 : ℕ}
    {i : ℕ} {xs : List ℕ} {mask : ℕ} {m₀ m : List (List ℕ)} {start y n : ℕ}
    (at : AtChoice arities words heads rules k budget most size r tokens v lanes passed1 passed0 m0 m1 m2 variables right leads1 i xs mask m₀ m start y n) where
  module _ {turns : ℕ} (is-turns : turns ≡ choices k v i) (tried : y < turns) where
    pub class_low : y < 64
    class_low = choice_bit at.ruled at.level is-turns tried

    -- The classes of the next variable are all done with.
    pub gone_through : {ys : List ℕ} {z past inner n' : ℕ} {rows l : List (List ℕ)}
        → Level (woven_automaton arities words heads k) (rules_of arities rules) v (i + 1) r (rule_in (rules_of arities rules) r) ys budget n z past
        → inner ≡ choices k v (i + 1) → inner ≤ z → n' ≡ past → l ≡ rows → 52 * k ≤ length rows → length rows ≡ length m
        → AtChoice arities words heads rules k budget most size r tokens v lanes passed1 passed0 m0 m1 m2 variables right leads1 i xs mask m₀ l start (y + 1) n'
    gone_through level is-inner done count stays room same = record {
      ruled = at.ruled;
      level = next_done at.ruled at.level is-turns tried level is-inner done count;
      opened = at.opened;
      rows = roomed stays room (same ∙ at.rows.same);
    }

    pub passed_over : {many n' : ℕ} {l : List (List ℕ)} → many ≡ k ^ rest v (i + 1) → mem mask y ≡ false → many ≤ most - n → n' ≡ n + many → l ≡ m
        → AtChoice arities words heads rules k budget most size r tokens v lanes passed1 passed0 m0 m1 m2 variables right leads1 i xs mask m₀ l start (y + 1) n'
    passed_over is-many out fits count stays = record {
      ruled = at.ruled;
      level = passed_next at.ruled at.level is-turns tried is-many at.opened out fits count;
      opened = at.opened;
      rows = roomed stays at.rows.room at.rows.same;
    }
