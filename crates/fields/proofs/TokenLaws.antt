-- An entry of a list, from what the code finds: a number, or a token and its byte.
use mathlib.Core.Path.{◌≡◌, refl}
use mathlib.Core.List.{List}
use Prim.Native.Nat.{ℕ, ◌+◌, ◌≤◌, ◌<◌}
use native.Mathlib.Omega.{arith}
use mathlib.Core.Logic.{inl, inr}
use Rattle.std.proofs.Common.{zero-add}
use Rattle.std.proofs.lemmas.Bool.{cases_lt}
use borrow.Author.Tests.{eq-eqb, ne_eqb, lt-ltb, le-ltb, le-leb, lt-leb}
use lib.ListN.{length, drop, get_or}
use Rattle.std.specs.declared.option.Option.{Option}
use Rattle.std.specs.declared.option.Option.TheVariants.{Some, None}
use Rattle.fields.specs.declared.cursor.Taken.{Taken}
use Rattle.fields.specs.Number.{number_from}
use Rattle.fields.specs.Value.{code, coded, coded_as, entry_at}
use Rattle.fields.proofs.Rest.{rest_end, rest_cons}

coded_symbol : (x : Option Taken) → coded_as 64 0 x ≡ coded 1 x
unfolding coded_as coded code
coded_symbol None = refl
coded_symbol (Some t) = elim (cases_lt t.value 64) [
  | inl h ↦ rw (lt-ltb t.value 64 h, zero-add, code)
  | inr h ↦ rw (le-ltb t.value 64 h, code)
]

coded_variable : (x : Option Taken) → coded_as 4 64 x ≡ coded 2 x
unfolding coded_as coded code
coded_variable None = refl
coded_variable (Some t) = elim (cases_lt t.value 4) [
  | inl h ↦ rw (lt-ltb t.value 4 h, le-leb t.value 3 (omega arith), code)
  | inr h ↦ rw (le-ltb t.value 4 h, lt-leb t.value 3 (omega arith), code)
]

-- a token at `at`
module _ (file : List ℕ) (at : ℕ) where
  pub token_end : length file ≤ at → None ≡ entry_at 1 at (drop at file)
  unfolding entry_at
  token_end l = rw (rest_end file at l)

  pub token_variable : at < length file → get_or file at 0 ≡ 120 → coded_as 4 64 (number_from 0 0 (at + 1) (drop (at + 1) file)) ≡ entry_at 1 at (drop at file)
  unfolding entry_at
  token_variable l e = rw (rest_cons file at l, eq-eqb _ _ e, entry_at) (coded_variable _)

  pub token_symbol : at < length file → (get_or file at 0 ≡ 120 → ⊥) → coded_as 64 0 (number_from 0 0 at (drop at file)) ≡ entry_at 1 at (drop at file)
  unfolding entry_at
  token_symbol l e = rw (rest_cons file at l, ne_eqb _ _ e, entry_at) (coded_symbol _)
