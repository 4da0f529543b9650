-- `lanes::variables::fill` meets its contract: the rows of the sheet are filled, and no others are changed.
use mathlib.Core.Path.{◌≡◌}
use mathlib.Core.Logic.{inl, inr}
use mathlib.Core.List.{List}
use Prim.Native.Nat.{ℕ, ◌+◌, ◌-◌, ◌≤◌}
use native.Mathlib.Omega.{arith}
use lib.ListN.{length, replicate, length-take, length-drop}
use borrow.Rule.Slice.PartMut.{put_mid}
use borrow.Author.Rules.{rules}
use Rattle.std.proofs.lemmas.List.{places}
use Rattle.std.proofs.lemmas.List.Elements.{same_from_all_zip}
use Rattle.values.specs.Rows.{Within}
use Rattle.lanes.specs.Batches.{Full}
use Rattle.lanes.proofs.variables.fill.Goals as goal

filled : (k a w n : ℕ) (m : List (List ℕ)) → a + k ≤ length m → n ≡ k → let now = put_mid a (a + k - a) m (replicate n (replicate 8 w)) in Full k now a w × Within k m a now
filled k a w n m room is = (λ q h. search (rules, places), record { long = search (rules, places); same = λ i out. elim out [ inl h ↦ search (rules, places) | inr h ↦ search (rules, places) ] })

pub returns : goal.returns
returns c =
    let rows = c.fill.ensures.after (λ y h. same_from_all_zip (λ x y. y ≡ x) _ _ h.whole (λ x y r. r)) in
    rw rows (filled c.args.k c.args.a c.args.w _ c.args.m.now c.requires (omega (arith, length-take {A = List ℕ}, length-drop {A = List ℕ})))
