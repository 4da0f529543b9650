-- `search::opened` meets its contract: what is not gone into has no critical pair, or does not lead.
use mathlib.Core.Logic.{inl, inr}
use native.Mathlib.Omega.{arith}
use Rattle.lanes.specs.Automaton.{woven_automaton}
use Rattle.search.proofs.opened.Goals as goal

pub returns : goal.returns
unfolding woven_automaton
returns c =
    let result = c.open.ensures in (
      λ rule told led.
          let o = result.0 rule told.spelled told.left_below told.right_below in
          record {
            early = o.early;
            passed = λ y low gone. elim (o.passed y low gone) [
              | inl calm ↦ inl calm
              | inr past ↦ inr (led.smaller y (omega (arith, c.args.delta.ready.most)) past)
            ];
          },
      result.1,
    )
