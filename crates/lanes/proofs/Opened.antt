-- Which masks of classes are open: all of them, none, those that are alive and needed, and those that a sweep finds.
use mathlib.Core.Path.{◌≡◌, sym, ◌∙◌}
use mathlib.Core.Bool.{false}
use mathlib.Core.Logic.{◌⊎◌, inl, inr, ⊎_elim}
use mathlib.Core.List.{List, [], ◌∷◌, ◌++◌}
use Prim.Native.Nat.{ℕ, ◌+◌, ◌≤◌, ◌<◌}
use native.Mathlib.Omega.{arith}
use lib.Bits.{bit_and}
use lib.ListN.{length}
use Rattle.theory.specs.Rewriting.{Rule}
use Rattle.theory.specs.Automaton.{Automaton}
use Rattle.theory.proofs.Bools.{and_on, not_both}
use Rattle.paper.proofs.Smallest.{decided}
use Rattle.sets.specs.Sets.{mem, all_mask}
use Rattle.sets.proofs.Laws.{mem-and, mem_all}
use Rattle.lanes.specs.Batches.{Calm, CalmAll, Alive, Swept, Open}
use Rattle.lanes.proofs.Calm.{calm_more}

module _ (M : Automaton) (rule : Rule) (v : ℕ) (xs : List ℕ) (needed : ℕ) where
  pub open_all : M.states ≤ 64 → Open M rule v xs needed all_mask
  open_all most = record {
    early = λ y hy e. not_both (mem all_mask y) (mem_all y (omega arith)) e;
    passed = λ y hy e. not_both (mem all_mask y) (mem_all y (omega arith)) e;
  }

  pub open_none : v ≡ length xs + 2 → CalmAll M rule xs → Open M rule v xs needed 0
  open_none is calm = record {
    early = λ y hy e. omega arith;
    passed = λ y hy e. inl (calm_more M rule v xs y hy (λ τ long. calm τ (omega arith)));
  }

  module _ (few : v ≤ 4) (mask : ℕ) (alive : Alive M rule xs mask) where
    not_live : (y : ℕ) → y < M.states → mem (bit_and mask needed) y ≡ false → Calm M rule v (xs ++ (y ∷ [])) ⊎ (mem needed y ≡ false)
    not_live y hy e =
        ⊎_elim (λ on. inr (sym (and_on (mem mask y) (mem needed y) on) ∙ sym (mem-and mask needed y) ∙ e)) (λ off. inl (alive.dead y hy off v few)) (decided (mem mask y))

    pub open_live : length xs + 1 < v → Open M rule v xs needed (bit_and mask needed)
    open_live h = record { early = λ y hy e. h; passed = not_live }

    pub open_swept : (found : ℕ) → v ≡ length xs + 3 → Swept M rule xs (bit_and mask needed) found → Open M rule v xs needed found
    open_swept found is swept = record {
      early = λ y hy e. omega arith;
      passed = λ y hy e. ⊎_elim (λ on. inl (λ τ long. swept y hy on e τ (omega arith))) (not_live y hy) (decided (mem (bit_and mask needed) y));
    }
