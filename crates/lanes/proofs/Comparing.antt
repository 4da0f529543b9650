-- Both sides valued one after the other: the second call leaves the left side's sheet and the variables' sheets, so each side has its value by the sets at the start.
use mathlib.Core.Path.{◌≡◌, refl, sym, ap, ap₂, ◌∙◌}
use mathlib.Core.Bool.{Bool, true, false, not, ◌&&◌, true≢false}
use mathlib.Core.Logic.{inl, inr}
use mathlib.Core.List.{List}
use Prim.Native.Nat.{ℕ, ◌+◌, ◌*◌, ◌≤◌, ◌<◌}
use native.Mathlib.Nat.{mul-le-mul, mul-le-mul_right}
use native.Mathlib.Omega.{arith}
use lib.ListN.{length, get_or}
use Rattle.std.specs.declared.option.Option.{Option}
use Rattle.theory.specs.Rewriting.{Rule}
use Rattle.theory.specs.Automaton.{Transition}
use Rattle.theory.proofs.Bools.{and_off}
use Rattle.sets.specs.Sets.{Set, less}
use Rattle.woven.specs.Woven.{woven_moves}
use Rattle.values.specs.Sets.{spanned}
use Rattle.values.specs.Lanes.{lane, sheet_of, given}
use Rattle.values.specs.Standing.{Stands, Spelled, Kept, Valuable, Valued}
use Rattle.values.proofs.Sheets.{sheet_same, given_same, sheet_symbol, room}
use Rattle.values.proofs.Standing.{sheet_room, valued_room}
use Rattle.lanes.specs.Batches.{Judgeable, Compared, Untouched}

-- A side can be valued, where what is kept is right.
pub valuable : {arities words heads tokens : List ℕ} {k at : ℕ} {near : Option ℕ} {m now : List (List ℕ)} {ends : List ℕ}
    → Judgeable arities tokens k m → Stands arities tokens at → length now ≡ length m
    → Kept (woven_moves arities words (get_or heads 64 0)) arities tokens k near now ends → Valuable arities words heads tokens near k at ends now
valuable j stands long kept = record { tokens_long = j.tokens_long; stands = stands; room = omega (arith, j.room); kept = kept }

-- Only sheets of tokens are changed by valuing a term.
valued_untouched : {Δ : List Transition} {arities tokens : List ℕ} {k at next : ℕ} {m after : List (List ℕ)}
    → Stands arities tokens at → Valued Δ arities tokens k m at after next → Untouched k m after
valued_untouched {Δ = Δ} {arities = arities} {tokens = tokens} {k = k} {next = next} s v =
    record { long = v.long; same = λ i h. v.outside i (inr (omega (arith, mul-le-mul_right {m = next} {n = 48} k (valued_room arities tokens Δ k s v)))) }

zeroth : (k : ℕ) → 0 * k ≡ 0
zeroth k = omega arith

module _ {arities tokens : List ℕ} {k : ℕ} {m : List (List ℕ)} (j : Judgeable arities tokens k m) where
  -- The right side's sheet is within the list, and its first row is a small number.
  pub right_room : sheet_of tokens 24 * k + k ≤ length m
  right_room = room k (sheet_of tokens 24) (sheet_room arities tokens 24 j.right) j.room

  pub right_low : k ≤ 64 → sheet_of tokens 24 * k ≤ 3328
  right_low most = let low : sheet_of tokens 24 ≤ 52 = omega (arith, sheet_room arities tokens 24 j.right) in mul-le-mul low most

  module _ {Δ : List Transition} {mid : List (List ℕ)} {next : ℕ} (first : Valued Δ arities tokens k m 0 mid next) where
    left_value : (rule : Rule) → Spelled arities tokens rule → (l : ℕ) → l < 512 → lane k mid (0 * k) l ≡ spanned Δ (given k m l) rule.left
    left_value rule s l h = ap (λ b. lane k mid (b * k) l) (sym (sheet_symbol tokens 0 j.symbol)) ∙ first.value rule.left s.after_left s.left l h

    pub left_untouched : Untouched k m mid
    left_untouched = valued_untouched j.left first

    -- A left side with no class in any lane.
    pub compared_empty : ((l q : ℕ) → l < 512 → lane k mid 0 l q ≡ false) → (rule : Rule) → Spelled arities tokens rule → Compared Δ tokens k m mid rule false
    compared_empty empty rule s = record {
      clear = λ e l h q hq. and_off _ _ (ap (λ (t : Set). t q) (sym (left_value rule s l h)) ∙ ap (λ a. lane k mid a l q) (zeroth k) ∙ empty l q h);
      left = λ e. absurd (true≢false (sym e));
      right = λ e. absurd (true≢false (sym e));
    }

    module _ {after : List (List ℕ)} {end : ℕ} (second : Valued Δ arities tokens k mid 24 after end) where
      pub both_untouched : Untouched k m after
      both_untouched =
          let later = valued_untouched j.right second in
          record { long = later.long ∙ left_untouched.long; same = λ i h. later.same i h ∙ left_untouched.same i h }

      left_after : (rule : Rule) → Spelled arities tokens rule → (l : ℕ) → l < 512 → lane k after 0 l ≡ spanned Δ (given k m l) rule.left
      left_after rule s l h = ap (λ a. lane k after a l) (sym (zeroth k)) ∙ sheet_same k 24 end mid after second.outside 0 l (inl (omega arith)) ∙ left_value rule s l h

      right_after : (rule : Rule) → Spelled arities tokens rule → (l : ℕ) → l < 512 → lane k after (sheet_of tokens 24 * k) l ≡ spanned Δ (given k m l) rule.right
      right_after rule s l h =
          second.value rule.right s.after_right s.right l h
          ∙ ap (λ ρ. spanned Δ ρ rule.right) (given_same k 0 next m mid first.outside (valued_room arities tokens Δ k j.left first) l)

      -- Whether in every lane each class of the left side is one of the right side.
      pub compared_both : {b : ℕ} → b ≡ sheet_of tokens 24 → (inside : Bool) → (inside ≡ true → (l q : ℕ) → l < 512 → less (lane k after 0 l) (lane k after (b * k) l) q ≡ false)
          → (rule : Rule) → Spelled arities tokens rule → Compared Δ tokens k m after rule (not inside)
      compared_both is true none-less rule s = record {
        clear = λ e l h q hq.
            ap₂ (λ x y. x && not y) (ap (λ (t : Set). t q) (sym (left_after rule s l h)))
            (ap (λ (t : Set). t q) (sym (ap (λ b. lane k after (b * k) l) is ∙ right_after rule s l h))) ∙ none-less refl l q h;
        left = λ e. absurd (true≢false (sym e));
        right = λ e. absurd (true≢false (sym e));
      }
      compared_both is false none-less rule s = record { clear = λ e. absurd (true≢false e); left = λ e. left_after rule s; right = λ e. right_after rule s }
