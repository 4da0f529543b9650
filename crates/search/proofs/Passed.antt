-- A class that is not gone into is passed over: what is clear before it stays clear through its substitutions.
use mathlib.Core.Path.{◌≡◌, refl, sym, ap, ◌∙◌, subst}
use mathlib.Core.Bool.{false}
use mathlib.Core.Logic.{inl, inr}
use mathlib.Core.List.{List, [], ◌∷◌, ◌++◌, append_assoc, Memᴰ}
use Prim.Native.Nat.{ℕ, suc, ◌+◌, ◌*◌, ◌^◌, ◌≤◌, ◌<◌}
use native.Mathlib.Omega.{arith}
use native.Mathlib.Nat.{suc-mul, mul-le-mul_right}
use lib.ListN.{length, get_or, set, length-append}
use lib.Seq.{set-append_seam}
use Rattle.theory.specs.Rewriting.{Rule, WellShapedRules}
use Rattle.theory.specs.Automaton.{Automaton, InRange}
use Rattle.theory.specs.Critical.{entry}
use Rattle.theory.specs.Value.{substitutions}
use Rattle.theory.proofs.Search.{substitutions_sound}
use Rattle.paper.specs.Computed.{case}
use Rattle.paper.proofs.Cases.{length_substitutions}
use Rattle.sets.specs.Sets.{mem}
use Rattle.alike.specs.Alike.{SameSides}
use Rattle.alike.proofs.First.{still_critical}
use Rattle.lanes.specs.Prefixes.{rest, choices}
use Rattle.lanes.specs.Batches.{Calm as CalmFrom}
use Rattle.search.specs.Searched.{Opened}
use Rattle.search.proofs.Order.{place_listed}
use Rattle.search.proofs.Walk.{case_at, Calm, Level, level_prefix, level_run, calm_from}

-- The class behind the first ones, and another in its place.
entry_seam : (xs : List ℕ) (y : ℕ) (τ : List ℕ) → entry ((xs ++ (y ∷ [])) ++ τ) (length xs) ≡ y
unfolding entry
entry_seam [] y τ = refl
entry_seam (x ∷ xs) y τ = entry_seam xs y τ

set_seam : (xs : List ℕ) (y c : ℕ) (τ : List ℕ) → set ((xs ++ (y ∷ [])) ++ τ) (length xs) c ≡ (xs ++ (c ∷ [])) ++ τ
set_seam xs y c τ = rw (append_assoc xs (y ∷ []) τ, append_assoc xs (c ∷ []) τ) (set-append_seam xs y τ c)

rest_early : (v i : ℕ) → i + 1 < v → i + 1 + rest v (i + 1) ≡ v
unfolding rest
rest_early v i h = omega arith

module _ (M : Automaton) (R : List Rule) where
  -- With c at the variable i as calm as with y.
  calm_beside : (r : ℕ) (rule : Rule) (xs : List ℕ) (c y : ℕ) (τ : List ℕ) → SameSides M rule (length xs) c y → Calm M R (case r rule ((xs ++ (c ∷ [])) ++ τ))
      → Calm M R (case r rule ((xs ++ (y ∷ [])) ++ τ))
  calm_beside r rule xs c y τ same calm q k =
      let here : SameSides M rule (length xs) c (entry ((xs ++ (y ∷ [])) ++ τ) (length xs)) = rw (entry_seam xs y τ) same in
      calm q (rw (set_seam xs y c τ) at (still_critical r ((xs ++ (y ∷ [])) ++ τ) here k))

  module _ (range : InRange M) (shaped : WellShapedRules R) (v i r : ℕ) (rule : Rule) (xs : List ℕ) (budget start y n : ℕ) (t : Level M R v i r rule xs budget start y n)
      (going : y < choices M.states v i) (early : i + 1 < v) where
    -- The substitution with the choice y whose later classes are τ.
    at_place : (x m : ℕ) → Level M R v i r rule xs budget start x m → x < choices M.states v i → (d : ℕ) → d < M.states ^ rest v (i + 1)
        → case_at M R (m + d) ≡ case r rule ((xs ++ (x ∷ [])) ++ get_or (substitutions M.states (rest v (i + 1))) d [])
    at_place x m l h d hd = (level_run M R l h).each d hd ∙ ap (λ π. case r rule (π ++ get_or (substitutions M.states (rest v (i + 1))) d [])) (level_prefix M R l h early)

    -- Where a smaller class c gives both sides the same value, none of them has a critical class.
    alike_calm : (c : ℕ) → c < y → SameSides M rule (length xs) c y → (d : ℕ) → d < M.states ^ rest v (i + 1) → Calm M R (case_at M R (n + d))
    alike_calm c less same d hd =
        let w = rest v (i + 1) in
        let m = start + c * M.states ^ w in
        let earlier : m + M.states ^ w ≤ n = omega (arith, t.place, suc-mul c (M.states ^ w), mul-le-mul_right (M.states ^ w) (below c y less)) in
        let before : Level M R v i r rule xs budget start c m = record {
          run = t.run;
          long = t.long;
          upto = omega (arith, t.upto);
          place = refl;
          within = omega (arith, t.within);
          clear = λ j h. t.clear j (omega arith);
        } in
        subst (Calm M R) (sym (at_place y n t going d hd)) (calm_beside r rule xs c y _ same (subst (Calm M R) (at_place c m before (omega arith) d hd) (t.clear (m + d) (omega arith))))
      where
        below : (c y : ℕ) → c < y → suc c ≤ y
        below c y h = h

    -- Where none of them has one at all.
    all_calm : Memᴰ rule R → CalmFrom M rule v (xs ++ (y ∷ [])) → (d : ℕ) → d < M.states ^ rest v (i + 1) → Calm M R (case_at M R (n + d))
    all_calm listed calm d hd =
        let k = M.states in
        let w = rest v (i + 1) in
        let τ = get_or (substitutions k w) d [] in
        let sound = substitutions_sound k w (place_listed (substitutions k w) [] d (omega (arith, length_substitutions k w))) in
        let long : length (xs ++ (y ∷ [])) + length τ ≡ v = omega (arith, length-append xs (y ∷ []), t.long, sound.0, rest_early v i early) in
        subst (Calm M R) (sym (at_place y n t going d hd)) (calm_from M R range shaped r rule ((xs ++ (y ∷ [])) ++ τ) listed (λ q hq. calm τ long sound.1 q hq))

  -- A choice that is not gone into.
  pub passed_calm : (range : InRange M) (shaped : WellShapedRules R) (v i r : ℕ) (rule : Rule) (xs : List ℕ) (budget start y n : ℕ) → Level M R v i r rule xs budget start y n
      → y < choices M.states v i
      → Memᴰ rule R → (mask : ℕ) → Opened M rule v xs mask → mem mask y ≡ false → y < M.states → (d : ℕ) → d < M.states ^ rest v (i + 1) → Calm M R (case_at M R (n + d))
  passed_calm range shaped v i r rule xs budget start y n t going listed mask opened gone low d hd =
      let early : i + 1 < v = omega (arith, opened.early y low gone, t.long) in
      elim (opened.passed y low gone) [
        | inl calm ↦ all_calm range shaped v i r rule xs budget start y n t going early listed calm d hd
        | inr before ↦ alike_calm range shaped v i r rule xs budget start y n t going early before.class before.less before.same d hd
      ]
