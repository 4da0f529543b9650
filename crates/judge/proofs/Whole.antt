-- The search over the woven table is the paper's over the merged automaton.
use mathlib.Core.Path.{◌≡◌, refl, sym, ap, ◌∙◌, subst}
use mathlib.Core.List.Memᴰ
use mathlib.Core.List.{List, [], ◌∷◌, Memᴰ}
use Prim.Native.Nat.{ℕ, zero, suc, ◌*◌, ◌/◌, ◌≤◌, ◌<◌}
use native.Mathlib.Omega.{arith}
use lib.ListN.{length, get_or, take, length-map}
use lib.Seq.{length-take-le}
use Rattle.theory.specs.Lists.{count_from}
use Rattle.theory.specs.Automaton.{Automaton, Transition, InRange, class_of, classes, merge_transition, merged}
use Rattle.theory.proofs.Count.{length_count, order_mem}
use Rattle.theory.proofs.Grow.{Contained}
use Rattle.theory.proofs.Merged.{class_below, merged_in_range}
use Rattle.paper.specs.Limits.{most_rules}
use Rattle.paper.specs.Computed.{cases, examine, closure}
use Rattle.tables.specs.declared.Tables.{Tables}
use Rattle.tables.specs.declared.Merging.{Merging}
use Rattle.tables.specs.Held.{automaton_of, arities_of, rules_of, merge_of, held}
use Rattle.tables.specs.Sound.{Sound}
use Rattle.woven.specs.Woven.{part, move_of, woven_moves, Flat, Indexed, SameMoves}
use Rattle.woven.specs.Ready.{Ready}
use Rattle.paper.proofs.SameTransitions.{examine_same}
use Rattle.lanes.specs.Automaton.{woven_automaton}
use Rattle.search.specs.Searched.{Searchable}
use Rattle.judge.specs.Merged.{Merged}
use Rattle.judge.specs.Judged.{merged_of}
use Rattle.judge.proofs.Bridge.{few_initial, few_states, rank, shareable, moves_here}

-- Every argument of a merged transition is a class.
arguments_low : (merge : List ℕ) (A : Automaton) (tr : Transition) → Memᴰ tr (merged merge A).transitions → (c : ℕ) → Memᴰ c tr.arguments → c < classes merge
unfolding merged merge_transition
arguments_low merge A tr n c l =
    let (a, i, e) = Memᴰ.of_map (merge_transition merge) A.transitions n in
    let (q, j, is) = Memᴰ.of_map (class_of merge) a.arguments (subst (λ (b : Transition). Memᴰ c b.arguments) (sym e) l) in
    subst (λ d. d < classes merge) is (class_below merge q)

-- An argument of a word is one of its transition's.
argument_listed : (w n j : ℕ) → n ≤ 3 → j < n → Memᴰ (part w j) (take n (part w 0 ∷ (part w 1 ∷ (part w 2 ∷ []))))
argument_listed w zero j most h = absurd (omega arith)
argument_listed w (suc n) zero most h = Memᴰ.head refl
argument_listed w (suc zero) (suc j) most h = absurd (omega arith)
argument_listed w (suc (suc n)) (suc zero) most h = Memᴰ.tail (Memᴰ.head refl)
argument_listed w (suc (suc zero)) (suc (suc j)) most h = absurd (omega arith)
argument_listed w (suc (suc (suc n))) (suc (suc zero)) most h = Memᴰ.tail (Memᴰ.tail (Memᴰ.head refl))
argument_listed w (suc (suc (suc n))) (suc (suc (suc j))) most h = absurd (omega arith)

module _ (t : Tables) (m : Merging) (s : Sound t m) where
  abbrev ar : List ℕ
  ar = arities_of t

  few_rules : t.rules.count ≤ most_rules
  unfolding held rules_of
  few_rules = omega (arith, s.well.rules_bound, length-map (count_from 0 t.rules.count) (Rattle.tables.specs.Held.rule_at ar t.rules), length_count 0 t.rules.count)

  -- The search relies on nothing else of the rules.
  pub searchable : Searchable ar t.rules
  unfolding held
  searchable = record { sound = s.rules; shaped = λ rule n. (s.well.rules rule n).shaped; few = s.few; rules_bound = few_rules }

  module _ (bytes : List ℕ) (w : Merged t.initial.rows m.merge (t.initial.count * 5) bytes) where
    abbrev here : List ℕ
    here = take (t.initial.count * 5) bytes

    -- The merged rows can be woven.
    pub weavable : Flat here
    weavable = record {
      most = omega (arith, length-take-le (t.initial.count * 5) bytes (omega (arith, w.long, few_initial t m s)), few_initial t m s);
      small = (shareable t m s bytes w).small;
    }

    module _ (words heads : List ℕ) (indexed : Indexed words heads) (same : SameMoves here words heads (length here / 5)) where
      abbrev woven : Automaton
      woven = woven_automaton ar words heads m.classes

      -- The words mean the merged automaton's transitions.
      there : Contained woven (merged_of t m)
      unfolding woven_automaton
      there tr n = rw (moves_here t m s bytes w) at ((same.same ar tr).0 n)

      back : Contained (merged_of t m) woven
      unfolding woven_automaton
      back tr n = (same.same ar tr).1 (rw (← moves_here t m s bytes w) at n)

      inside : InRange woven
      unfolding woven_automaton merged
      inside = record { targets = λ tr n. omega (arith, s.classes, (merged_in_range (merge_of t m) (automaton_of ar t.initial)).targets tr (there tr n)) }

      -- The words are ready for valuing.
      pub woven_ready : Ready ar words heads m.classes
      unfolding held classes woven_automaton woven_moves move_of
      woven_ready = record {
        indexed = indexed;
        target = λ i h. inside.targets (move_of ar (get_or words i 0)) (word_listed i h);
        argument = λ i j h hj.
            arguments_below (move_of ar (get_or words i 0)) (word_listed i h) (part (get_or words i 0) j)
            (argument_listed (get_or words i 0) (get_or ar (part (get_or words i 0) 4) 0) j (rank t m s (part (get_or words i 0) 4)) hj);
        ranks = rank t m s;
        some = omega (arith, s.classes);
        most = omega (arith, (few_states t m s).2);
      }
        where
          word_listed : (i : ℕ) → i < get_or heads 64 0 → Memᴰ (move_of ar (get_or words i 0)) (woven_moves ar words (get_or heads 64 0))
          word_listed i h = Memᴰ.map (λ i. move_of ar (get_or words i 0)) (order_mem 0 (get_or heads 64 0) i (omega arith) (omega arith))

          arguments_below : (tr : Transition) → Memᴰ tr (woven_moves ar words (get_or heads 64 0)) → (c : ℕ) → Memᴰ c tr.arguments → c < m.classes
          arguments_below tr n c l = omega (arith, s.classes, arguments_low (merge_of t m) (automaton_of ar t.initial) tr (there tr n) c l)

      -- What it says is what the paper says of the merged automaton.
      pub closure_is : (budget : ℕ) → closure woven (rules_of ar t.rules) budget ≡ closure (merged_of t m) (rules_of ar t.rules) budget
      unfolding closure woven_automaton merged
      closure_is budget =
          examine_same woven (merged_of t m) there back s.classes (cases m.classes 0 (rules_of ar t.rules)) budget 0
          ∙ ap (λ k. examine (merged_of t m) (cases k 0 (rules_of ar t.rules)) budget 0) s.classes
