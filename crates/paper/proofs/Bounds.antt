-- The largest total, the ranges of a file's verdict, and the longest answer.
use mathlib.Core.Path.{◌≡◌, refl, ap}
use mathlib.Core.Logic.{inl, inr}
use mathlib.Core.List.{List, [], ◌∷◌, Memᴰ}
use mathlib.Core.Option.{Option, none, some}
use Prim.Native.Nat.{ℕ, suc, ◌+◌, ◌*◌, ◌-◌, ◌^◌, ◌≤◌, ◌<◌}
use Prim.Native.String.{String}
use native.Mathlib.Omega.{arith}
use native.Mathlib.Nat.{le_trans, pow-le-pow_left, pow-le-pow_right, mul-le-mul_left}
use lib.ListN.{length, length-append}
use Rattle.theory.specs.Rewriting.{Rule, variable_count}
use Rattle.theory.specs.Critical.{Substitutable}
use Rattle.theory.specs.Automaton.{largest, classes, merged}
use Rattle.theory.proofs.Merged.{merged_in_range}
use Rattle.theory.proofs.Nth.{nth_mem, nth_below}
use Rattle.theory.proofs.Search.{left_below}
use Rattle.paper.specs.Bytes.{bytes}
use Rattle.paper.specs.Limits.{most_budget, most_states, last_state, most_digits, least_buffer, most_rules, most_variables}
use Rattle.paper.specs.Certificate.{Certificate}
use Rattle.paper.specs.Format.{Refusal, too_long, on_line}
use Rattle.paper.specs.Meaning.{malformed, unsuitable, critical, accepted, stopped, Verdict, Sharing, Closure, total, SharingMeans, ClosureMeans, Means, Given, SharingGiven, ClosureGiven}
use Rattle.paper.specs.Computed.{verdict, verdict_on, verdict_of}
use Rattle.paper.specs.WellFormed.{WellFormed}
use Rattle.paper.specs.Answer.{decimals, decimal_if, dash, eight, answer, answer_of}
use Rattle.paper.proofs.Exact.{final_classes, verdict_exact}
use Rattle.paper.proofs.Admitted.{admitted}
use Rattle.paper.proofs.Refused.{refused_or_holds}
use Rattle.paper.proofs.Numbers.{decimal_length}
use Rattle.paper.proofs.Lengths.{decimals_length, line_length}

largest_bound : (ns : List ℕ) (b : ℕ) → ((n : ℕ) → Memᴰ n ns → n ≤ b) → largest ns ≤ b
unfolding largest
largest_bound [] b h = omega arith
largest_bound (n ∷ ns) b h = omega (arith, h n (Memᴰ.head refl), largest_bound ns b (λ m i. h m (Memᴰ.tail i)))

-- There are at most as many classes as an automaton may have states.
pub classes_bound : (c : Certificate) → WellFormed c → classes c.merge ≤ most_states
unfolding classes
classes_bound c w = omega (arith, largest_bound c.merge last_state w.merge)

total_rules : (k : ℕ) (R : List Rule) → k ≤ most_states → ((rule : Rule) → Memᴰ rule R → variable_count rule ≤ most_variables) → total k R ≤ length R * most_states ^ most_variables
unfolding total
total_rules k [] l h = omega arith
total_rules k (rule ∷ R) l h =
    let power : k ^ variable_count rule ≤ most_states ^ most_variables = le_trans (pow-le-pow_left l (variable_count rule)) (pow-le-pow_right (omega arith) (h rule (Memᴰ.head refl))) in
    omega (arith, total_rules k R l (λ r m. h r (Memᴰ.tail m)))

-- The total's largest value is 32 x 1,048,576 = 33,554,432.
pub total_most : (c : Certificate) → WellFormed c → total (classes c.merge) c.rules ≤ most_budget
total_most c w = omega (arith, total_rules (classes c.merge) c.rules (classes_bound c w) (λ rule m. (w.rules rule m).few), w.rules_bound)

-- A critical pair of rule i, the classes xs and the class q, found at the n-th substitution.
pub record CriticalRanged (i : ℕ) (xs : List ℕ) (q n : ℕ) : Type 0 where
  pub rule : i < most_rules
  pub variables : length xs ≤ most_variables
  pub classes : (x : ℕ) → Memᴰ x xs → x < most_states
  pub class : q < most_states
  pub examined : n ≤ most_budget

-- Each number of an answer to a question is in its range ..
unfoldable pub SharingRanged : Sharing → Type 0
SharingRanged (Sharing.shared class bad) = (class < most_states) × (bad < most_states)
SharingRanged Sharing.nothing = Unit {0}

unfoldable pub ClosureRanged : Closure → Type 0
ClosureRanged (Closure.critical rule xs class examined) = CriticalRanged rule xs class examined
ClosureRanged (Closure.closed examined) = examined ≤ most_budget
ClosureRanged (Closure.stopped examined) = examined ≤ most_budget

-- .. and of a verdict.
unfoldable pub Ranged : Verdict → Type 0
Ranged (malformed number line) = Refusal number line
Ranged (unsuitable class bad) = SharingRanged (Sharing.shared class bad)
Ranged (critical rule xs class examined) = ClosureRanged (Closure.critical rule xs class examined)
Ranged (accepted examined) = ClosureRanged (Closure.closed examined)
Ranged (stopped examined) = ClosureRanged (Closure.stopped examined)

module _ (c : Certificate) (w : WellFormed c) where
  pub sharing_ranged : (s : Sharing) → SharingGiven c s → SharingRanged s
  unfolding SharingGiven SharingMeans SharingRanged merged
  sharing_ranged (Sharing.shared q p) (s, t) =
      (omega (arith, final_classes c.merge c.A q t.itself.class, classes_bound c w), omega (arith, w.B.final p t.itself.state, w.B.states_bound))
  sharing_ranged Sharing.nothing n = tt

  pub closure_ranged : (k : Closure) → ClosureGiven c k → ClosureRanged k
  unfolding ClosureGiven ClosureMeans ClosureRanged merged Substitutable
  closure_ranged (Closure.critical rule xs q n) (f, l) =
      let rule-in = nth_mem c.rules f.pair.number f.pair.listed in
      let few = classes_bound c w in
      record {
        rule = omega (arith, nth_below c.rules f.pair.number f.pair.rule f.pair.listed, f.number, w.rules_bound);
        variables = omega (arith, ap length f.classes, f.pair.complete, (w.rules f.pair.rule rule-in).few);
        classes = λ x j. omega (arith, f.pair.allowed x (rw (← f.classes) at j));
        class = omega (arith, f.named, left_below (merged_in_range c.merge c.A) f.pair.rule.left (w.rules f.pair.rule rule-in).shaped.not_bare f.pair.left);
        examined = omega (arith, w.budget);
      }
  closure_ranged (Closure.closed n) (a, l, e) = omega (arith, w.budget)
  closure_ranged (Closure.stopped n) (q, l, e) = omega (arith, w.budget)

  given_ranged : (v : Verdict) → Given c v → Ranged v
  unfolding Given Means SharingGiven ClosureGiven Ranged
  given_ranged (malformed number line) g = absurd g
  given_ranged (unsuitable q p) g = sharing_ranged (Sharing.shared q p) g
  given_ranged (critical rule xs q n) (s, g) = closure_ranged (Closure.critical rule xs q n) g
  given_ranged (accepted n) (s, g) = closure_ranged (Closure.closed n) g
  given_ranged (stopped n) (s, g) = closure_ranged (Closure.stopped n) g

-- Every number of a file's verdict is in its range.
pub verdict_ranged : (file : List ℕ) → Ranged (verdict_of file)
unfolding verdict_of verdict_on Ranged
verdict_ranged file = elim (refused_or_holds file) [
  | inl (number, line, e, r) ↦ rw e r
  | inr (c, e) ↦ rw e (given_ranged c (admitted file c e) (verdict c) ((verdict_exact c (admitted file c e) (verdict c)).0 refl))
]

-- Counts and lines of at most l + 1 digits, all other numbers of at most s + 1, and at most four classes.
pub record CriticalShort (s l i : ℕ) (xs : List ℕ) (q n : ℕ) : Type 0 where
  pub rule : i < 10 ^ suc s
  pub four : length xs ≤ most_variables
  pub classes : (x : ℕ) → Memᴰ x xs → x < 10 ^ suc s
  pub class : q < 10 ^ suc s
  pub examined : n < 10 ^ suc l

unfoldable pub Short : (s l : ℕ) → Verdict → Type 0
Short s l (malformed number none) = number < 10 ^ suc s
Short s l (malformed number (some line)) = (number < 10 ^ suc s) × (line < 10 ^ suc l)
Short s l (unsuitable class bad) = (class < 10 ^ suc s) × (bad < 10 ^ suc s)
Short s l (critical rule xs class examined) = CriticalShort s l rule xs class examined
Short s l (accepted examined) = examined < 10 ^ suc l
Short s l (stopped examined) = examined < 10 ^ suc l

-- The eight lines are as long as their keys and values.
pub eight_length : (k v : String) (a b c d e f g : List ℕ)
    → length (eight k v a b c d e f g) ≡ length (bytes k) + length (bytes v) + length a + length b + length c + length d + length e + length f + length g + 48
unfolding eight bytes
eight_length k v a b c d e f g = simp (length-append, line_length) (omega arith)

-- At most four classes of at most s + 1 digits, with their commas.
pub four_classes : (s : ℕ) (xs : List ℕ) → length xs ≤ most_variables → ((x : ℕ) → Memᴰ x xs → x < 10 ^ suc s) → length (decimals xs) ≤ suc (suc s) * most_variables - 1
four_classes s xs four h = omega (arith, decimals_length s xs h, mul-le-mul_left (suc (suc s)) four)

-- The answer to critical is the longest: rule, four classes with their commas, class, and the examined count.
pub answer_length : (s l : ℕ) (v : Verdict) → Short s l v → length (answer v) ≤ 76 + 6 * s + l
unfolding answer dash bytes Short decimal_if
answer_length s l (malformed number none) h = rw eight_length (omega (arith, decimal_length s number h))
answer_length s l (malformed number (some line)) (h, g) = rw eight_length (omega (arith, decimal_length s number h, decimal_length l line g))
answer_length s l (unsuitable class bad) (h, g) = rw eight_length (omega (arith, decimal_length s class h, decimal_length s bad g, decimal_length 0 0 (omega arith)))
answer_length s l (critical rule xs class n) h =
    rw eight_length (omega (arith, decimal_length s rule h.rule, four_classes s xs h.four h.classes, decimal_length s class h.class, decimal_length l n h.examined))
answer_length s l (accepted n) h = rw eight_length (omega (arith, decimal_length l n h))
answer_length s l (stopped n) h = rw eight_length (omega (arith, decimal_length l n h))

-- In a file's verdict a count or a line has as many digits as a number in a file may have, and any other number has two.
ranged_short : (v : Verdict) → Ranged v → Short 1 (most_digits - 1) v
unfolding Ranged SharingRanged ClosureRanged Short
ranged_short (malformed number line) r = refusal r
  where
    refusal : {number : ℕ} {line : Option ℕ} → Refusal number line → Short 1 (most_digits - 1) (malformed number line)
    refusal too_long = omega arith
    refusal (on_line l h m n) = (omega arith, omega arith)
ranged_short (unsuitable class bad) (h, g) = (omega arith, omega arith)
ranged_short (critical rule xs class n) r = record {
  rule = omega (arith, r.rule);
  four = omega (arith, r.variables);
  classes = λ x m. omega (arith, r.classes x m);
  class = omega (arith, r.class);
  examined = omega (arith, r.examined);
}
ranged_short (accepted n) h = omega arith
ranged_short (stopped n) h = omega arith

-- The longest answer to a file has at most 89 bytes: `verdict=critical` with a rule and five classes of two digits, and a count of as many digits as a budget.
pub longest_answer : (file : List ℕ) → length (answer_of file) ≤ 89
unfolding answer_of
longest_answer file = answer_length 1 (most_digits - 1) (verdict_of file) (ranged_short (verdict_of file) (verdict_ranged file))

-- It is under 128 bytes.
pub answer_short : (file : List ℕ) → length (answer_of file) < least_buffer
answer_short file = omega (arith, longest_answer file)
