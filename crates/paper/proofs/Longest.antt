-- The longest file of a well-formed certificate is far below the limit of a file.
use mathlib.Core.Path.{◌≡◌, refl}
use mathlib.Core.Bool.{true, and-eq-true_iff}
use mathlib.Core.List.{List, [], ◌∷◌, Memᴰ}
use Prim.Native.Nat.{ℕ, zero, suc, ◌+◌, ◌*◌, ◌-◌, ◌^◌, ◌≤◌, ◌<◌}
use Prim.Native.String.{String}
use native.Mathlib.Omega.{arith}
use lib.Dec.{leb}
use lib.ListN.{length, get_or, length-append}
use borrow.Author.Tests.{leb-true, ltb-true}
use Rattle.theory.specs.Term.{Term}
use Rattle.theory.specs.Rewriting.{Rule}
use Rattle.theory.specs.Preorder.{Token, symbol, variable, preorder}
use Rattle.theory.specs.Automaton.{Automaton, Transition}
use Rattle.theory.proofs.Nth.{all_cons}
use Rattle.paper.specs.Bytes.{bytes}
use Rattle.paper.specs.Limits.{most_symbols, most_arity, most_states, most_transitions, most_tokens, last_variable, most_digits}
use Rattle.paper.specs.Certificate.{Certificate, Kind, Budget, Arities, States, Final, Trans, BadStates, BadFinal, BadTrans, Rules, Merge, row}
use Rattle.paper.specs.Tables.{ascending}
use Rattle.paper.specs.Sides.{permitted}
use Rattle.paper.specs.WellFormed.{GoodTransition, GoodAutomaton, GoodTerm, GoodRule, WellFormed}
use Rattle.paper.specs.Answer.{decimal, decimals, line_with}
use Rattle.paper.specs.Spelling.{token_text, tokens_text, text_of_all, fixed_text, transition_text, rule_text, file_of, transition_numbers}
use Rattle.paper.proofs.Words.{ascending_exact}
use Rattle.paper.proofs.Tokens.{all_mem, tokens_exact}
use Rattle.paper.proofs.Numbers.{decimal_length}
use Rattle.paper.proofs.Spelling.{commas_tokens, either_last}
use Rattle.paper.proofs.Lengths.{commas_length, text_of_all_length, decimals_length, line_length}

-- There are no more numbers from m on, each above the one before, than there are from m to n.
ascending_length : (n m : ℕ) (qs : List ℕ) → m ≤ n → ascending m qs ≡ true → ((q : ℕ) → Memᴰ q qs → q < n) → length qs + m ≤ n
unfolding ascending
ascending_length n m [] l e h = omega arith
ascending_length n m (q ∷ qs) l e h =
    let (low, rest) = (and-eq-true_iff (leb m q) (ascending (suc q) qs)).0 e in
    omega (arith, leb-true m q low, ascending_length n (suc q) qs (h q (Memᴰ.head refl)) rest (λ p i. h p (Memᴰ.tail i)))

entries_bound : (ns : List ℕ) (i b : ℕ) → ((n : ℕ) → Memᴰ n ns → n ≤ b) → get_or ns i 0 ≤ b
entries_bound [] i b h = omega arith
entries_bound (n ∷ ns) zero b h = h n (Memᴰ.head refl)
entries_bound (n ∷ ns) (suc i) b h = entries_bound ns i b (λ m j. h m (Memᴰ.tail j))

-- A line of one number below 10 ^ (k + 1), and a line of several.
number_line_length : (kind : Kind) (k n : ℕ) → n < 10 ^ suc k → length (fixed_text kind (decimal n)) ≤ length (bytes (row kind).key) + k + 3
unfolding fixed_text
number_line_length kind k n h = omega (arith, line_length (row kind).key (decimal n), decimal_length k n h)

list_line_length : (kind : Kind) (k : ℕ) (ns : List ℕ) → ((n : ℕ) → Memᴰ n ns → n < 10 ^ suc k)
    → length (fixed_text kind (decimals ns)) ≤ length (bytes (row kind).key) + (suc (suc k) * length ns - 1) + 2
unfolding fixed_text
list_line_length kind k ns h = omega (arith, line_length (row kind).key (decimals ns), decimals_length k ns h)

module _ (arities : List ℕ) (few : length arities ≤ most_symbols) (small : (a : ℕ) → Memᴰ a arities → a ≤ most_arity) where
  module _ (n : ℕ) (states : n ≤ most_states) (t : Transition) (g : GoodTransition arities n t) where
    entry_small : (m : ℕ) → Memᴰ m (transition_numbers t) → m < 10 ^ 2
    entry_small = all_cons (omega (arith, g.symbol)) (λ m i. omega (arith, either_last t.arguments t.target g.arguments g.target m i))

    -- A transition's line: at most arity + 2 numbers of two digits.
    transition_length : (key : String) → length (transition_text key t) ≤ length (bytes key) + 3 * (most_arity + 2) + 1
    unfolding transition_text
    transition_length key =
        omega (
          arith,
          line_length key (decimals (transition_numbers t)),
          decimals_length 1 (transition_numbers t) entry_small,
          length-append t.arguments (t.target ∷ []),
          g.count,
          entries_bound arities t.symbol most_arity small,
        )

  token_length : (t : Token) → permitted arities t ≡ true → length (token_text t) ≤ 2
  unfolding token_text permitted
  token_length (symbol f) h = decimal_length 1 f (omega (arith, ltb-true f (length arities) h))
  token_length (variable x) h = omega (arith, decimal_length 0 x (omega (arith, leb-true x last_variable h)))

  -- A side's line: at most 24 tokens of two bytes.
  side_length : (key : String) (t : Term ℕ) → GoodTerm arities t → length (line_with key (tokens_text (preorder t))) ≤ length (bytes key) + 3 * most_tokens + 1
  side_length key t g =
      let each = all_mem (permitted arities) (preorder t) ((tokens_exact arities t).1 (g.listed, g.low)) in
      let tokens : length (tokens_text (preorder t)) ≤ 3 * length (preorder t) - 1 =
      rw (← commas_tokens (preorder t)) (commas_length token_text 2 (preorder t) (λ u m. token_length u (each u m))) in
      omega (arith, line_length key (tokens_text (preorder t)), g.tokens)

  rule_length : (rule : Rule) → GoodRule arities rule → length (rule_text rule) ≤ 6 * most_tokens + 4
  unfolding rule_text bytes
  rule_length rule g =
      omega (
        arith,
        length-append (line_with "l" (tokens_text (preorder rule.left))) (line_with "r" (tokens_text (preorder rule.right))),
        side_length "l" rule.left g.left,
        side_length "r" rule.right g.right,
      )

  -- An automaton's lines: its states, its final states, its count of transitions, and the transitions.
  automaton_length : (states final count : Kind) (key : String) (A : Automaton) → length (bytes key) ≡ 1 → GoodAutomaton arities A
      → length (fixed_text states (decimal A.states)) + length (fixed_text final (decimals A.final))
      + length (fixed_text count (decimal (length A.transitions))) + length (text_of_all (transition_text key) A.transitions)
      ≤ length (bytes (row states).key) + length (bytes (row final).key) + length (bytes (row count).key) + 3 * most_states + 10
      + (3 * (most_arity + 2) + 2) * most_transitions
  automaton_length states final count key A one g =
      let each = text_of_all_length (transition_text key) (3 * (most_arity + 2) + 2) A.transitions (λ t m. omega (arith, transition_length A.states g.states_bound t (g.transitions t m) key)) in
      let finals = ascending_length A.states 0 A.final (omega arith) ((ascending_exact A.final).1 g.final_ascending) g.final in
      omega (
        arith,
        number_line_length states 1 A.states (omega (arith, g.states_bound)),
        list_line_length final 1 A.final (λ q m. omega (arith, g.final q m, g.states_bound)),
        number_line_length count 2 (length A.transitions) (omega (arith, g.transitions_bound)),
        g.states_bound,
        g.transitions_bound,
      )

-- The longest file has at most 9,604 bytes.
pub longest_file : (c : Certificate) → WellFormed c → length (file_of c) ≤ 9_604
unfolding file_of row bytes
longest_file c w =
    let initial = automaton_length c.arities w.most_arities w.arities States Final Trans "t" c.A refl w.A in
    let bad = automaton_length c.arities w.most_arities w.arities BadStates BadFinal BadTrans "u" c.B refl w.B in
    let rules = text_of_all_length rule_text (6 * most_tokens + 4) c.rules (λ rule m. rule_length c.arities w.most_arities w.arities rule (w.rules rule m)) in
    let budget = number_line_length Budget (most_digits - 1) c.budget (omega (arith, w.budget)) in
    let arities = list_line_length Arities 0 c.arities (λ a m. omega (arith, w.arities a m)) in
    let rulecount = number_line_length Rules 1 (length c.rules) (omega (arith, w.rules_bound)) in
    let merge = list_line_length Merge 1 c.merge (λ q m. omega (arith, w.merge q m)) in
    simp length-append (omega (arith, w.most_arities, w.rules_bound, w.merge_count, w.A.states_bound))
