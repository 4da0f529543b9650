-- Why a line is refused: the scope's table of refusals from 3 to 11, clause by clause, with no order among them. What follows the last line stands in Layout.
use Rattle.std.specs.Prelude.{◌≡◌, ◌⊎◌, ℕ, suc, ◌+◌, ◌^◌, ◌≤◌, ◌<◌, length, get_or}
use mathlib.Core.List.{List, [], ◌∷◌, ◌++◌, Memᴰ}
use Rattle.std.proofs.Math.Option.{Option, none, some}
use Prim.Native.String.{String}
use Rattle.theory.specs.Lists.{count_from}
use Rattle.theory.specs.Term.{Term, var, variables}
use Rattle.theory.specs.Preorder.{Token, symbol, variable, preorder, Ranked}
use Rattle.paper.specs.Bytes.{LF}
use Rattle.paper.specs.Limits.{most_symbols, most_arity, last_state, most_tokens, last_variable, most_digits}
use Rattle.paper.specs.Certificate.{Kind, row}
use Rattle.paper.specs.Answer.{decimals, line_with}
use Rattle.paper.specs.Spelling.{tokens_text}

-- What a line should hold, with what earlier lines say of it. A side is a left side, or the right side beside a left one.
pub data Expected : Type 0 where
  number_line : Kind → Expected
  arity_line : Expected
  final_line : (states : ℕ) → Expected
  transition_line : (arities : List ℕ) → (states : ℕ) → Expected
  side_line : (arities : List ℕ) → (left : Option (Term ℕ)) → Expected
  merge_line : (states : ℕ) → Expected

-- Of a line's value, the bytes between its `=` and its LF.
module _ (value : List ℕ) where
  -- It is these numbers of at most 8 digits, as they are written, parted by commas.
  pub record Numbers (ns : List ℕ) : Type 0 where
    pub text : decimals ns ≡ value
    pub short : (n : ℕ) → Memᴰ n ns → n < 10 ^ most_digits

  -- It is these tokens with such numbers.
  pub record Tokens (ts : List Token) : Type 0 where
    pub text : tokens_text ts ≡ value
    pub short_symbols : (f : ℕ) → Memᴰ (symbol f) ts → f < 10 ^ most_digits
    pub short_variables : (x : ℕ) → Memᴰ (variable x) ts → x < 10 ^ most_digits

  -- It is the tokens of the term t, in which each symbol has as many subterms as its arity says.
  pub record Writes (arities : List ℕ) (t : Term ℕ) : Type 0 where
    pub tokens : Tokens (preorder t)
    pub ranked : Ranked arities t

  -- There is a reason to refuse it by a number.
  pub data Reason : Expected → ℕ → Type 0 where
    -- 4: the value is not numbers (or tokens) and commas as above; an empty value elsewhere than in `final`, `badfinal`; a comma where one number stands.
    no_number : {kind : Kind} → ((n : ℕ) → Numbers (n ∷ []) → ⊥) → Reason (number_line kind) 4
    no_arities : ((n : ℕ) (ns : List ℕ) → Numbers (n ∷ ns) → ⊥) → Reason arity_line 4
    no_states : {states : ℕ} → ((qs : List ℕ) → Numbers qs → ⊥) → Reason (final_line states) 4
    no_row : {arities : List ℕ} {states : ℕ} → ((n : ℕ) (ns : List ℕ) → Numbers (n ∷ ns) → ⊥) → Reason (transition_line arities states) 4
    no_tokens : {arities : List ℕ} {left : Option (Term ℕ)} → ((t : Token) (ts : List Token) → Tokens (t ∷ ts) → ⊥) → Reason (side_line arities left) 4
    no_classes : {states : ℕ} → ((n : ℕ) (ns : List ℕ) → Numbers (n ∷ ns) → ⊥) → Reason (merge_line states) 4
    -- 5: a number out of its range in the table of lines, counts included;
    out_of_row : {kind : Kind} {n : ℕ} {ns : List ℕ} →
        Numbers ns → Memᴰ n ns → (n < (row kind).least) ⊎ ((row kind).greatest < n) → Reason (number_line kind) 5
    large_arity : {a : ℕ} {ns : List ℕ} → Numbers ns → Memᴰ a ns → most_arity < a → Reason arity_line 5
    large_final : {states q : ℕ} {qs : List ℕ} → Numbers qs → Memᴰ q qs → last_state < q → Reason (final_line states) 5
    -- a symbol not listed,
    unlisted : {arities : List ℕ} {states f : ℕ} {qs : List ℕ} → Numbers (f ∷ qs) → length arities ≤ f → Reason (transition_line arities states) 5
    unlisted_token : {arities : List ℕ} {left : Option (Term ℕ)} {f : ℕ} {ts : List Token} →
        Tokens ts → Memᴰ (symbol f) ts → length arities ≤ f → Reason (side_line arities left) 5
    -- a state not below its automaton's count (every entry after a transition's first is taken as a state),
    no_state : {states q : ℕ} {qs : List ℕ} → Numbers qs → Memᴰ q qs → states ≤ q → Reason (final_line states) 5
    no_state_in : {arities : List ℕ} {states f q : ℕ} {qs : List ℕ} → Numbers (f ∷ qs) → Memᴰ q qs → states ≤ q → Reason (transition_line arities states) 5
    -- a variable above 3, a `merge` entry above 31.
    large_variable : {arities : List ℕ} {left : Option (Term ℕ)} {x : ℕ} {ts : List Token} →
        Tokens ts → Memᴰ (variable x) ts → last_variable < x → Reason (side_line arities left) 5
    large_class : {states c : ℕ} {cs : List ℕ} → Numbers cs → Memᴰ c cs → last_state < c → Reason (merge_line states) 5
    -- 6: wrong number of entries: more than 64 arities, a transition without arity + 2 entries, over 24 tokens, `merge` not one per state.
    many_arities : {ns : List ℕ} → Numbers ns → most_symbols < length ns → Reason arity_line 6
    miscounted : {arities : List ℕ} {states f : ℕ} {qs : List ℕ} →
        Numbers (f ∷ qs) → (length (f ∷ qs) ≡ get_or arities f 0 + 2 → ⊥) → Reason (transition_line arities states) 6
    many_tokens : {arities : List ℕ} {left : Option (Term ℕ)} {ts : List Token} → Tokens ts → most_tokens < length ts → Reason (side_line arities left) 6
    not_each : {states : ℕ} {cs : List ℕ} → Numbers cs → (length cs ≡ states → ⊥) → Reason (merge_line states) 6
    -- 7: `final` or `badfinal` not strictly ascending: q stands behind p and is not above it.
    falling : {states p q : ℕ} (before after : List ℕ) → Numbers (before ++ (p ∷ q ∷ after)) → q ≤ p → Reason (final_line states) 7
    -- 8: tokens that end before the term does, or run on after it: they are no term's.
    no_term : {arities : List ℕ} {left : Option (Term ℕ)} {ts : List Token} →
        Tokens ts → ((t : Term ℕ) → Writes arities t → ⊥) → Reason (side_line arities left) 8
    -- 9: left side a bare variable, or its variables not `x0`, `x1`, .. once each.
    bare_left : {arities : List ℕ} {x : ℕ} → Writes arities (var x) → Reason (side_line arities none) 9
    out_of_turn : {arities : List ℕ} {l : Term ℕ} → Writes arities l → (variables l ≡ count_from 0 (length (variables l)) → ⊥) → Reason (side_line arities none) 9
    -- 10: right side uses a variable the left lacks.
    lacking : {arities : List ℕ} {l r : Term ℕ} {x : ℕ} →
        Writes arities r → Memᴰ x (variables r) → (Memᴰ x (variables l) → ⊥) → Reason (side_line arities (some l)) 10
    -- 11: `merge` not numbered as above: an entry c that is not 0 is more than one above each entry before it.
    skipping : {states c : ℕ} (before after : List ℕ) →
        Numbers (before ++ (c ∷ after)) → 0 < c → ((b : ℕ) → Memᴰ b before → suc b < c) → Reason (merge_line states) 11

-- The bytes begin with the line `key=value`, ended by the first LF behind its key, and go on with the rest.
pub record Opens (key : String) (value rest bs : List ℕ) : Type 0 where
  pub whole : line_with key value ++ rest ≡ bs
  pub no_LF : Memᴰ LF value → ⊥

-- There is a reason to refuse by a number the bytes that begin where the line is expected.
pub data Faulty (key : String) (expected : Expected) (bs : List ℕ) : ℕ → Type 0 where
  -- 3: the expected line is missing, does not begin with its key and `=`, or lacks its LF.
  missing : ((value rest : List ℕ) → Opens key value rest bs → ⊥) → Faulty key expected bs 3
  -- 4 to 11: its value has one.
  because : {value rest : List ℕ} {n : ℕ} → Opens key value rest bs → Reason value expected n → Faulty key expected bs n
