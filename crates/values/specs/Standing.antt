-- Terms among a rule's 48 tokens, their values lane by lane, and which values are kept.
use Rattle.std.specs.Prelude.{◌≡◌, ◌⊎◌, List, [], ◌++◌, map, ℕ, ◌+◌, ◌*◌, ◌≤◌, ◌<◌, length, get_or, set, drop}
use Rattle.std.specs.declared.option.Option.{Option}
use Rattle.std.specs.declared.option.Option.TheVariants.{Some}
use Rattle.theory.specs.Term.{Term, Terms, var, node, none, ◌then◌}
use Rattle.theory.specs.Preorder.{Token, preorder, preorder_all, Ranked, RankedRow}
use Rattle.theory.specs.Rewriting.{Rule}
use Rattle.theory.specs.Automaton.{Transition}
use Rattle.tables.specs.Held.{token_of}
use Rattle.woven.specs.Woven.{woven_moves}
use Rattle.values.specs.Sets.{spanned}
use Rattle.values.specs.Lanes.{lane, sheet_of, given}

infixr 40 ◌beside◌
mutual
  -- Every variable of the term passes a test.
  pub data Each (P : ℕ → Type 0) : Term ℕ → Type 0 where
    one : {x : ℕ} → P x → Each P (var x)
    over : {f : ℕ} {ts : Terms ℕ} → EachRow P ts → Each P (node f ts)

  -- The same for each term of a row.
  pub data EachRow (P : ℕ → Type 0) : Terms ℕ → Type 0 where
    empty : EachRow P none
    ◌beside◌ : {t : Term ℕ} {ts : Terms ℕ} → Each P t → EachRow P ts → EachRow P (t then ts)

-- The variable whose token is `near`, if there is one, is not in the term.
abbrev pub Without : Option ℕ → Term ℕ → Type 0
Without near = Each (λ x. near ≡ Some (64 + x) → ⊥)

-- The tokens from a place on begin with those of the term t, whose symbols have their arities, and go on with `rest`.
pub record Spells (arities tokens : List ℕ) (at : ℕ) (t : Term ℕ) (rest : List Token) : Type 0 where
  pub ranked : Ranked arities t
  pub reads : map token_of (drop at tokens) ≡ preorder t ++ rest

-- The same for a row of n terms.
pub record SpellsRow (arities tokens : List ℕ) (at n : ℕ) (ts : Terms ℕ) (rest : List Token) : Type 0 where
  pub ranked : RankedRow arities ts n
  pub reads : map token_of (drop at tokens) ≡ preorder_all ts ++ rest

-- Some term over the four variables stands there, within the room that a rule has.
pub record Stands (arities tokens : List ℕ) (at : ℕ) : Type 0 where
  pub term : Term ℕ
  pub rest : List Token
  pub spells : Spells arities tokens at term rest
  pub room : at + length (preorder term) ≤ 48
  pub four : Each (λ x. x < 4) term

-- The rule's left side stands at the first token, and its right side at token 24; both are over the four variables.
pub record Spelled (arities tokens : List ℕ) (rule : Rule) : Type 0 where
  pub after_left : List Token
  pub after_right : List Token
  pub left : Spells arities tokens 0 rule.left after_left
  pub right : Spells arities tokens 24 rule.right after_right
  pub left_four : Each (λ x. x < 4) rule.left
  pub right_four : Each (λ x. x < 4) rule.right

-- The values of some subterms are kept: where `ends` has a number other than 0 at a place, the term there ends before that place, is without the variable `near`,
-- and its sheet has its value in each lane.
pub record Kept (Δ : List Transition) (arities tokens : List ℕ) (k : ℕ) (near : Option ℕ) (m : List (List ℕ)) (ends : List ℕ) : Type 0 where
  pub end : (p : ℕ) → p < 48 → 0 < get_or ends p 0 → (t : Term ℕ) (rest : List Token) → Spells arities tokens p t rest
      → get_or ends p 0 ≡ p + length (preorder t)
  pub without : (p : ℕ) → p < 48 → 0 < get_or ends p 0 → (t : Term ℕ) (rest : List Token) → Spells arities tokens p t rest → Without near t
  pub value : (p : ℕ) → p < 48 → 0 < get_or ends p 0 → (t : Term ℕ) (rest : List Token) → Spells arities tokens p t rest
      → (l : ℕ) → l < 512 → lane k m (sheet_of tokens p * k) l ≡ spanned Δ (given k m l) t

-- The places of a term and of its arguments, and the place after the term.
pub record Keepable (at a b c next : ℕ) : Type 0 where
  pub place : at < 48
  pub first : a < 48
  pub second : b < 48
  pub third : c < 48
  pub byte : next < 256

-- The term at `at` ends before `next`, and this is noted only where the terms at a, b and c are kept.
pub data Noted (ends : List ℕ) (at a b c next : ℕ) (after : List ℕ) : Type 0 where
  unchanged : after ≡ ends → Noted ends at a b c next after
  noted : 0 < get_or ends a 0 → 0 < get_or ends b 0 → 0 < get_or ends c 0 → after ≡ set ends at next → Noted ends at a b c next after

-- What valuing the term at a place relies on: a rule's tokens with a term at that place, room for all sheets, and what is kept.
pub record Valuable (arities words heads tokens : List ℕ) (near : Option ℕ) (k at : ℕ) (ends : List ℕ) (m : List (List ℕ)) : Type 0 where
  pub tokens_long : length tokens ≡ 48
  pub stands : Stands arities tokens at
  pub room : 52 * k ≤ length m
  pub kept : Kept (woven_moves arities words (get_or heads 64 0)) arities tokens k near m ends

-- The term at a place is valued: its sheet has its value in each lane, by the sets that the variables have, `next` is the place after it,
-- and no row of another term's sheet or of a variable's is changed.
pub record Valued (Δ : List Transition) (arities tokens : List ℕ) (k : ℕ) (m : List (List ℕ)) (at : ℕ) (after : List (List ℕ)) (next : ℕ) : Type 0 where
  pub value : (t : Term ℕ) (rest : List Token) → Spells arities tokens at t rest → (l : ℕ) → l < 512
      → lane k after (sheet_of tokens at * k) l ≡ spanned Δ (given k m l) t
  pub rest : (t : Term ℕ) (rest : List Token) → Spells arities tokens at t rest → map token_of (drop next tokens) ≡ rest
  pub end : (t : Term ℕ) (rest : List Token) → Spells arities tokens at t rest → next ≡ at + length (preorder t)
  pub forward : at < next
  pub long : length after ≡ length m
  pub outside : (i : ℕ) → (i < at * k) ⊎ (next * k ≤ i) → get_or after i [] ≡ get_or m i []
