-- What the code found of a side's line, told in paper's words: one law for both sides, and what each tests besides.
use mathlib.Core.Path.{◌≡◌, refl, sym, ap, ◌∙◌}
use mathlib.Core.Bool.{Bool, true, false, ◌&&◌, not}
use mathlib.Core.List.{List, [], ◌∷◌, map}
use Prim.Native.Nat.{ℕ, ◌≤◌, ◌<◌}
use Prim.Native.String.{String}
use native.Mathlib.Omega.{arith}
use borrow.Author.Tests.{le-leb, lt-leb}
use lib.Dec.{eqb, leb}
use lib.ListN.{length, drop, get_or, length-map}
use lib.Seq.{length-take-le}
use Rattle.std.specs.Prelude.{Option, Some, None, Result, Ok, Err}
use Rattle.std.specs.List.{list_all}
use Rattle.theory.specs.Lists.{count_from, any}
use Rattle.theory.specs.Term.{Term, variables}
use Rattle.theory.specs.Preorder.{Token, preorder}
use Rattle.paper.specs.Checked.{Checked, says, ◌>>◌, ◌unless◌}
use Rattle.paper.specs.Fields.{all}
use Rattle.paper.specs.Format.{line_of}
use Rattle.paper.specs.Sides.{permitted, term, term_of, same, bare, left_side, right_side}
use Rattle.paper.proofs.Preorder.{preorder_exact}
use Rattle.tables.specs.Held.{byte_of, side_of, spoken}
use Rattle.verdicts.specs.declared.refusals.Refusal.{Refusal}
use Rattle.verdicts.specs.declared.refusals.Reason.TheVariants.{NoTerm, LeftVariables, UnknownVariable}
use Rattle.verdicts.specs.Refused.{number}
use Rattle.fields.specs.declared.cursor.Cursor.{Cursor}
use Rattle.fields.specs.declared.lists.Items.{Items}
use Rattle.fields.specs.declared.rows.Kind.TheVariants.{Left, Right}
use Rattle.fields.specs.Line.{refuse}
use Rattle.fields.specs.Padded.{padded}
use Rattle.fields.specs.Said.{said_by, Whole, Answer, said_items, WholeList}
use Rattle.fields.proofs.Whole.{padded_length}
use Rattle.sides.specs.declared.Side.{Side}
use Rattle.sides.specs.Tokens.{meant, open_terms, is_one, lined, known, WholeTokens, term_in, side_term, TermLine, RightSide, LeftLine, RightLine}
use Rattle.sides.proofs.Further.{further, line_further, test_fails, test_passes, gave_it, refused_it, gives, refuses}
use Rattle.sides.proofs.TokenReadings.{as_bytes, line_tokens, tokens_listed, bytes_refused, bytes_gave}
use Rattle.sides.proofs.SideLaws.{one_term, not_term, tokens_back, bare_first, in_order, out_of_order, right_known}

padded_first : (xs : List ℕ) → get_or (padded 64 xs) 0 0 ≡ get_or xs 0 0
unfolding padded
padded_first [] = refl
padded_first (x ∷ xs) = refl

meant_is : (ar : List ℕ) → length ar ≤ 64 → (cs : List ℕ) (ts : List Token) (u : Term ℕ) → cs ≡ map byte_of ts → all ts (permitted ar) ≡ true
    → term_of ar ts ≡ says u → meant ar cs ≡ u
unfolding meant spoken
meant_is ar most cs ts u e k h = rw (e, tokens_back ar most ts k, h)

-- The line of one term: its tokens, as bytes, are what the line of entries answers.
module _ (file ar : List ℕ) (most : length ar ≤ 64) (key : String) (c : Cursor) where
  abbrev pub Bytes : Result (Items × Cursor) Refusal → Type 0
  Bytes = Answer said_items (WholeList 67) file c.line (as_bytes ar key c.line (drop c.at file))

  abbrev pub Told : Result (Items × Cursor) Refusal → Type 0
  Told = Answer (term_in ar) (λ it. WholeTokens ar it.items it.count) file c.line (line_of key (term ar) c.line (drop c.at file))

  pub term_refused : {e : Refusal} → Bytes (Err e) → Told (Err e)
  unfolding further
  term_refused {e} a =
      let (s, l) = refused_it a in
      refuses e (line_tokens ar key c.line (drop c.at file) ∙ ap (further (term_of ar) c.line) (bytes_refused ar key c.line (drop c.at file) _ _ s)) l

  module _ {it : Items} {d : Cursor} (a : Bytes (Ok (it, d))) where
    pub few_items : it.count ≤ 64
    few_items = (gave_it a).1.few

    pub not_one : is_one (open_terms ar (said_items it)) ≡ false → Told (Err (refuse c.line NoTerm))
    unfolding further number
    not_one o =
        let (ts, s, b) = bytes_gave ar key c.line (drop c.at file) _ _ _ (gave_it a).0 in
        let k = tokens_listed ar key c.line (drop c.at file) ts _ _ s in
        let j = not_term ar most ts k.0 (ap (λ cs. is_one (open_terms ar cs)) b ∙ o) in
        refuses (refuse c.line NoTerm) (line_tokens ar key c.line (drop c.at file) ∙ rw (s, further) (rw j)) refl

    pub one : is_one (open_terms ar (said_items it)) ≡ true → Told (Ok (it, d))
    unfolding further side_of
    one o =
        let (read, w, placed) = gave_it a in
        let (ts, s, b) = bytes_gave ar key c.line (drop c.at file) _ _ _ read in
        let k = tokens_listed ar key c.line (drop c.at file) ts _ _ s in
        let (u, j) = one_term ar most ts k.0 (ap (λ cs. is_one (open_terms ar cs)) b ∙ o) in
        let is : term_in ar it ≡ u = meant_is ar most _ ts u (sym b) k.0 j in
        let order : preorder (term_in ar it) ≡ ts = ap preorder is ∙ ((preorder_exact ar ts u).0 j).0 in
        let room : it.count ≤ length it.items = omega (arith, w.few, ap length w.behind, padded_length 64 (said_items it)) in
        let many : it.count ≡ length ts = omega (arith, length-take-le it.count it.items room, ap length b, length-map ts byte_of) in
        gives it d (line_tokens ar key c.line (drop c.at file) ∙ rw (s, further) (rw (j, is)))
        (record {
          are = sym b ∙ ap (map byte_of) (sym order);
          listed = ap (λ us. all us (permitted ar)) order ∙ k.0;
          many = many ∙ ap length (sym order);
          few = omega (arith, k.1);
          low = λ i. omega (arith, w.low i);
          behind = w.behind;
        })
        placed

-- A left side.
left_test : Term ℕ → Bool
left_test t = not (bare t) && same (variables t) (count_from 0 (length (variables t)))

abbrev left_judge : Term ℕ → Checked (Term ℕ)
left_judge t = 9 unless left_test t >> says t

module _ (file ar : List ℕ) (most : length ar ≤ 64) (c : Cursor) where
  left_more : line_of "l" (left_side ar) c.line (drop c.at file) ≡ further left_judge c.line (line_of "l" (term ar) c.line (drop c.at file))
  unfolding left_side left_test
  left_more = line_further "l" (term ar) left_judge c.line (drop c.at file)

  pub left_refused : {e : Refusal} → TermLine file ar Left c (Err e) → LeftLine file ar c (Err e)
  unfolding further
  left_refused {e} l = let (s, p) = refused_it l in refuses e (left_more ∙ ap (further left_judge c.line) s) p

  module _ {it : Items} {d : Cursor} (l : TermLine file ar Left c (Ok (it, d))) where
    whole : WholeTokens ar it.items it.count
    whole = (gave_it l).1

    starts : bare (term_in ar it) ≡ leb 64 (get_or it.items 0 0)
    starts = bare_first ar most _ whole.listed ∙ ap (leb 64) (ap (λ (xs : List ℕ). get_or xs 0 0) (sym whole.are) ∙ sym (padded_first _) ∙ ap (λ (xs : List ℕ). get_or xs 0 0) (sym whole.behind))

    spelt : (o : Option ℕ) → lined 0 (said_items it) ≡ o → lined 0 (side_of (term_in ar it)) ≡ o
    spelt o w = ap (lined 0) (sym whole.are) ∙ w

    left_bad : left_test (term_in ar it) ≡ false → LeftLine file ar c (Err (refuse c.line LeftVariables))
    unfolding number
    left_bad e = refuses _ (left_more ∙ ap (further left_judge c.line) (gave_it l).0 ∙ test_fails 9 left_test c.line _ _ _ e) refl

    pub left_bare : 64 ≤ get_or it.items 0 0 → LeftLine file ar c (Err (refuse c.line LeftVariables))
    unfolding left_test
    left_bare b = left_bad (rw (starts, le-leb 64 (get_or it.items 0 0) b))

    pub left_broken : get_or it.items 0 0 < 64 → lined 0 (said_items it) ≡ None → LeftLine file ar c (Err (refuse c.line LeftVariables))
    unfolding left_test
    left_broken b w = left_bad (rw (starts, lt-leb 64 (get_or it.items 0 0) b, out_of_order ar most _ whole.listed (spelt _ w)))

    pub left_good : get_or it.items 0 0 < 64 → (v : ℕ) → lined 0 (said_items it) ≡ Some v → LeftLine file ar c (Ok (record { tokens = it.items; count = it.count; variables = v }, d))
    unfolding left_test
    left_good b v w =
        let (q, n, m) = in_order ar most _ whole.listed v (spelt _ w) in
        gives _ d
        (left_more ∙ ap (further left_judge c.line) (gave_it l).0 ∙ test_passes 9 left_test c.line _ _ _ (rw (starts, lt-leb 64 (get_or it.items 0 0) b, q)))
        (record { counted = n; few = m; whole = whole }) (gave_it l).2

-- A right side, behind any left side of v variables.
right_test : Term ℕ → Term ℕ → Bool
right_test l t = all (variables t) (λ x. any (variables l) (eqb x))

abbrev right_judge : Term ℕ → Term ℕ → Checked (Term ℕ)
right_judge l t = 10 unless right_test l t >> says t

module _ (file ar : List ℕ) (most : length ar ≤ 64) (c : Cursor) (v : ℕ) where
  -- the answer behind the left side u
  abbrev Behind : Term ℕ → Result (Side × Cursor) Refusal → Type 0
  Behind u = Answer (side_term ar) (RightSide ar v) file c.line (line_of "r" (right_side ar u) c.line (drop c.at file))

  right_more : (u : Term ℕ) → line_of "r" (right_side ar u) c.line (drop c.at file) ≡ further (right_judge u) c.line (line_of "r" (term ar) c.line (drop c.at file))
  unfolding right_side right_test
  right_more u = line_further "r" (term ar) (right_judge u) c.line (drop c.at file)

  right_no : (e : Refusal) → e.line ≡ Some c.line → ((u : Term ℕ) → variables u ≡ count_from 0 v → Behind u (Err e)) → RightLine file ar c v (Err e)
  unfolding Whole
  right_no e p h = record { said = λ u g. (h u g).said; whole = p }

  pub right_refused : {e : Refusal} → TermLine file ar Right c (Err e) → RightLine file ar c v (Err e)
  unfolding further
  right_refused {e} l = let (s, p) = refused_it l in right_no e p (λ u g. refuses e (right_more u ∙ ap (further (right_judge u) c.line) s) p)

  module _ {it : Items} {d : Cursor} (l : TermLine file ar Right c (Ok (it, d))) where
    held : WholeTokens ar it.items it.count
    held = (gave_it l).1

    test_is : (u : Term ℕ) → variables u ≡ count_from 0 v → right_test u (term_in ar it) ≡ list_all (known v) (said_items it)
    unfolding right_test
    test_is u g = right_known ar most _ held.listed u v g ∙ ap (list_all (known v)) (sym held.are)

    pub right_strange : list_all (known v) (said_items it) ≡ false → RightLine file ar c v (Err (refuse c.line UnknownVariable))
    unfolding number
    right_strange w =
        right_no (refuse c.line UnknownVariable) refl
        (λ u g. refuses _ (right_more u ∙ ap (further (right_judge u) c.line) (gave_it l).0 ∙ test_fails 10 (right_test u) c.line _ _ _ (test_is u g ∙ w)) refl)

    pub right_good : list_all (known v) (said_items it) ≡ true → RightLine file ar c v (Ok (record { tokens = it.items; count = it.count; variables = v }, d))
    unfolding Whole said_by
    right_good w =
        record {
          said = λ u g. sym (right_more u ∙ ap (further (right_judge u) c.line) (gave_it l).0 ∙ test_passes 10 (right_test u) c.line _ _ _ (test_is u g ∙ w));
          whole = (record { carried = refl; whole = held }, (gave_it l).2);
        }
