-- A line of tokens as the byte machine reads it is paper's: refused by 4, 5 or 6, or its tokens, each as its byte.
use mathlib.Core.Path.{◌≡◌, refl, sym, ap, subst, ◌∙◌}
use mathlib.Core.Bool.{true, false, not, and-eq-true_iff}
use mathlib.Core.Logic.{inl, inr}
use mathlib.Core.List.{List, [], ◌∷◌, map}
use Prim.Native.Nat.{ℕ, suc, ◌+◌, ◌≤◌}
use native.Mathlib.Numerals.{add-one}
use native.Mathlib.Omega.{arith}
use borrow.Author.Tests.{leb-true, leb-false, lt-ltb, le-ltb, ltb-true}
use lib.Dec.{leb, ltb}
use lib.ListN.{length, drop, length-map}
use Rattle.std.specs.Prelude.{Bool, Result, Ok, Err}
use Rattle.theory.specs.Preorder.{Token, symbol, variable}
use Rattle.paper.specs.Checked.{Checked, fault, says, ◌>>=◌, ◌>>◌, ◌unless◌}
use Rattle.paper.specs.Fields.{all, each, entries, token}
use Rattle.paper.specs.Format.{at_line}
use Rattle.paper.specs.Sides.{permitted}
use Rattle.paper.proofs.Smallest.{decided}
use Rattle.tables.specs.Held.{byte_of}
use Rattle.verdicts.specs.declared.refusals.Refusal.{Refusal}
use Rattle.verdicts.specs.declared.refusals.Reason.TheVariants.{WrongCount}
use Rattle.verdicts.specs.Refused.{number}
use Rattle.fields.specs.declared.cursor.Cursor.{Cursor}
use Rattle.fields.specs.declared.cursor.Sort.TheVariants.{Tokens}
use Rattle.fields.specs.declared.lists.Items.{Items}
use Rattle.fields.specs.declared.rows.Kind.{Kind}
use Rattle.fields.specs.Value.{code, code_of, sort_kind}
use Rattle.fields.specs.Line.{open_at, key_of, line_row}
use Rattle.fields.specs.Listed.{exceeds, ascending}
use Rattle.fields.specs.Lines.{Line, entry_line, checked, few_check, items_of}
use Rattle.fields.specs.Padded.{padded}
use Rattle.fields.specs.Said.{Placed, said_by, Whole, Answer, said_items, WholeList}
use Rattle.fields.proofs.Steps.{bind_same, bind_bind}
use Rattle.fields.proofs.Digits.{read_on, read_token}
use Rattle.fields.proofs.Readings.{keyed_reads, keyed_same}
use Rattle.fields.proofs.Bridge.{said_line, values, values_of, in_range, ranged, checking, checked_said}
use Rattle.fields.proofs.Judges.{none_beyond, check_passes, check_fails}
use Rattle.fields.proofs.LinesLaws.{got_line, few_ok, few_not}
use Rattle.fields.proofs.MergeLaws.{take_items}
use Rattle.fields.proofs.TellLaws.{bad_line, tell_checked, tell_few, good_line, all_within, tokens_most}
use Rattle.fields.proofs.Whole.{laid_padded, padded_low, line_placed}
use Rattle.sides.specs.Tokens.{TokenKind}
use Rattle.sides.proofs.TokenReadings.{tokens_in, in_bytes, as_bytes}

one_more : (j : Checked Token) (k : Checked (List Token))
    → ((j >>= (λ t. says (code_of t))) >>= (λ w. (k >>= (λ ts. says (map code_of ts))) >>= (λ ws. says (w ∷ ws)))) ≡ ((j >>= (λ t. k >>= (λ ts. says (t ∷ ts)))) >>= (λ ts. says (map code_of ts)))
unfolding ◌>>=◌
one_more (fault n) k = refl
one_more (says t) (fault n) = refl
one_more (says t) (says ts) = refl

each_token : (es : List (List ℕ)) → each (read_on 1 0 0) es ≡ (each token es >>= (λ ts. says (map code_of ts)))
unfolding each
each_token [] = unfold ◌>>=◌ in refl
each_token (e ∷ es) = rw (read_token e, each_token es) (one_more (token e) (each token es))

module _ (ar : List ℕ) (most : length ar ≤ 64) where
  -- 5: a symbol not listed, or a variable above 3.
  within : ℕ → Bool
  within c = not (exceeds (Tokens (length ar)) true c)

  known_code : (t : Token) → within (code_of t) ≡ permitted ar t
  unfolding within code_of code permitted exceeds
  known_code (symbol f) = elim (decided (ltb f (length ar))) [
    | inl p ↦ rw (lt-ltb f 64 (omega (arith, ltb-true f (length ar) p)), code) (rw p)
    | inr p ↦ elim (decided (ltb f 64)) [
      | inl q ↦ rw (q, code) (rw (p, q))
      | inr q ↦ rw (q, code) (rw (p, le-ltb 255 (length ar) (omega arith)))
    ]
  ]
  known_code (variable x) = elim (decided (leb x 3)) [
    | inl p ↦
        let l = leb-true x 3 p in
        rw (p, code) (rw (le-ltb (64 + x) (length ar) (omega arith), le-ltb (64 + x) 64 (omega arith), le-ltb 67 (64 + x) (omega arith)))
    | inr p ↦ rw (p, code) (rw (le-ltb 255 (length ar) (omega arith)))
  ]

  all_known : (ts : List Token) → all (map code_of ts) within ≡ all ts (permitted ar)
  unfolding all
  all_known [] = refl
  all_known (t ∷ ts) = rw (known_code t, all_known ts)

  same_code : (t : Token) → permitted ar t ≡ true → code_of t ≡ byte_of t
  unfolding code_of code byte_of permitted
  same_code (symbol f) k = rw (lt-ltb f 64 (omega (arith, ltb-true f (length ar) k)), code)
  same_code (variable x) k = rw (k, code)

  same_codes : (ts : List Token) → all ts (permitted ar) ≡ true → map code_of ts ≡ map byte_of ts
  unfolding all
  same_codes [] k = refl
  same_codes (t ∷ ts) k =
      let (a, b) = (and-eq-true_iff (permitted ar t) (all ts (permitted ar))).0 k in
      rw (same_code t a, same_codes ts b)

  token_test : (ts : List Token) → (in_range (Tokens (length ar)) (map code_of ts) >>= checking (few_check 24))
      ≡ ((5 unless all ts (permitted ar) >> (6 unless leb (length ts) 24 >> says ts)) >>= in_bytes)
  unfolding in_range number ◌unless◌ ◌>>◌ ◌>>=◌
  token_test ts = rw (← none_beyond (Tokens (length ar)) within (λ b c. unfold within exceeds in refl) (map code_of ts), all_known ts) (elim (decided (all ts (permitted ar))) [
    | inr p ↦ rw p
    | inl p ↦ let m = length-map ts code_of in elim (decided (leb (length ts) 24)) [
      | inl q ↦ rw (p, q) (check_passes (few_check 24) (map code_of ts) (few_ok 24 _ (omega (arith, leb-true (length ts) 24 q))) ∙ ap says (same_codes ts p))
      | inr q ↦ rw (p, q) (check_fails (few_check 24) (map code_of ts) WrongCount (few_not 24 _ (omega (arith, leb-false (length ts) 24 q))))
    ]
  ])

  tokens_judge : (value : List ℕ) → (ranged (Tokens (length ar)) false value >>= checking (few_check 24)) ≡ (tokens_in ar value >>= in_bytes)
  unfolding ranged values_of values tokens_in sort_kind ◌>>=◌
  tokens_judge value =
      rw (each_token (entries value))
      (bind_bind (each token (entries value) >>= (λ ts. says (map code_of ts))) (in_range (Tokens (length ar))) (checking (few_check 24))
      ∙ bind_bind (each token (entries value)) (λ ts. says (map code_of ts)) (λ ns. in_range (Tokens (length ar)) ns >>= checking (few_check 24))
      ∙ bind_same (each token (entries value)) _ _ token_test
      ∙ sym (bind_bind (each token (entries value)) (λ ts. 5 unless all ts (permitted ar) >> (6 unless leb (length ts) 24 >> says ts)) in_bytes))

-- What is answered for the line of tokens.
module _ (file ar : List ℕ) (kind : Kind) (c : Cursor) (most : length ar ≤ 64) (k : TokenKind kind) (place : Placed file c) where
  abbrev line : Line
  line = checked (few_check (line_row kind).most) (entry_line (Tokens (length ar)) (line_row kind) file c.at)

  reading : as_bytes ar (line_row kind).key c.line (drop c.at file) ≡ at_line c.line (said_line file line)
  reading =
      sym (ap (at_line c.line)
      (checked_said file (Tokens (length ar)) (line_row kind) (few_check (line_row kind).most) c.at
      ∙ keyed_same (key_of (line_row kind)) _ _ (λ value. rw (k.0, k.1) (tokens_judge ar most value)) (drop c.at file))
      ∙ keyed_reads (line_row kind) _ c.line (drop c.at file))

  pub tokens_read : (r : Result (Items × Cursor) Refusal) → r ≡ items_of c.line line
      → Answer said_items (WholeList 67) file c.line (as_bytes ar (line_row kind).key c.line (drop c.at file)) r
  unfolding said_by Whole said_line at_line number
  tokens_read (Ok (it, d)) e =
      let g = got_line c.line line it d (sym e) in
      let (w, z) = tell_checked (few_check (line_row kind).most) _ g.ns d.at g.is in
      let small : it.count ≤ 64 = omega (arith, g.count, tell_few (line_row kind).most g.ns z, k.1) in
      let taken : said_items it ≡ g.ns = take_items g.ns it.items it.count g.count small g.items in
      let next : suc c.line ≡ d.line = sym (ap (λ (x : Cursor). x.line) g.next ∙ add-one c.line) in
      let bounded = all_within (Tokens (length ar)) 67 (tokens_most (length ar) most) g.ns
      (good_line (Tokens (length ar)) (line_row kind).empty file (open_at (key_of (line_row kind)) file c.at) g.ns d.at w).within in
      record {
        said = sym (reading ∙ rw (g.is, next, taken) refl);
        whole = (
          record {
            behind = g.items ∙ laid_padded 64 g.ns ∙ ap (padded 64) (sym taken);
            low = λ i. rw (g.items, laid_padded 64 g.ns) (padded_low 67 64 g.ns bounded i);
            few = small;
            order = g.order ∙ ap ascending (sym taken);
          },
          subst (λ x. Placed file x) (sym g.next) (line_placed (Tokens (length ar)) (line_row kind) file c place g.ns d.at w),
        );
      }
  tokens_read (Err x) e =
      let (b, f) = bad_line c.line line x (sym e) in
      record { said = sym (reading ∙ rw b refl); whole = ap (λ (y : Refusal). y.line) f }
