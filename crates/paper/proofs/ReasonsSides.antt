-- Each line of a term is refused by the smallest number that has a reason.
use mathlib.Core.Path.{◌≡◌, refl, sym, ap, ◌∙◌}
use mathlib.Core.Logic.{◌⊎◌, inl, inr, ◌↔◌}
use mathlib.Core.Bool.{Bool, false, not, false≢true}
use mathlib.Core.List.{List, [], ◌∷◌, Memᴰ}
use mathlib.Core.Option.{Option, none, some}
use Prim.Native.Nat.{ℕ, zero, suc, ◌^◌, ◌≤◌, ◌<◌}
use native.Mathlib.Omega.{arith}
use lib.Dec.{eqb, leb}
use lib.ListN.{length, get_or}
use borrow.Author.Tests.{leb-false, lt-leb}
use Rattle.theory.specs.Lists.{count_from, any}
use Rattle.theory.specs.Term.{Term, Terms, var, node, none as no_terms, ◌then◌, variables}
use Rattle.theory.specs.Preorder.{Token, symbol, variable, preorder}
use Rattle.paper.specs.Bytes.{letter_x}
use Rattle.paper.specs.Limits.{last_variable, most_tokens, most_digits}
use Rattle.paper.specs.Checked.{says, ◌>>=◌, ◌>>◌, ◌unless◌}
use Rattle.paper.specs.Fields.{all, each, number, entries, token}
use Rattle.paper.specs.Sides.{permitted, part, before, terms, single, term_of, term, same, bare, left_side, right_side}
use Rattle.paper.specs.Spelling.{token_text, tokens_text}
use Rattle.paper.specs.Reasons.{Tokens, Writes, side_line, Reason, no_tokens, unlisted_token, large_variable, many_tokens, no_term, bare_left, out_of_turn, lacking}
use Rattle.paper.proofs.Smallest.{decided}
use Rattle.paper.proofs.Checked.{silent, Says}
use Rattle.paper.proofs.Exact.{listed_iff}
use Rattle.paper.proofs.Admitted.{same_lists, each_length}
use Rattle.paper.proofs.Lines.{with_commas, entries_sound}
use Rattle.paper.proofs.Numbers.{number_exact}
use Rattle.paper.proofs.Preorder.{preorder_exact}
use Rattle.paper.proofs.Spelling.{each_spelled, token_cases, token_spelled, commas_tokens, entries_whole}
use Rattle.paper.proofs.Complete.{numeral, token_complete, tokens_complete, same_complete}
use Rattle.paper.proofs.ReasonsLaws.{Judges, From, Only, only_fault, only_says, only_read, only_each, checks, Failed, Rising, tested, all_tested, reading, read_on, test_on}
use Rattle.paper.proofs.Reasons.{from_four, only_number, each_says, One, or_same, and_fails, all_fails, ltb_fails, leb_fails}

only_token : (bs : List ℕ) → Only 4 (token bs)
unfolding token
only_token [] n e = only_fault 4 n e
only_token (b ∷ bs) n e = elim (decided (eqb b letter_x)) [
  | inl p ↦ only_read (number bs) _ (only_number bs) (λ x. only_says (variable x)) n (rw (p, token) at e)
  | inr p ↦ only_read (number (b ∷ bs)) _ (only_number (b ∷ bs)) (λ f. only_says (symbol f)) n (rw (p, token) at e)
]

only_part : (n : ℕ) (ts : Terms ℕ) → Only 8 (part n ts)
unfolding part
only_part zero ts = only_says _
only_part (suc n) no_terms = only_fault 8
only_part (suc n) (t then ts) = only_read (part n ts) _ (only_part n ts) (λ p. only_says _)

only_terms : (arities : List ℕ) (ts : List Token) → Only 8 (terms arities ts)
unfolding terms before
only_terms arities [] = only_says no_terms
only_terms arities (symbol f ∷ ts) = only_read (terms arities ts) _ (only_terms arities ts) (λ us. only_read (part (get_or arities f 0) us) _ (only_part _ us) (λ p. only_says _))
only_terms arities (variable x ∷ ts) = only_read (terms arities ts) _ (only_terms arities ts) (λ us. only_says _)

only_single : (ts : Terms ℕ) → Only 8 (single ts)
unfolding single
only_single no_terms = only_fault 8
only_single (t then no_terms) = only_says t
only_single (t then (u then us)) = only_fault 8

only_term : (arities : List ℕ) (ts : List Token) → Only 8 (term_of arities ts)
unfolding term_of
only_term arities ts = only_read (terms arities ts) _ (only_terms arities ts) only_single

token_short : (e : List ℕ) → Says (λ t. numeral t < 10 ^ most_digits) (token e)
unfolding numeral
token_short e = token_cases (λ t. numeral t < 10 ^ most_digits) e (λ bs front n d. ((number_exact bs n).0 d).1) (λ n d. ((number_exact e n).0 d).1)

-- A value is read as the tokens that it is.
tokens_read : (value : List ℕ) (ts : List Token) → (each token (entries value) ≡ says ts) ↔ (Tokens value ts × (1 ≤ length ts))
unfolding numeral
tokens_read value ts = (
  λ d. (
    record {
      text = sym (commas_tokens ts) ∙ (ap with_commas (each_spelled token token_text token_spelled (entries value) ts d) ∙ entries_whole value);
      short_symbols = λ f m. each_says token token_short (entries value) ts d (symbol f) m;
      short_variables = λ x m. each_says token token_short (entries value) ts d (variable x) m;
    },
    omega (arith, each_length token (entries value) ts d, ap length (entries_sound value).are),
  ),
  λ (w, l). back ts w l,
)
  where
    short : (ts : List Token) → Tokens value ts → (t : Token) → Memᴰ t ts → numeral t < 10 ^ most_digits
    short ts w (symbol f) m = w.short_symbols f m
    short ts w (variable x) m = w.short_variables x m

    back : (ts : List Token) → Tokens value ts → 1 ≤ length ts → each token (entries value) ≡ says ts
    back [] w l = absurd (omega arith)
    back (t ∷ ts) w l = rw (← w.text) (tokens_complete t ts (λ u m. token_complete u (short (t ∷ ts) w u m)))

-- A value is not two lists of tokens.
same_tokens : (value : List ℕ) {ts : List Token} → Tokens value ts → 1 ≤ length ts → (us : List Token) → Tokens value us → us ≡ ts
unfolding tokens_text each entries token ◌>>=◌
same_tokens value {ts} w l [] v = let d = (tokens_read value ts).1 (w, l) in absurd (silent (rw (← v.text) at d))
same_tokens value {ts} w l (u ∷ us) v = let d = (tokens_read value ts).1 (w, l) in let e = (tokens_read value (u ∷ us)).1 (v, omega arith) in cc

bare_fails : (l : Term ℕ) → (not (bare l) ≡ false) ↔ ((x : ℕ) × (l ≡ var x))
unfolding bare
bare_fails (var x) = (λ e. (x, refl), λ w. refl)
bare_fails (node f ts) = (λ e. absurd (false≢true (sym e)), λ (x, e). let z : ◌≡◌ {A = ℕ} 0 1 = cc in absurd (omega arith))

same_fails : (xs ys : List ℕ) → (same xs ys ≡ false) ↔ (xs ≡ ys → ⊥)
same_fails xs ys = (λ e d. false≢true (sym e ∙ same_complete xs ys d), λ h. elim (decided (same xs ys)) [ inl e ↦ absurd (h (same_lists xs ys e)) | inr e ↦ e ])

listed_fails : (x : ℕ) (xs : List ℕ) → (any xs (eqb x) ≡ false) ↔ (Memᴰ x xs → ⊥)
listed_fails x xs = (λ e m. false≢true (sym e ∙ (listed_iff x xs).1 m), λ h. elim (decided (any xs (eqb x))) [ inl e ↦ absurd (h ((listed_iff x xs).0 e)) | inr e ↦ e ])

-- The token's symbol is not listed, or its variable is above x3.
unfoldable Unknown : List ℕ → Token → Type 0
Unknown arities (symbol f) = length arities ≤ f
Unknown arities (variable x) = last_variable < x

known_fails : (arities : List ℕ) (ts : List Token) → (all ts (permitted arities) ≡ false) ↔ One ts (Unknown arities)
unfolding permitted Unknown
known_fails arities ts = all_fails (permitted arities) one ts
  where
    one : (t : Token) → (permitted arities t ≡ false) ↔ Unknown arities t
    one (symbol f) = ltb_fails f (length arities)
    one (variable x) = leb_fails x last_variable

-- What a side's term may have against it, and by which number.
unfoldable Last : Option (Term ℕ) → Term ℕ → Type 0
Last none l = ((x : ℕ) × (l ≡ var x)) ⊎ (variables l ≡ count_from 0 (length (variables l)) → ⊥)
Last (some l) r = One (variables r) (λ x. Memᴰ x (variables l) → ⊥)

unfoldable last_number : Option (Term ℕ) → ℕ
last_number none = 9
last_number (some l) = 10

last_late : (left : Option (Term ℕ)) → 8 ≤ last_number left
unfolding last_number
last_late none = omega arith
last_late (some l) = omega arith

some_token : (t : Term ℕ) → 1 ≤ length (preorder t)
unfolding preorder
some_token (var x) = omega arith
some_token (node f ts) = omega arith

module _ (arities value : List ℕ) where
  -- The reasons from 8 on.
  abbrev Late : Option (Term ℕ) → ℕ → Type 0
  Late left n = ((n ≡ 8) × ((t : Term ℕ) → Writes value arities t → ⊥)) ⊎ ((n ≡ last_number left) × (t : Term ℕ) × Writes value arities t × Last left t)

  -- The tests of the tokens.
  abbrev early : List Token → List (ℕ × Bool)
  early ts = (5, all ts (permitted arities)) ∷ (6, leb (length ts) most_tokens) ∷ []

  late_from : (left : Option (Term ℕ)) → From 8 (Late left)
  late_from left n (inl (e, h)) = omega arith
  late_from left n (inr (e, t, w, h)) = omega (arith, last_late left)

  late_reason : (left : Option (Term ℕ)) (n : ℕ) {ts : List Token} → Tokens value ts → Late left n → Reason value (side_line arities left) n
  unfolding last_number Last
  late_reason left n w (inl (e, h)) = rw e (no_term w h)
  late_reason none n w (inr (e, l, v, inl (x, b))) = rw e (bare_left (rw b at v))
  late_reason none n w (inr (e, l, v, inr h)) = rw e (out_of_turn v h)
  late_reason (some l) n w (inr (e, r, v, (x, m, h))) = rw e (lacking v m h)

  early_reason : (left : Option (Term ℕ)) (ts : List Token) → Tokens value ts → (n : ℕ) → Failed (early ts) n → Reason value (side_line arities left) n
  unfolding Failed Unknown
  early_reason left ts w n (inl (e, f)) = let (t, m, u) = (known_fails arities ts).0 f in rw e (unknown t m u)
    where
      unknown : (t : Token) → Memᴰ t ts → Unknown arities t → Reason value (side_line arities left) 5
      unknown (symbol f) m u = unlisted_token w m u
      unknown (variable x) m u = large_variable w m u
  early_reason left ts w n (inr (inl (e, f))) = rw e (many_tokens w (leb-false _ _ f))
  early_reason left ts w n (inr (inr f)) = absurd f

  side_reason : (left : Option (Term ℕ)) (ts : List Token) → Tokens value ts → 1 ≤ length ts → (n : ℕ) → Reason value (side_line arities left) n → Failed (early ts) n ⊎ Late left n
  unfolding Failed Unknown last_number Last
  side_reason left [] w l _ (no_tokens h) = elim l [ ]
  side_reason left (t ∷ ts) w l n (no_tokens h) = absurd (h t ts w)
  side_reason left ts w l n (unlisted_token {f = f} {ts = us} v m u) = inl (inl (refl, (known_fails arities ts).1 (symbol f, rw (same_tokens value w l us v) at m, u)))
  side_reason left ts w l n (large_variable {x = x} {ts = us} v m u) = inl (inl (refl, (known_fails arities ts).1 (variable x, rw (same_tokens value w l us v) at m, u)))
  side_reason left ts w l n (many_tokens {ts = us} v u) = inl (inr (inl (refl, lt-leb _ _ (rw (same_tokens value w l us v) at u))))
  side_reason left ts w l n (no_term v h) = inr (inl (refl, h))
  side_reason left ts w l n (bare_left {x = x} v) = inr (inr (refl, var x, v, inl (x, refl)))
  side_reason left ts w l n (out_of_turn {l = t} v h) = inr (inr (refl, t, v, inr h))
  side_reason left ts w l n (lacking {r = r} {x = x} v m h) = inr (inr (refl, r, v, (x, m, h)))

  -- A value is not two terms.
  pub same_term : (t u : Term ℕ) → Writes value arities t → Writes value arities u → t ≡ u
  same_term t u v w =
      let e = same_tokens value w.tokens (some_token u) (preorder t) v.tokens in
      let d = (preorder_exact arities (preorder u) t).1 (e, v.ranked) in
      let f = (preorder_exact arities (preorder u) u).1 (refl, w.ranked) in
      cc

  -- A term, with one more test.
  term_judges : (left : Option (Term ℕ)) (test : Term ℕ → Bool) → ((t : Term ℕ) → (test t ≡ false) ↔ Last left t)
      → Judges (Writes value arities) (Reason value (side_line arities left)) (term arities value >>= (λ t. last_number left unless test t >> says t))
  unfolding term checks Failed Rising
  term_judges left test fails =
      rw read_on (reading 4 _ _ (tokens_read value) (only_each token only_token (entries value)) from_four (λ h. no_tokens (λ t ts w. h (t ∷ ts) (w, omega arith))) (λ ts (w, l).
      rw test_on (rw test_on (tested {T = Late left} 4 (early ts) 8 _ (omega arith) (early_reason left ts w) (side_reason left ts w l) (late_from left) (λ late.
      reading 8 (term_of arities ts) _ (preorder_exact arities ts) (only_term arities ts) (λ n r. late_from left n (late n r))
      (λ h. no_term w (λ t v. h t (same_tokens value w l (preorder t) v.tokens, v.ranked))) (λ t (q, k).
      let v : Writes value arities t = record { tokens = rw q w; ranked = k } in
      all_tested 8 ((last_number left, test t) ∷ []) (last_number left) t (last_late left, omega arith) (to t v ts w) (back t v late) (λ clear. v)))))))
    where
      to : (t : Term ℕ) → Writes value arities t → (ts : List Token) → Tokens value ts → (n : ℕ) → Failed ((last_number left, test t) ∷ []) n → Reason value (side_line arities left) n
      to t v ts w n (inl (e, f)) = late_reason left n w (inr (e, t, v, (fails t).0 f))
      to t v ts w n (inr f) = absurd f

      back : (t : Term ℕ) → Writes value arities t → ((n : ℕ) → Reason value (side_line arities left) n → Late left n) → (n : ℕ)
          → Reason value (side_line arities left) n → Failed ((last_number left, test t) ∷ []) n
      back t v late n r = elim (late n r) [
        | inl (e, h) ↦ absurd (h t v)
        | inr (e, u, w, h) ↦ let same = same_term u t w v in inl (e, (fails t).1 (rw same at h))
      ]

  -- A left side.
  pub left_judges : Judges (Writes value arities) (Reason value (side_line arities none)) (left_side arities value)
  unfolding left_side last_number Last
  left_judges = term_judges none _ (λ l. or_same (and_fails (not (bare l)) _) (bare_fails l) (same_fails (variables l) (count_from 0 (length (variables l)))))

  -- A right side.
  pub right_judges : (l : Term ℕ) → Judges (Writes value arities) (Reason value (side_line arities (some l))) (right_side arities l value)
  unfolding right_side last_number Last
  right_judges l = term_judges (some l) _ (λ r. all_fails (λ x. any (variables l) (eqb x)) (λ x. listed_fails x (variables l)) (variables r))
