-- A term among the tokens, taken apart as the code reads it, and its value put together again.
use mathlib.Core.Path.{◌≡◌, refl, sym, ap, ap₂, ◌∙◌, subst}
use mathlib.Core.Bool.{cond}
use mathlib.Core.Logic.{inl, inr, ⊎_elim}
use mathlib.Core.List.{List, [], ◌∷◌, ◌++◌, map, append_assoc}
use Prim.Native.Nat.{ℕ, zero, suc, ◌+◌, ◌-◌, ◌*◌, ◌≤◌, ◌<◌}
use native.Mathlib.Numerals.{add-one}
use native.Mathlib.Decide.{dec_lt}
use native.Mathlib.Omega.{arith}
use lib.ListN.{length, get_or, take, drop, length-append, length-map, length-drop}
use lib.Seq.{drop-cons, drop-drop, drop-append_seam}
use borrow.Author.Tests.{lt-ltb, le-ltb}
use Rattle.theory.specs.Term.{Term, Terms, var, node, none, ◌then◌}
use Rattle.theory.specs.Preorder.{Token, symbol, variable, preorder, preorder_all, Ranked, RankedRow, ranked_variable, ranked_symbol, no_more, one_more}
use Rattle.theory.specs.Automaton.{Transition}
use Rattle.sets.specs.Sets.{Set}
use Rattle.tables.specs.Held.{token_of}
use Rattle.woven.specs.Woven.{woven_moves}
use Rattle.values.specs.Sets.{gathered, spanned, spanned_all}
use Rattle.values.specs.Lanes.{lane, sheet_of, given}
use Rattle.values.specs.Rows.{Gathered}
use Rattle.values.specs.Standing.{Each, EachRow, one, over, ◌beside◌, Spells, SpellsRow, Stands, Valued}
use Rattle.values.proofs.Sheets.{Same, sheet_same, given_same, same_wider, same_within, same_then, sheet_symbol, sheet_variable, sheet_where}

pub some_token : (t : Term ℕ) → 1 ≤ length (preorder t)
unfolding preorder
some_token (var x) = omega arith
some_token (node f ts) = omega arith

map-drop : (n : ℕ) (l : List ℕ) → map token_of (drop n l) ≡ drop n (map token_of l)
map-drop zero l = refl
map-drop (suc n) [] = refl
map-drop (suc n) (x ∷ l) = map-drop n l

-- What stands behind a term.
pub behind : {arities tokens : List ℕ} {at : ℕ} {t : Term ℕ} {rest : List Token} → Spells arities tokens at t rest → map token_of (drop (at + length (preorder t)) tokens) ≡ rest
behind {tokens = tokens} {at = at} {t = t} {rest = rest} s =
    ap (map token_of) (sym (drop-drop (length (preorder t)) at tokens))
    ∙ map-drop (length (preorder t)) (drop at tokens)
    ∙ ap (drop (length (preorder t))) s.reads
    ∙ drop-append_seam (preorder t) rest

-- The variables of a term are those of its subterms.
pub each_variable : {P : ℕ → Type 0} {x : ℕ} → Each P (var x) → P x
each_variable (one p) = p

each_over : {P : ℕ → Type 0} {f : ℕ} {ts : Terms ℕ} → Each P (node f ts) → EachRow P ts
each_over (over r) = r

each_first : {P : ℕ → Type 0} {t : Term ℕ} {ts : Terms ℕ} → EachRow P (t then ts) → Each P t × EachRow P ts
each_first (e beside r) = (e, r)

module _ {arities tokens : List ℕ} {at : ℕ} where
  -- A term stands within the tokens.
  pub spelled_inside : {t : Term ℕ} {rest : List Token} → Spells arities tokens at t rest → at < length tokens
  spelled_inside {t = t} {rest = rest} s =
      omega (arith, ap length s.reads, length-append (preorder t) rest, some_token t, length-map (drop at tokens) token_of, length-drop at tokens)

  pub inside : Stands arities tokens at → at < length tokens
  inside s = spelled_inside s.spells

  -- And within their room.
  pub within_room : Stands arities tokens at → at < 48
  within_room s = omega (arith, s.room, some_token s.term)

module _ (arities tokens : List ℕ) where
  abbrev from : ℕ → List Token
  from at = map token_of (drop at tokens)

  first_token : (at : ℕ) → at < length tokens → from at ≡ token_of (get_or tokens at 0) ∷ from (at + 1)
  first_token at h = ap (map token_of) (drop-cons tokens at 0 h) ∙ ap (λ n. token_of (get_or tokens at 0) ∷ from n) (sym (add-one at))

  -- A variable.
  module _ (at : ℕ) (h : at < length tokens) (hv : 64 ≤ get_or tokens at 0) where
    is_argument : token_of (get_or tokens at 0) ≡ variable (get_or tokens at 0 - 64)
    unfolding token_of
    is_argument = ap (λ b. cond b (symbol (get_or tokens at 0)) (variable (get_or tokens at 0 - 64))) (le-ltb (get_or tokens at 0) 64 hv)

    taken_variable : (t : Term ℕ) (rest : List Token) → variable (get_or tokens at 0 - 64) ∷ from (at + 1) ≡ preorder t ++ rest → (t ≡ var (get_or tokens at 0 - 64)) × (from (at + 1) ≡ rest)
    unfolding preorder
    taken_variable (var x) rest e = (let same : x ≡ get_or tokens at 0 - 64 = cc in ap var same, cc)
    taken_variable (node f ts) rest e = let z : ◌≡◌ {A = ℕ} 0 1 = cc in absurd (omega arith)

    pub variable_here : (t : Term ℕ) (rest : List Token) → Spells arities tokens at t rest → (t ≡ var (get_or tokens at 0 - 64)) × (from (at + 1) ≡ rest)
    variable_here t rest s = taken_variable t rest (ap (λ x. x ∷ from (at + 1)) (sym is_argument) ∙ sym (first_token at h) ∙ s.reads)

  -- A symbol, and the row of its subterms.
  pub record Node (at f : ℕ) (t : Term ℕ) (rest : List Token) : Type 0 where
    pub row : Terms ℕ
    pub same : t ≡ node f row
    pub spells : SpellsRow arities tokens (at + 1) (get_or arities f 0) row rest

  module _ (at : ℕ) (h : at < length tokens) (hs : get_or tokens at 0 < 64) where
    is_function : token_of (get_or tokens at 0) ≡ symbol (get_or tokens at 0)
    unfolding token_of
    is_function = ap (λ b. cond b (symbol (get_or tokens at 0)) (variable (get_or tokens at 0 - 64))) (lt-ltb (get_or tokens at 0) 64 hs)

    taken_symbol : {t : Term ℕ} (rest : List Token) → Ranked arities t → symbol (get_or tokens at 0) ∷ from (at + 1) ≡ preorder t ++ rest → Node at (get_or tokens at 0) t rest
    unfolding preorder
    taken_symbol rest ranked_variable e = let z : ◌≡◌ {A = ℕ} 0 1 = cc in absurd (omega arith)
    taken_symbol rest (ranked_symbol {f = f} {ts = ts} r) e =
        let same : f ≡ get_or tokens at 0 = cc in
        let after : from (at + 1) ≡ preorder_all ts ++ rest = cc in
        record { row = ts; same = ap (λ g. node g ts) same; spells = record { ranked = rw same at r; reads = after } }

    pub symbol_here : (t : Term ℕ) (rest : List Token) → Spells arities tokens at t rest → Node at (get_or tokens at 0) t rest
    symbol_here t rest s = taken_symbol rest s.ranked (ap (λ x. x ∷ from (at + 1)) (sym is_function) ∙ sym (first_token at h) ∙ s.reads)

  -- A term over the four variables has its sheet in the room of all sheets.
  pub sheet_room : (at : ℕ) → Stands arities tokens at → sheet_of tokens at < 52
  sheet_room at s = elim (dec_lt (get_or tokens at 0) 64) [
    | yes h ↦ omega (arith, sheet_symbol tokens at h, within_room s)
    | no n ↦
        let hv : 64 ≤ get_or tokens at 0 = omega arith in
        let four = each_variable (subst (Each (λ x. x < 4)) (variable_here at (inside s) hv s.term s.rest s.spells).0 s.four) in
        omega (arith, sheet_variable tokens at hv, four)
  ]

  -- A row without terms, and the first term of a row.
  pub no_terms : {ts : Terms ℕ} {n : ℕ} → RankedRow arities ts n → n ≡ 0 → ts ≡ none
  no_terms (no_more e) h = refl
  no_terms (one_more r rs e) h = absurd (omega arith)

  pub record First (at n : ℕ) (ts : Terms ℕ) (rest : List Token) : Type 0 where
    pub term : Term ℕ
    pub others : Terms ℕ
    pub same : ts ≡ term then others
    pub spells : Spells arities tokens at term (preorder_all others ++ rest)
    pub ranked : RankedRow arities others n

  pub taken_first : (at n : ℕ) {ts : Terms ℕ} {m : ℕ} (rest : List Token) → RankedRow arities ts m → m ≡ suc n → from at ≡ preorder_all ts ++ rest → First at n ts rest
  unfolding preorder
  taken_first at n rest (no_more e) h reads = absurd (omega arith)
  taken_first at n rest (one_more {t = t} {ts = ts} {k = k} r rs e) h reads =
      let same : k ≡ n = omega arith in
      record { term = t; others = ts; same = refl; spells = record { ranked = r; reads = reads ∙ append_assoc (preorder t) (preorder_all ts) rest }; ranked = rw same at rs }

  pub first_here : (at n : ℕ) (ts : Terms ℕ) (rest : List Token) → SpellsRow arities tokens at (suc n) ts rest → First at n ts rest
  first_here at n ts rest s = taken_first at n rest s.ranked refl s.reads

  -- Some row of n terms over the four variables stands at a place.
  pub record StandsRow (at n : ℕ) : Type 0 where
    pub row : Terms ℕ
    pub behind : List Token
    pub spells : SpellsRow arities tokens at n row behind
    pub room : at + length (preorder_all row) ≤ 48
    pub four : EachRow (λ x. x < 4) row

  pub subterms : (at n : ℕ) → Stands arities tokens at → get_or tokens at 0 < 64 → get_or arities (get_or tokens at 0) 0 ≡ n → StandsRow (at + 1) n
  unfolding preorder
  subterms at n s hs e =
      let w = symbol_here at (inside s) hs s.term s.rest s.spells in
      record {
        row = w.row;
        behind = s.rest;
        spells = rw e at w.spells;
        room = omega (arith, s.room, ap (λ t. length (preorder t)) w.same);
        four = each_over (subst (Each (λ x. x < 4)) w.same s.four);
      }

  first_in : (at n : ℕ) → 0 < n → (s : StandsRow at n) → First at (n - 1) s.row s.behind
  first_in at n h s = taken_first at (n - 1) s.behind s.spells.ranked (omega arith) s.spells.reads

  -- The first of some terms stands at the row's place.
  pub first_stands : (at n : ℕ) → 0 < n → StandsRow at n → Stands arities tokens at
  unfolding preorder
  first_stands at n h s =
      let w = first_in at n h s in
      record {
        term = w.term;
        rest = preorder_all w.others ++ s.behind;
        spells = w.spells;
        room = omega (arith, s.room, ap (λ us. length (preorder_all us)) w.same, length-append (preorder w.term) (preorder_all w.others));
        four = (each_first (subst (EachRow (λ x. x < 4)) w.same s.four)).0;
      }

  module _ (Δ : List Transition) (k : ℕ) where
    -- The others stand behind it, where it is valued.
    pub others_stand : {at n : ℕ} {m after : List (List ℕ)} {next : ℕ} → 0 < n → Valued Δ arities tokens k m at after next → StandsRow at n → StandsRow next (n - 1)
    unfolding preorder
    others_stand {at = at} {n = n} h v s =
        let w = first_in at n h s in
        record {
          row = w.others;
          behind = s.behind;
          spells = record { ranked = w.ranked; reads = v.rest w.term _ w.spells };
          room = omega (arith, s.room, v.end w.term _ w.spells, ap (λ us. length (preorder_all us)) w.same, length-append (preorder w.term) (preorder_all w.others));
          four = (each_first (subst (EachRow (λ x. x < 4)) w.same s.four)).1;
        }

    -- A term that is valued ends within the room.
    pub valued_room : {at : ℕ} {m after : List (List ℕ)} {next : ℕ} → Stands arities tokens at → Valued Δ arities tokens k m at after next → next ≤ 48
    valued_room s v = omega (arith, s.room, v.end s.term s.rest s.spells)

    -- The row of n terms at a place is valued: each has its value in one of the sheets bs, and `next` is the place after them.
    pub record RowValued (m : List (List ℕ)) (at n : ℕ) (bs : List ℕ) (after : List (List ℕ)) (next : ℕ) : Type 0 where
      pub values : (ts : Terms ℕ) (rest : List Token) → SpellsRow arities tokens at n ts rest → (l : ℕ) → l < 512
          → (later : List (List ℕ)) → Same k 0 at after later → map (λ a. lane k later a l) bs ≡ spanned_all Δ (given k m l) ts
      pub rest : (ts : Terms ℕ) (rest : List Token) → SpellsRow arities tokens at n ts rest → from next ≡ rest
      pub end : (ts : Terms ℕ) (rest : List Token) → SpellsRow arities tokens at n ts rest → next ≡ at + length (preorder_all ts)
      pub forward : at ≤ next
      pub room : next ≤ 48
      pub long : length after ≡ length m
      pub outside : Same k at next m after

-- A variable's set is in its own sheet.
pub variable_valued : {Δ : List Transition} {arities tokens : List ℕ} {k : ℕ} {m : List (List ℕ)} {at : ℕ} → Stands arities tokens at → 64 ≤ get_or tokens at 0
    → Valued Δ arities tokens k m at m (at + 1)
unfolding spanned preorder given
variable_valued {Δ = Δ} {arities = arities} {tokens = tokens} {k = k} {m = m} {at = at} s hv = record {
  value = λ t rest w l hl.
      let sheet : sheet_of tokens at ≡ 48 + (get_or tokens at 0 - 64) = omega (arith, sheet_variable tokens at hv) in
      ap (λ b. lane k m (b * k) l) sheet ∙ ap (spanned Δ (given k m l)) (sym (is t rest w).0);
  rest = λ t rest w. (is t rest w).1;
  end = λ t rest w. ap (λ t. at + length (preorder t)) (sym (is t rest w).0);
  forward = omega arith;
  long = refl;
  outside = λ i w. refl;
}
  where
    is : (t : Term ℕ) (rest : List Token) → Spells arities tokens at t rest → (t ≡ var (get_or tokens at 0 - 64)) × (map token_of (drop (at + 1) tokens) ≡ rest)
    is = variable_here arities tokens at (inside s) hv

-- No term, and one term before others.
module _ {arities tokens : List ℕ} {Δ : List Transition} {k : ℕ} where
  pub row_none : {m : List (List ℕ)} {at : ℕ} → at ≤ 48 → RowValued arities tokens Δ k m at 0 [] m at
  unfolding spanned preorder
  row_none {m = m} h = record {
    values = λ ts rest s l hl later e. sym (ap (spanned_all Δ (given k m l)) (no_terms arities tokens s.ranked refl));
    rest = λ ts rest s. s.reads ∙ ap (λ us. preorder_all us ++ rest) (no_terms arities tokens s.ranked refl);
    end = λ ts rest s. omega (arith, ap (λ us. length (preorder_all us)) (no_terms arities tokens s.ranked refl));
    forward = omega arith;
    room = h;
    long = refl;
    outside = λ i w. refl;
  }

  module _ {m : List (List ℕ)} {at n : ℕ} {mid : List (List ℕ)} {second : ℕ} {bs : List ℕ} {after : List (List ℕ)} {next : ℕ}
      (v : Valued Δ arities tokens k m at mid second) (r : RowValued arities tokens Δ k mid second n bs after next) where
    left : {ts : Terms ℕ} {rest : List Token} (w : First arities tokens at n ts rest) → SpellsRow arities tokens second n w.others rest
    left w = record { ranked = w.ranked; reads = v.rest w.term _ w.spells }

    -- The first term's sheet is none of those that change later.
    first_stays : (l : ℕ) (later : List (List ℕ)) → Same k 0 at after later → lane k later (sheet_of tokens at * k) l ≡ lane k mid (sheet_of tokens at * k) l
    first_stays l later e =
        let place = sheet_where tokens at in
        sheet_same k 0 at after later e (sheet_of tokens at) l (⊎_elim (λ w. inr (omega arith)) (λ w. inr (omega (arith, v.forward, r.forward, r.room))) place)
        ∙ sheet_same k second next mid after r.outside (sheet_of tokens at) l (⊎_elim (λ w. inl (omega (arith, v.forward))) (λ w. inr (omega (arith, r.room))) place)

    pub row_more : RowValued arities tokens Δ k m at (suc n) (sheet_of tokens at * k ∷ bs) after next
    unfolding spanned preorder
    row_more = record {
      values = λ ts rest s l hl later e.
          let w = first_here arities tokens at n ts rest s in
          ap₂ ◌∷◌ (first_stays l later e ∙ v.value w.term _ w.spells l hl)
          (r.values w.others rest (left w) l hl later (same_wider k 0 at after later e 0 second (omega arith) (omega (arith, v.forward)))
          ∙ ap (λ ρ. spanned_all Δ ρ w.others) (given_same k at second m mid v.outside (omega (arith, r.forward, r.room)) l))
          ∙ ap (spanned_all Δ (given k m l)) (sym w.same);
      rest = λ ts rest s. let w = first_here arities tokens at n ts rest s in r.rest w.others rest (left w);
      end = λ ts rest s.
          let w = first_here arities tokens at n ts rest s in
          omega (arith, r.end w.others rest (left w), v.end w.term _ w.spells, ap (λ us. length (preorder_all us)) w.same, length-append (preorder w.term) (preorder_all w.others));
      forward = omega (arith, v.forward, r.forward);
      room = r.room;
      long = r.long ∙ v.long;
      outside = same_then k at next m mid after
          (same_wider k at second m mid v.outside at next (omega arith) r.forward)
          (same_wider k second next mid after r.outside at next (omega (arith, v.forward)) (omega arith));
    }

-- The transitions of the words by symbol.
abbrev pub moves : (arities words heads : List ℕ) → List Transition
moves arities words heads = woven_moves arities words (get_or heads 64 0)

-- A symbol over a row that is valued: its words are gathered into its sheet.
module _ {arities tokens words heads : List ℕ} {k : ℕ} {m : List (List ℕ)} {at n : ℕ} {bs kids : List ℕ} {mid after : List (List ℕ)} {next : ℕ} where
  pub symbol_valued : Stands arities tokens at → get_or tokens at 0 < 64 → get_or arities (get_or tokens at 0) 0 ≡ n → ((g : ℕ → Set) → take n (map g kids) ≡ map g bs)
      → RowValued arities tokens (moves arities words heads) k m (at + 1) n bs mid next → Gathered arities words heads (get_or tokens at 0) n k mid kids (at * k) after
      → Valued (moves arities words heads) arities tokens k m at after next
  unfolding spanned preorder
  symbol_valued s hs arity pick r g = record {
    value = λ t rest e l hl.
        let here = symbol_here arities tokens at (inside s) hs t rest e in
        ap (λ b. lane k after (b * k) l) (sheet_symbol tokens at hs)
        ∙ g.value arity l hl
        ∙ ap (gathered (moves arities words heads) (get_or tokens at 0))
        (pick (λ a. lane k mid a l) ∙ r.values here.row rest (rw arity at here.spells) l hl mid (λ i w. refl))
        ∙ ap (spanned (moves arities words heads) (given k m l)) (sym here.same);
    rest = λ t rest e. let here = symbol_here arities tokens at (inside s) hs t rest e in r.rest here.row rest (rw arity at here.spells);
    end = λ t rest e.
        let here = symbol_here arities tokens at (inside s) hs t rest e in
        omega (arith, r.end here.row rest (rw arity at here.spells), ap (λ t. length (preorder t)) here.same);
    forward = omega (arith, r.forward);
    long = g.within.long ∙ r.long;
    outside = same_then k at next m mid after (same_wider k (at + 1) next m mid r.outside at next (omega arith) (omega arith)) filled;
  }
    where
      filled : Same k at next mid after
      filled = same_wider k at (at + 1) mid after (same_within k at mid after g.within) at next (omega arith) r.forward
