-- A term among the tokens as the walk reads it: a token, the row of subterms behind it, the next term; and where the masks have alike classes behind each.
use mathlib.Core.Path.{◌≡◌, refl, ap, ◌∙◌}
use mathlib.Core.Bool.{cond}
use mathlib.Core.List.{List, ◌++◌}
use Prim.Native.Nat.{ℕ, ◌+◌, ◌-◌, ◌≤◌, ◌<◌}
use native.Mathlib.Numerals.{add-one}
use native.Mathlib.Omega.{arith}
use native.Mathlib.Decide.{dec_lt}
use lib.ListN.{length, get_or}
use borrow.Author.Tests.{lt-ltb, le-ltb}
use Rattle.sets.specs.Sets.{all_mask}
use Rattle.theory.specs.Term.{Term, Terms, var, none}
use Rattle.theory.specs.Preorder.{Token, preorder, preorder_all, no_more}
use Rattle.theory.specs.Automaton.{Transition}
use Rattle.woven.specs.Woven.{woven_moves}
use Rattle.values.specs.Standing.{Spells, SpellsRow}
use Rattle.values.proofs.Standing.{spelled_inside, variable_here, symbol_here, no_terms, First, taken_first}
use Rattle.alike.specs.declared.Arguments.{Arguments}
use Rattle.alike.specs.Alike.{Calls, AlikeIn, AlikeRow, leaf, over, end, more}
use Rattle.alike.specs.Sides.{rank, Written, TokenJoined, RowGiven, RowJoined, SideGiven, SideJoined}

-- ---- how many subterms follow a token
module _ (arities : List ℕ) (g : ℕ) where
  pub rank_symbol : g < 64 → rank arities g ≡ get_or arities g 0
  unfolding rank
  rank_symbol h = ap (λ b. cond b (get_or arities g 0) 0) (lt-ltb g 64 h)

  pub rank_variable : 64 ≤ g → rank arities g ≡ 0
  unfolding rank
  rank_variable h = ap (λ b. cond b (get_or arities g 0) 0) (le-ltb g 64 h)

  rank_most : ((f : ℕ) → get_or arities f 0 ≤ 3) → rank arities g ≤ 3
  rank_most most = elim (dec_lt g 64) [ yes l ↦ omega (arith, rank_symbol l, most g) | no l ↦ omega (arith, rank_variable (omega arith)) ]

  rank_some : 0 < rank arities g → g < 64
  rank_some h = elim (dec_lt g 64) [ yes l ↦ l | no l ↦ absurd (omega (arith, rank_variable (omega arith))) ]

module _ (arities tokens : List ℕ) where
  -- A term stands within the tokens.
  pub written_inside : (at : ℕ) → Written arities tokens at → at < length tokens
  written_inside at w = spelled_inside w.spells

  -- ---- a term: its first token, and the row of its subterms
  pub record Inner (at : ℕ) (t : Term ℕ) (rest : List Token) : Type 0 where
    pub row : Terms ℕ
    pub spells : SpellsRow arities tokens (at + 1) (rank arities (get_or tokens at 0)) row rest
    pub bare : (x : ℕ) → t ≡ var x → get_or tokens at 0 ≡ x + 64
    pub alike : (Δ : List Transition) (x c d wanted : ℕ) → AlikeRow Δ x c d wanted (get_or tokens at 0) 0 row → AlikeIn Δ x c d wanted t

  pub inner : (at : ℕ) (t : Term ℕ) (rest : List Token) → Spells arities tokens at t rest → Inner at t rest
  unfolding preorder
  inner at t rest s = let h = spelled_inside s in elim (dec_lt (get_or tokens at 0) 64) [
    | yes l ↦
        let w = symbol_here arities tokens at h l t rest s in
        record {
          row = w.row;
          spells = rw (rank_symbol arities (get_or tokens at 0) l) w.spells;
          bare = λ x e. let z : ◌≡◌ {A = ℕ} 0 1 = cc w.same in absurd (omega arith);
          alike = λ Δ x c d wanted a. rw w.same (over a);
        }
    | no l ↦
        let (is, after) = variable_here arities tokens at h (omega arith) t rest s in
        record {
          row = none;
          spells = record { ranked = no_more (rank_variable arities (get_or tokens at 0) (omega arith)); reads = after };
          bare = λ x e. let same : x ≡ get_or tokens at 0 - 64 = cc in omega arith;
          alike = λ Δ x c d wanted a. rw is leaf;
        }
  ]

  -- A term that begins with a symbol is no variable.
  pub symbol_bare : (at : ℕ) (t : Term ℕ) (rest : List Token) (x : ℕ) → get_or tokens at 0 < 64 → Spells arities tokens at t rest → t ≡ var x → ⊥
  symbol_bare at t rest x h s e = omega (arith, (inner at t rest s).bare x e)

  first_of : (at n : ℕ) (ts : Terms ℕ) (rest : List Token) → 0 < n → SpellsRow arities tokens at n ts rest → First arities tokens at (n - 1) ts rest
  first_of at n ts rest h s = taken_first arities tokens at (n - 1) rest s.ranked (omega arith) s.reads

  module _ (words heads : List ℕ) (x : ℕ) where
    -- The transitions that the words mean.
    abbrev moves : List Transition
    moves = woven_moves arities words (get_or heads 64 0)

    -- The subterms of a term behind its first token, all of them, where these classes are wanted of the term.
    abbrev pub Subterms : (at wanted : ℕ) → Arguments
    Subterms at wanted = record { symbol = get_or tokens at 0; first = 0; left = rank arities (get_or tokens at 0); wanted = wanted }

    -- The arguments behind the first.
    abbrev pub Others : Arguments → Arguments
    Others here = record { symbol = here.symbol; first = here.first + 1; left = here.left - 1; wanted = here.wanted }

    pub inner_given : ((g : ℕ) → get_or arities g 0 ≤ 3) → (at wanted : ℕ) → SideGiven arities tokens x at → RowGiven arities tokens x (Subterms at wanted) (at + 1)
    inner_given ranks at wanted given =
        let v = inner at given.term.term given.term.rest given.term.spells in
        record {
          variable = given.variable;
          symbol = λ some. rank_some arities (get_or tokens at 0) some;
          arguments = omega (arith, rank_most arities (get_or tokens at 0) ranks);
          row = record { row = v.row; rest = given.term.rest; spells = v.spells };
        }

    module _ (here : Arguments) (at : ℕ) where
      -- No argument is left.
      pub row_done : (masks : List ℕ) → here.left ≡ 0 → RowJoined words heads arities tokens x here at masks masks at
      unfolding preorder
      row_done masks e = record {
        long = refl;
        within = λ k c h. h;
        alike = λ ts rest s d c hd m. rw (no_terms arities tokens s.ranked e) end;
        after = λ ts rest s. s.reads ∙ ap (λ us. preorder_all us ++ rest) (no_terms arities tokens s.ranked e);
        forward = omega arith;
      }

      module _ (some : 0 < here.left) where
        -- The first term of a row is given at the row's place.
        pub first_given : RowGiven arities tokens x here at → SideGiven arities tokens x at
        first_given given =
            let w = first_of at here.left given.row.row given.row.rest some given.row.spells in
            record { variable = given.variable; term = record { term = w.term; rest = _; spells = w.spells } }

        module _ (below : ℕ) (own sub : List ℕ) (next : ℕ) (r : RowJoined words heads arities tokens x (Subterms at below) (at + 1) own sub next) where
          -- The others stand behind the subterms of the first.
          others_spelled : (ts : Terms ℕ) (rest : List Token) (w : First arities tokens at (here.left - 1) ts rest) → SpellsRow arities tokens next (here.left - 1) w.others rest
          others_spelled ts rest w = let v = inner at w.term _ w.spells in record { ranked = w.ranked; reads = r.after v.row _ v.spells }

          pub others_given : RowGiven arities tokens x here at → RowGiven arities tokens x (Others here) next
          others_given given =
              let w = first_of at here.left given.row.row given.row.rest some given.row.spells in
              record {
                variable = given.variable;
                symbol = λ more. given.symbol some;
                arguments = omega (arith, given.arguments);
                row = record { row = w.others; rest = given.row.rest; spells = others_spelled given.row.row given.row.rest w };
              }

          -- The first argument, its subterms, the other arguments.
          pub row_more : (old new : List ℕ) (last : ℕ) → TokenJoined words heads x (get_or tokens at 0) here old own → Calls moves here.wanted here.symbol here.first below
              → RowJoined words heads arities tokens x (Others here) next sub new last → RowJoined words heads arities tokens x here at old new last
          row_more old new last t calls o = record {
            long = o.long ∙ (r.long ∙ t.long);
            within = λ k c m. t.within k c (r.within k c (o.within k c m));
            alike = λ ts rest s d c hd m.
                let w = first_of at here.left ts rest some s in
                let v = inner at w.term _ w.spells in
                rw w.same (more below
                (λ bare. t.alike (v.bare x bare) arities d c hd (r.within d c (o.within d c m)))
                calls
                (v.alike moves x c d below (r.alike v.row _ v.spells d c hd (o.within d c m)))
                (rw (add-one here.first) at (o.alike w.others rest (others_spelled ts rest w) d c hd m)));
            after = λ ts rest s. let w = first_of at here.left ts rest some s in o.after w.others rest (others_spelled ts rest w);
            forward = omega (arith, r.forward, o.forward);
          }

    -- A whole term.
    pub side_done : (at : ℕ) (old new : List ℕ) (next : ℕ) → RowJoined words heads arities tokens x (Subterms at all_mask) (at + 1) old new next
        → SideJoined words heads arities tokens x at old new
    side_done at old new next r = record {
      long = r.long;
      within = r.within;
      alike = λ t rest s d c hd m. let v = inner at t rest s in v.alike moves x c d all_mask (r.alike v.row rest v.spells d c hd m);
    }
