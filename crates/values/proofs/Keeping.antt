-- What is kept: nothing at first, one more term after each that is valued, and all of it when the variable `near` gets another set.
use mathlib.Core.Path.{◌≡◌, refl, sym, ap, ◌∙◌, subst}
use mathlib.Core.Logic.{◌⊎◌, inl, inr, ⊎_elim}
use mathlib.Core.List.{List, [], map}
use Prim.Native.Nat.{ℕ, suc, ◌+◌, ◌-◌, ◌*◌, ◌≤◌, ◌<◌}
use native.Mathlib.Decide.{dec_lt, ℕ_discrete}
use native.Mathlib.Omega.{arith}
use lib.ListN.{length, get_or, set, drop, length-set, get_or-eq_default}
use lib.Seq.{get_or-set_same, get_or-set_other}
use Rattle.std.specs.declared.option.Option.{Option}
use Rattle.std.specs.declared.option.Option.TheVariants.{Some}
use Rattle.theory.specs.Term.{Term, Terms}
use Rattle.theory.specs.Preorder.{Token}
use Rattle.theory.specs.Automaton.{Transition}
use Rattle.tables.specs.Held.{token_of}
use Rattle.values.specs.Sets.{spanned}
use Rattle.values.specs.Lanes.{lane, sheet_of, given}
use Rattle.values.specs.Standing.{EachRow, one, over, empty, ◌beside◌, Without, Spells, SpellsRow, Stands, Kept, Noted, unchanged, noted, Valued}
use Rattle.values.proofs.Spanned.{spanned_same, each_then}
use Rattle.values.proofs.Sheets.{Same, sheet_same, same_rows, given_same, sheet_symbol, sheet_variable, sheet_where}
use Rattle.values.proofs.Standing.{some_token, behind, each_variable, spelled_inside, inside, within_room, variable_here, symbol_here, no_terms, first_here, valued_room}

-- Terms without the variable `near`.
module _ (arities tokens : List ℕ) (near : Option ℕ) where
  -- The term at a place is without it, and so is every term of the row there.
  abbrev pub Lacks : ℕ → Type 0
  Lacks at = (t : Term ℕ) (rest : List Token) → Spells arities tokens at t rest → Without near t

  abbrev pub LacksRow : (at n : ℕ) → Type 0
  LacksRow at n = (ts : Terms ℕ) (rest : List Token) → SpellsRow arities tokens at n ts rest → EachRow (λ x. near ≡ Some (64 + x) → ⊥) ts

module _ {arities tokens : List ℕ} {near : Option ℕ} where
  pub lacks_variable : {at : ℕ} → Stands arities tokens at → 64 ≤ get_or tokens at 0 → (near ≡ Some (get_or tokens at 0) → ⊥) → Lacks arities tokens near at
  lacks_variable {at = at} s hv ne t rest w = subst (Without near) (sym (variable_here arities tokens at (inside s) hv t rest w).0) (one (λ e. ne (e ∙ ap Some (omega arith))))

  pub lacks_none : {at : ℕ} → LacksRow arities tokens near at 0
  lacks_none ts rest s = subst (EachRow (λ x. near ≡ Some (64 + x) → ⊥)) (sym (no_terms arities tokens s.ranked refl)) empty

  pub lacks_more : {Δ : List Transition} {k at n : ℕ} {m after : List (List ℕ)} {second : ℕ} → Valued Δ arities tokens k m at after second
      → Lacks arities tokens near at → LacksRow arities tokens near second n
      → LacksRow arities tokens near at (suc n)
  lacks_more {at = at} {n = n} v l ls ts rest s =
      let w = first_here arities tokens at n ts rest s in
      subst (EachRow (λ x. near ≡ Some (64 + x) → ⊥)) (sym w.same) (l w.term _ w.spells beside ls w.others rest (record { ranked = w.ranked; reads = v.rest w.term _ w.spells }))

  pub lacks_symbol : {at n : ℕ} → Stands arities tokens at → get_or tokens at 0 < 64 → get_or arities (get_or tokens at 0) 0 ≡ n
      → LacksRow arities tokens near (at + 1) n → Lacks arities tokens near at
  lacks_symbol {at = at} s hs arity ls t rest w =
      let here = symbol_here arities tokens at (inside s) hs t rest w in
      subst (Without near) (sym here.same) (over (ls here.row rest (rw arity at here.spells)))

module _ (Δ : List Transition) (arities tokens : List ℕ) (k : ℕ) (near : Option ℕ) where
  -- Nothing is kept where no entry is made.
  pub kept_none : (m : List (List ℕ)) (ends : List ℕ) → ((p : ℕ) → get_or ends p 0 ≡ 0) → Kept Δ arities tokens k near m ends
  kept_none m ends z = record {
    end = λ p h e. absurd (omega (arith, z p));
    without = λ p h e. absurd (omega (arith, z p));
    value = λ p h e. absurd (omega (arith, z p));
  }

  -- What is kept stays right when the variable `near` gets another set.
  module _ (m after : List (List ℕ)) (ends : List ℕ) (x : ℕ) (is : near ≡ Some (64 + x)) where
    other : (y : ℕ) → (near ≡ Some (64 + y) → ⊥) → (48 + y < 48 + x) ⊎ (48 + x + 1 ≤ 48 + y)
    other y ne = elim (dec_lt y x) [ yes l ↦ inl (omega arith) | no n ↦ inr (elim (dec_lt x y) [ yes l ↦ omega arith | no n' ↦ absurd (ne (is ∙ ap (λ z. Some (64 + z)) (omega arith))) ]) ]

    far : (p : ℕ) → p < 48 → (t : Term ℕ) (rest : List Token) → Spells arities tokens p t rest → Without near t → (sheet_of tokens p < 48 + x) ⊎ (48 + x + 1 ≤ sheet_of tokens p)
    far p h t rest s w = elim (dec_lt (get_or tokens p 0) 64) [
      | yes l ↦ inl (omega (arith, sheet_symbol tokens p l))
      | no n ↦
          let hv : 64 ≤ get_or tokens p 0 = omega arith in
          let ne = each_variable (subst (Without near) (variable_here arities tokens p (spelled_inside s) hv t rest s).0 w) in
          let sheet = sheet_variable tokens p hv in
          ⊎_elim (λ l. inl (omega arith)) (λ l. inr (omega arith)) (other (get_or tokens p 0 - 64) ne)
    ]

    pub kept_near : ((i : ℕ) → (i < (48 + x) * k) ⊎ ((48 + x) * k + k ≤ i) → get_or after i [] ≡ get_or m i []) → Kept Δ arities tokens k near m ends → Kept Δ arities tokens k near after ends
    unfolding given
    kept_near rows old =
        let same = sheet_same k (48 + x) (48 + x + 1) m after (same_rows k (48 + x) m after rows) in
        record {
          end = old.end;
          without = old.without;
          value = λ p h e t rest s l hl.
              let w = old.without p h e t rest s in
              same (sheet_of tokens p) l (far p h t rest s w)
              ∙ old.value p h e t rest s l hl
              ∙ spanned_same Δ (given k m l) (given k after l) (each_then (λ y. near ≡ Some (64 + y) → ⊥) (λ y. given k m l y ≡ given k after l y) (λ y ne. sym (same (48 + y) l (other y ne))) w);
        }

-- A term that was valued has its value by the sets that the variables have now.
valued_now : {Δ : List Transition} {arities tokens : List ℕ} {k : ℕ} {m₀ m : List (List ℕ)} {at next : ℕ} → Stands arities tokens at → Valued Δ arities tokens k m₀ at m next
    → (t : Term ℕ) (rest : List Token) → Spells arities tokens at t rest → (l : ℕ) → l < 512 → lane k m (sheet_of tokens at * k) l ≡ spanned Δ (given k m l) t
valued_now {Δ = Δ} {arities = arities} {tokens = tokens} {k = k} {m₀ = m₀} {m = m} {at = at} {next = next} s v t rest w l hl =
    v.value t rest w l hl ∙ ap (λ ρ. spanned Δ ρ t) (sym (given_same k at next m₀ m v.outside (valued_room arities tokens Δ k s v) l))

module _ {Δ : List Transition} {arities tokens : List ℕ} {k : ℕ} {near : Option ℕ} where
  -- A term that is kept is valued already.
  pub kept_valued : {m : List (List ℕ)} {ends : List ℕ} {at end : ℕ} → Stands arities tokens at → Kept Δ arities tokens k near m ends → end ≡ get_or ends at 0 → 0 < end
      → Valued Δ arities tokens k m at m end
  kept_valued {ends = ends} {at = at} s old is some = record {
    value = λ t rest w. old.value at here entry t rest w;
    rest = λ t rest w. ap (λ n. map token_of (drop n tokens)) (is ∙ old.end at here entry t rest w) ∙ behind w;
    end = λ t rest w. is ∙ old.end at here entry t rest w;
    forward = omega (arith, is, old.end at here entry s.term s.rest s.spells, some_token s.term);
    long = refl;
    outside = λ i w. refl;
  }
    where
      here : at < 48
      here = within_room s

      entry : 0 < get_or ends at 0
      entry = omega arith

  module _ {m₀ m : List (List ℕ)} {at next : ℕ} (s : Stands arities tokens at) (v : Valued Δ arities tokens k m₀ at m next) where
    -- What is kept besides stays right.
    pub kept_beside : {old : List (List ℕ)} {ends : List ℕ} → Same k at (at + 1) old m → Kept Δ arities tokens k near old ends → Kept Δ arities tokens k near m ends
    kept_beside {old = old} same kept = record {
      end = kept.end;
      without = kept.without;
      value = λ p h e t rest w l hl. elim (ℕ_discrete p at) [
        | yes is ↦ rw is (valued_now s v t rest (rw is at w) l hl)
        | no ne ↦
            sheet_same k at (at + 1) old m same (sheet_of tokens p) l (far p h ne)
            ∙ kept.value p h e t rest w l hl
            ∙ ap (λ ρ. spanned Δ ρ t) (sym (given_same k at (at + 1) old m same (omega (arith, within_room s)) l))
      ];
    }
      where
        far : (p : ℕ) → p < 48 → (p ≡ at → ⊥) → (sheet_of tokens p < at) ⊎ (at + 1 ≤ sheet_of tokens p)
        far p h ne = ⊎_elim
            (λ b. elim (dec_lt p at) [ yes l ↦ inl (omega arith) | no n ↦ inr (elim (dec_lt at p) [ yes l ↦ omega arith | no n' ↦ absurd (ne (omega arith)) ]) ])
            (λ b. inr (omega (arith, within_room s)))
            (sheet_where tokens p)

    -- And it is kept itself, where it is without the variable `near`.
    pub kept_more : {ends : List ℕ} → Lacks arities tokens near at → Kept Δ arities tokens k near m ends → Kept Δ arities tokens k near m (set ends at next)
    kept_more {ends = ends} lacks kept = record {
      end = λ p h e t rest w. elim (ℕ_discrete p at) [
        | yes is ↦ rw is (entry (rw is at e) ∙ v.end t rest (rw is at w))
        | no ne ↦ get_or-set_other ends at p next 0 ne ∙ kept.end p h (rw (get_or-set_other ends at p next 0 ne) at e) t rest w
      ];
      without = λ p h e t rest w. elim (ℕ_discrete p at) [
        | yes is ↦ lacks t rest (rw is at w)
        | no ne ↦ kept.without p h (rw (get_or-set_other ends at p next 0 ne) at e) t rest w
      ];
      value = λ p h e t rest w l hl. elim (ℕ_discrete p at) [
        | yes is ↦ rw is (valued_now s v t rest (rw is at w) l hl)
        | no ne ↦ kept.value p h (rw (get_or-set_other ends at p next 0 ne) at e) t rest w l hl
      ];
    }
      where
        entry : 0 < get_or (set ends at next) at 0 → get_or (set ends at next) at 0 ≡ next
        entry e = elim (dec_lt at (length ends)) [
          | yes h ↦ get_or-set_same ends at next 0 h
          | no n ↦ absurd (omega (arith, get_or-eq_default (set ends at next) 0 {n = at} (omega (arith, length-set ends at next))))
        ]

    -- It is kept where its arguments are.
    pub kept_noted : {ends : List ℕ} {a b c : ℕ} {after : List ℕ}
        → (0 < get_or ends a 0 → 0 < get_or ends b 0 → 0 < get_or ends c 0 → Lacks arities tokens near at)
        → Noted ends at a b c next after → Kept Δ arities tokens k near m ends → Kept Δ arities tokens k near m after
    kept_noted lacks (unchanged e) kept = rw e kept
    kept_noted lacks (noted ha hb hc e) kept = rw e (kept_more (lacks ha hb hc) kept)
