-- The first critical pair of the list of substitutions is the first critical pair: what stands in the list are the critical pairs, each at its place.
use mathlib.Core.Path.{◌≡◌, refl, sym, ap, ap₂, ◌∙◌}
use mathlib.Core.Logic.{inl, inr, ◌↔◌}
use mathlib.Core.List.{List, ◌∷◌}
use Prim.Native.Nat.{ℕ, suc, ◌+◌, ◌<◌}
use native.Mathlib.Omega.{arith}
use native.Mathlib.Decide.{dec_lt}
use lib.ListN.{length, take}
use lib.Seq.{take-append_seam}
use Rattle.theory.specs.Lists.{Nth}
use Rattle.theory.specs.Rewriting.{Rule, variable_count}
use Rattle.theory.specs.Automaton.{Automaton}
use Rattle.theory.specs.Critical.{CriticalPair, Substitutable, Acritical}
use Rattle.theory.proofs.Nth.{nth_mem, mem_nth, nth_one, nth_seam, nth_split, nth_take, take_nth}
use Rattle.theory.proofs.Search.{substitutions_sound, substitutions_complete}
use Rattle.paper.specs.Computed.{Case, case, cases}
use Rattle.paper.specs.Meaning.{total, place_of, place, FirstCritical}
use Rattle.paper.proofs.Listed.{CriticalFor, Quiet, FirstListed}
use Rattle.paper.proofs.Cases.{cases_sound, cases_complete}
use Rattle.paper.proofs.Places.{cases_nth}

module _ (M : Automaton) (R : List Rule) where
  -- The count of the first critical pair: the earlier rules' powers of k, and the substitution's place in its rule, from 1.
  pub first_count : {rule : ℕ} {xs : List ℕ} {q n : ℕ} → FirstCritical M R rule xs q n → n ≡ total M.states (take rule R) + suc (place_of M.states xs)
  unfolding place
  first_count f = f.count ∙ ap₂ (λ i σ. total M.states (take i R) + suc (place_of M.states σ)) f.number f.classes

  -- The substitutions in their order.
  abbrev listing : List Case
  listing = cases M.states 0 R

  -- The substitution of a critical pair.
  abbrev case_of : CriticalPair M R → Case
  case_of p = case p.number p.rule p.σ

  critical_for : (p : CriticalPair M R) → CriticalFor M (case_of p) p.q
  critical_for p = record { left = p.left; not_right = p.not_right }

  -- It stands in the list, at the pair's place.
  stands : (p : CriticalPair M R) → (i : ℕ) × Nth listing i (case_of p) × (place M R p ≡ suc i)
  unfolding Substitutable place
  stands p =
      let m = cases_complete M.states 0 R p.number p.number p.rule p.listed (rw p.complete at (substitutions_complete M.states p.σ p.allowed)) (omega arith) in
      let (i, n) = mem_nth m in
      let w = cases_nth M.states R i (case_of p) n in
      let same : p.number ≡ w.earlier = omega (arith, w.number) in
      let earlier : total M.states (take p.number R) ≡ total M.states (take w.earlier R) = ap (λ j. total M.states (take j R)) same in
      (i, n, omega (arith, w.place))

  -- A critical class of a listed substitution is a critical pair at that place.
  record Pair (i : ℕ) (c : Case) (q : ℕ) : Type 0 where
    pair : CriticalPair M R
    number : pair.number ≡ c.number
    classes : pair.σ ≡ c.σ
    named : pair.q ≡ q
    at : place M R pair ≡ suc i

  pair_at : (i : ℕ) (c : Case) → Nth listing i c → (q : ℕ) → CriticalFor M c q → Pair i c q
  unfolding Substitutable place
  pair_at i c n q k =
      let w = cases_nth M.states R i c n in
      let (l, j) = cases_sound M.states 0 R (nth_mem listing i n) in
      let (complete, allowed) = substitutions_sound M.states (variable_count c.rule) j in
      let same : c.number ≡ w.earlier = omega (arith, w.number) in
      record {
        pair = record { number = c.number; rule = c.rule; listed = rw same w.listed; σ = c.σ; complete = complete; allowed = allowed; q = q; left = k.left; not_right = k.not_right };
        number = refl;
        classes = refl;
        named = refl;
        at = rw same (omega (arith, w.place));
      }

  -- None of the first b has a critical pair exactly where every critical pair's place is above b.
  pub quiet_below : (b : ℕ) → Quiet M (take b listing) ↔ ((p : CriticalPair M R) → b < place M R p)
  quiet_below b = (
    λ quiet p.
        let (i, n, e) = stands p in
        elim (dec_lt b (place M R p)) [ yes h ↦ h | no h ↦ absurd (quiet (case_of p) (nth_take listing i b n (omega arith)) p.q (critical_for p)) ],
    λ above c m q k.
        let (i, l, n) = take_nth listing b m in
        let w = pair_at i c n q k in
        omega (arith, above w.pair, w.at),
  )

  -- None at all has one exactly where there is none.
  pub quiet_iff : Quiet M listing ↔ Acritical M R
  unfolding Acritical
  quiet_iff = (
    λ quiet p. let (i, n, e) = stands p in quiet (case_of p) (nth_mem listing i n) p.q (critical_for p),
    λ acritical c m q k. let (i, n) = mem_nth m in acritical (pair_at i c n q k).pair,
  )

  -- The first in the list is the first critical pair.
  pub first_iff : (rule : ℕ) (xs : List ℕ) (q n : ℕ) → FirstListed M listing rule xs q n ↔ FirstCritical M R rule xs q n
  first_iff rule xs q n = (to, from)
    where
      to : FirstListed M listing rule xs q n → FirstCritical M R rule xs q n
      to f =
          let here : Nth listing (length f.before) f.this = rw f.split at (nth_seam f.before f.this f.rest) in
          let w = pair_at (length f.before) f.this here q f.smallest.itself in
          let front : take (length f.before) listing ≡ f.before = sym (ap (take (length f.before)) f.split) ∙ take-append_seam f.before (f.this ∷ f.rest) in
          record {
            pair = w.pair;
            number = w.number ∙ f.number;
            classes = w.classes ∙ f.classes;
            named = w.named;
            first = λ other.
                let (i, m, e) = stands other in
                elim (dec_lt (length f.before) i) [
                  | yes h ↦ inl (omega (arith, w.at))
                  | no h ↦ elim (dec_lt i (length f.before)) [
                    | yes l ↦ absurd (f.quiet (case_of other) (rw front at (nth_take listing i (length f.before) m l)) other.q (critical_for other))
                    | no l ↦
                        let same : i ≡ length f.before = omega arith in
                        let one : case_of other ≡ f.this = nth_one listing i m (rw same here) in
                        inr (omega (arith, w.at), f.smallest.least other.q (rw one at (critical_for other)))
                  ]
                ];
            count = f.place ∙ sym w.at;
          }

      from : FirstCritical M R rule xs q n → FirstListed M listing rule xs q n
      from f =
          let (i, m, e) = stands f.pair in
          let (before, rest, split, long) = nth_split listing i (case_of f.pair) m in
          let front : take i listing ≡ before = ap (λ j. take j listing) (sym long) ∙ (sym (ap (take (length before)) split) ∙ take-append_seam before (case_of f.pair ∷ rest)) in
          record {
            before = before;
            rest = rest;
            this = case_of f.pair;
            split = split;
            quiet = λ c l r k.
                let (j, s, t) = take_nth listing i (rw (← front) at l) in
                let w = pair_at j c t r k in
                elim (f.first w.pair) [ inl h ↦ omega (arith, w.at) | inr (h, g) ↦ omega (arith, w.at) ];
            number = f.number;
            classes = f.classes;
            smallest = record {
              itself = rw f.named at (critical_for f.pair);
              least = λ r k.
                  let w = pair_at i (case_of f.pair) m r k in
                  elim (f.first w.pair) [ inl h ↦ absurd (omega (arith, w.at)) | inr (h, g) ↦ omega (arith, w.named) ];
            };
            place = omega (arith, f.count);
          }
