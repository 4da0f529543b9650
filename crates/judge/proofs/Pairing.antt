-- What the loops find over masks is the pair that the paper names.
use mathlib.Core.Path.{◌≡◌, sym}
use mathlib.Core.Logic.{inl, inr, ◌↔◌}
use mathlib.Core.Bool.{true, ◌&&◌, and-eq-true_iff}
use mathlib.Core.List.{List, Memᴰ}
use mathlib.Core.Option.{Option, none, some}
use Prim.Native.Nat.{ℕ, zero, suc, ◌+◌, ◌≤◌, ◌<◌}
use native.Mathlib.Omega.{arith}
use native.Mathlib.Decide.{dec_le}
use lib.ListN.{get_or}
use Rattle.theory.specs.Automaton.{Automaton, InRange}
use Rattle.theory.specs.Critical.{Share, Suitable}
use Rattle.paper.specs.Computed.{sharing}
use Rattle.paper.specs.Meaning.{Sharing, Smallest, FinalPair, SharingMeans}
use Rattle.paper.proofs.Smallest.{decided, smallest_some, smallest_none}
use Rattle.paper.proofs.Examined.{found}
use Rattle.paper.proofs.Exact.{FinalInRange, sharing_exact}
use Rattle.sets.specs.Sets.{mem}
use Rattle.judge.specs.Pairs.{pair_or, partner, shared_of}

-- What the first class with a partner is, of the k from n on.
module _ (pairs : List ℕ) (finals bad m : ℕ) where
  abbrev mate : ℕ → Option ℕ
  mate q = partner pairs finals bad m q

  -- None has a partner; or one has, and none before it.
  data First (n k : ℕ) : Sharing → Type 0 where
    nobody : ((r : ℕ) → n ≤ r → r < n + k → mate r ≡ none) → First n k Sharing.nothing
    this : {q p : ℕ} → q < n + k → mate q ≡ some p → ((r : ℕ) → n ≤ r → r < q → mate r ≡ none) → First n k (Sharing.shared q p)

  first : (n k : ℕ) → First n k (shared_of pairs finals bad n k m)
  unfolding shared_of pair_or
  first n zero = nobody (λ r l h. absurd (omega arith))
  first n (suc k) = elim (found (mate n)) [
    | inl e ↦ rw e (past e (first (suc n) k))
    | inr (p, e) ↦ rw e (this {q = n} (omega arith) e (λ r l h. absurd (omega arith)))
  ]
    where
      before : mate n ≡ none → (r : ℕ) → n ≤ r → (suc n ≤ r → mate r ≡ none) → mate r ≡ none
      before e r l h = elim (dec_le (suc n) r) [ yes i ↦ h i | no i ↦ let same : r ≡ n = omega arith in rw same e ]

      past : mate n ≡ none → {o : Sharing} → First (suc n) k o → First n (suc k) o
      past e (nobody h) = nobody (λ r l u. before e r l (λ i. h r i (omega arith)))
      past e (this {q = q} u f h) = this {q = q} (omega arith) f (λ r l v. before e r l (λ i. h r i v))

module _ (M B : Automaton) (in_m : InRange M) (in_b : InRange B) (fin_m : FinalInRange M) (fin_b : FinalInRange B) (pairs : List ℕ) (finals bad : ℕ)
    (marked : (q p : ℕ) → (mem (get_or pairs q 0) p ≡ true) ↔ Share M B q p)
    (final-class : (q : ℕ) → (mem finals q ≡ true) ↔ Memᴰ q M.final)
    (final-state : (p : ℕ) → p < B.states → (mem bad p ≡ true) ↔ Memᴰ p B.final) where
  abbrev partnered : ℕ → Option ℕ
  partnered q = partner pairs finals bad B.states q

  -- A partner is the smallest state that makes a final pair ..
  mate_some : (q p : ℕ) → partnered q ≡ some p → Smallest (FinalPair M B q) p
  unfolding partner
  mate_some q p e = elim (decided (mem finals q)) [
    | inl f ↦
        let s = smallest_some (λ p. mem (get_or pairs q 0) p && mem bad p) 0 B.states (rw (f, partner) at e) in
        let (a, b) = (and-eq-true_iff (mem (get_or pairs q 0) p) (mem bad p)).0 s.passes in
        record {
          itself = record { class = (final-class q).0 f; state = (final-state p (omega (arith, s.high))).0 b; shared = (marked q p).0 a };
          least = λ r w. s.first r (omega arith) ((and-eq-true_iff _ _).1 ((marked q r).1 w.shared, (final-state r (fin_b r w.state)).1 w.state));
        }
    | inr f ↦ let g = rw (f, partner) at e in let z : ◌≡◌ {A = ℕ} 0 1 = cc in absurd (omega arith)
  ]

  -- .. and where there is none no state does.
  mate_none : (q : ℕ) → partnered q ≡ none → (p : ℕ) → FinalPair M B q p → ⊥
  unfolding partner
  mate_none q e p w =
      let f = (final-class q).1 w.class in
      smallest_none (λ p. mem (get_or pairs q 0) p && mem bad p) 0 B.states (rw (f, partner) at e) p (omega arith) (omega (arith, fin_b p w.state))
      ((and-eq-true_iff _ _).1 ((marked q p).1 w.shared, (final-state p (fin_b p w.state)).1 w.state))

  pub shared_is : shared_of pairs finals bad 0 M.states B.states ≡ sharing M B
  unfolding SharingMeans Suitable
  shared_is =
      let found = shared_of pairs finals bad 0 M.states B.states in
      sym ((sharing_exact M B in_m in_b fin_m fin_b found).1 (go found (first pairs finals bad B.states 0 M.states)))
    where
      go : (o : Sharing) → First pairs finals bad B.states 0 M.states o → SharingMeans M B o
      go Sharing.nothing (nobody h) = λ q p f g s. mate_none q (h q (omega arith) (omega (arith, fin_m q f))) p (record { class = f; state = g; shared = s })
      go (Sharing.shared q p) (this u e h) =
          let s = mate_some q p e in
          (record { itself = (p, s.itself); least = λ r (o, w). elim (dec_le q r) [ yes l ↦ l | no l ↦ absurd (mate_none r (h r (omega arith) (omega arith)) o w) ] }, s)
