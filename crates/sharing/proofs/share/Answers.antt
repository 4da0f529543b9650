-- `sharing::share` meets its contract: no row has been at rest before the first pass, each pass adds a pair or is the last, and at the end every row is.
use mathlib.Core.Path.{sym, ap, ◌∙◌, subst, refl}
use Prim.Native.Nat.{ℕ, ◌*◌, ◌^◌, ◌≤◌, ◌<◌}
use lib.Dec.{lit<}
use Rattle.sets.specs.Sets.{mem}
use Rattle.sets.proofs.Laws.{mem_all}
use Rattle.theory.proofs.Bools.{not_both, zero_at}
use Rattle.sharing.specs.Share.{Still, sum}
use Rattle.sharing.proofs.Sharing.{sum_most, exact, falls, not_in_none, still_none}
use Rattle.sharing.proofs.share.Goals as goal

pub loop-dirty-init : goal.loop-dirty-init
loop-dirty-init c = (
  refl,
  (λ i. subst (λ (n : ℕ). n < 2 ^ 64) (sym (zero_at 64 i)) (lit< tt)),
  (λ x b h. not_both _ h (ap (λ (n : ℕ). mem n b) (zero_at 64 x) ∙ not_in_none b)),
  (λ j l s. absurd (s.part mem_all)),
)

pub loop-dirty-smaller : goal.loop-dirty-smaller
loop-dirty-smaller c =
    let at = c.loop-dirty in
    let did = c.pass-dirty in
    let most = sum_most did.new.pairs (2 ^ 64) (did.ensures.words at.invariant.1) in
    let long = did.ensures.long ∙ at.invariant.0 in
    falls at.pairs did.new.pairs at.dirty did.result c.loop-dirty-test.true
    (subst (λ (n : ℕ). sum did.new.pairs ≤ n * 2 ^ 64) long most) did.ensures.up did.ensures.more

pub returns : goal.returns
returns c =
    let a = c.args in
    let at = c.loop-dirty in
    exact a.merged.now a.bad.now a.ar.now c.requires at.pairs
    (λ j l. at.invariant.3 j l (subst (λ (d : ℕ). Still a.merged.now a.ar.now d j) (sym c.loop-dirty-test.false) (still_none a.merged.now a.ar.now j))) at.invariant.2
