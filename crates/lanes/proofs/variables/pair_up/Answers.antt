-- `lanes::variables::pair_up` meets its contract: y and z are lane l's digits, the lanes before l have theirs, the later ones no class.
use mathlib.Core.Path.{◌≡◌, refl, sym, subst}
use mathlib.Core.Logic.{inl, inr}
use mathlib.Core.List.{List}
use Prim.Native.Nat.{ℕ, ◌+◌}
use native.Mathlib.Omega.{arith}
use Rattle.lanes.proofs.VariableRows.{Written, digits_first, digits_next, digits_carry, both_one, both_then, written_none, written_paired, high_past, high_lit, low_lit}
use Rattle.lanes.proofs.variables.pair_up.Goals as goal
use Rattle.lanes.proofs.variables.pair_up.Goals.{then-y-k, else-y-k, then-z-k, else-z-k}

pub loop-l-init : goal.loop-l-init
loop-l-init c =
    let other = c.fill-2.ensures in (
      digits_first c.args.k c.args.start c.requires.some,
      written_none c.args.k c.args.hi c.args.lo c.args.start c.requires.two c.fill.new.m c.fill-2.new.m c.fill.ensures.0 other.0 other.1,
    )

pub loop-l-preserved : goal.loop-l-preserved
loop-l-preserved c =
    let a = c.args in
    let at = c.loop-l in
    let (next, old) = at.invariant in
    let half : List (List ℕ) → Type 0 = λ m. Written a.k a.hi a.lo a.start c.fill-2.new.m m (at.l + 1) at.l in (
      elim c.if-z-k.branch [
        | then-z-k w ↦ rw (w.z-is, w.y-is) (digits_carry a.k a.start at.y at.z at.l next w.if-z-k.true)
        | else-z-k w ↦ rw (w.z-is, w.y-is) (digits_next a.k a.start at.y at.z at.l next w.if-z-k.false)
      ],
      low_lit a.k a.hi a.lo a.start c.requires.two _ _ at.y at.z _ next c.light-in-loop-l.new.m c.light-in-loop-l.ensures (elim c.if-y-k.branch [
        | then-y-k w ↦ subst half (sym w.m-is) (high_lit a.k a.hi a.lo a.start c.requires.two _ _ at.y at.z _ next w.light.new.m w.if-y-k.true w.light.ensures old)
        | else-y-k w ↦ subst half (sym w.m-is) (high_past a.k a.hi a.lo a.start c.requires.two _ _ at.y at.z _ next w.if-y-k.false old)
      ]),
    )

pub returns : goal.returns
returns c =
    let a = c.args in
    let end = c.loop-l.invariant.1 in
    let then = both_then a.k a.hi a.lo in
    record {
      paired = let all : c.loop-l.l ≡ a.n = omega arith in written_paired a.k a.hi a.lo a.start _ c.loop-l.m a.n c.requires.lanes (rw all at end);
      both_touched = then _ _ _ (then _ _ _ (both_one a.k a.hi a.lo _ _ a.hi (inl refl) c.fill.ensures.1) (both_one a.k a.hi a.lo _ _ a.lo (inr refl) c.fill-2.ensures.1)) end.both;
    }
