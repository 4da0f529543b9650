-- `search::search` meets its contract: at each loop what is examined is counted and clear, and each way out says what the definition says.
use mathlib.Core.Path.{◌≡◌}
use mathlib.Core.Bool.{false}
use mathlib.Core.List.{[], ◌∷◌}
use Prim.Native.Nat.{ℕ, ◌<◌}
use Rattle.sets.specs.Sets.{less}
use Rattle.values.specs.Lanes.{lane}
use Rattle.search.proofs.Loops.{AtRule, AtChoice, AtThird, AtLane}
use Rattle.search.proofs.search.Given as goal

abbrev pub invariant-rules : goal.invariant-rules
invariant-rules l =
    AtRule l.delta.arities.now l.delta.words.now l.delta.heads.now l.rules l.delta.states l.budget l.most l.size l.initial.m l.m l.examined l.rule

abbrev pub invariant-first : goal.invariant-first
invariant-first l =
    AtChoice l.delta.arities.now l.delta.words.now l.delta.heads.now l.rules l.delta.states l.budget l.most l.size l.rule l.tokens l.v l.lanes
    l.passed1 l.passed0 l.m0 l.m1 l.m2 l.variables l.right l.leads1 0 [] l.open0 l.initial.m l.m l.initial.examined l.x0 l.examined

abbrev pub invariant-second : goal.invariant-second
invariant-second l =
    AtChoice l.delta.arities.now l.delta.words.now l.delta.heads.now l.rules l.delta.states l.budget l.most l.size l.rule l.tokens l.v l.lanes
    l.passed1 l.passed0 l.m0 l.m1 l.m2 l.variables l.right l.leads1 1 (l.x0 ∷ []) l.open1 l.initial.m l.m l.initial.examined l.x1 l.examined

abbrev pub invariant-third : goal.invariant-third
invariant-third l =
    AtThird l.delta.arities.now l.delta.words.now l.delta.heads.now l.rules l.delta.states l.budget l.most l.size l.rule l.tokens l.v l.lanes
    l.passed1 l.passed0 l.m0 l.m1 l.m2 l.variables l.right l.leads1 l.x0 l.x1 l.initial.m l.m l.initial.examined l.x2 l.examined

abbrev pub invariant-lanes : goal.invariant-lanes
invariant-lanes l =
    AtLane l.delta.arities.now l.delta.words.now l.delta.heads.now l.rules l.delta.states l.budget l.most l.size l.rule l.tokens l.v l.lanes
    l.passed1 l.passed0 l.m0 l.m1 l.m2 l.variables l.right l.leads1 l.x0 l.x1 l.x2 l.m l.initial.examined l.j l.examined

-- No earlier class is critical.
abbrev pub invariant-classes : goal.invariant-classes
invariant-classes l =
    (x : ℕ) → x < l.q → less (lane l.delta.states l.m 0 l.j) (lane l.delta.states l.m l.right l.j) x ≡ false
