-- `judge::suitable::first_below` meets its contract: the first number that is found is the smallest member.
use mathlib.Core.Path.{◌≡◌}
use mathlib.Core.Bool.{true, false}
use borrow.Author.Rules.{rules}
use borrow.Author.Tests.{tests}
use Rattle.std.proofs.lemmas.Iterator.{first_from_Range}
use Rattle.sets.specs.Sets.{mem}
use Rattle.judge.proofs.Seek.{first_smallest}
use Rattle.judge.proofs.suitable.first_below.Goals as goal

pub returns : goal.returns
returns c =
    let set = mem c.args.set in
    first_smallest set _ _
    (first_from_Range _ _ _ c.find.result (λ p. set p ≡ true) (λ p. set p ≡ false) c.find.ensures.ran (λ x q k. search (rules, tests)) (λ x q k. search (rules, tests)))
