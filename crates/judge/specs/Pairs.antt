-- The first final pair, over masks.
use Rattle.std.specs.Prelude.{ℕ, zero, suc, true, false, ◌&&◌, List, get_or}
use Rattle.std.proofs.Math.Option.{Option as Maybe, none, some}
use Rattle.std.specs.declared.option.Option.{Option}
use Rattle.std.specs.declared.option.Option.TheVariants.{None, Some}
use Rattle.paper.specs.Meaning.{Sharing}
use Rattle.paper.specs.Computed.{smallest}
use Rattle.sets.specs.Sets.{mem}

-- What was found, in the paper's words.
unfoldable pub said_first : Option ℕ → Maybe ℕ
said_first (Some q) = some q
said_first None = none

-- The class q with what was found for it, or what comes after.
unfoldable pub pair_or : ℕ → Maybe ℕ → Sharing → Sharing
pair_or q (some p) later = Sharing.shared q p
pair_or q none later = later

-- The state of B that the class q is marked with, the smallest of those in `bad` below m; none where q is not in `finals`.
unfoldable pub partner : (pairs : List ℕ) → (finals bad m q : ℕ) → Maybe ℕ
partner pairs finals bad m q = elim (mem finals q) [ true ↦ smallest (λ p. mem (get_or pairs q 0) p && mem bad p) 0 m | false ↦ none ]

-- The first class, of the k from n on, that has a partner, and the partner.
unfoldable pub shared_of : (pairs : List ℕ) → (finals bad n k m : ℕ) → Sharing
shared_of pairs finals bad n zero m = Sharing.nothing
shared_of pairs finals bad n (suc k) m = pair_or n (partner pairs finals bad m n) (shared_of pairs finals bad (suc n) k m)
