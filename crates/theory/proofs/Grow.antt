-- What a term evaluates to grows with the transitions, and depends on nothing else of the automaton.
use mathlib.Core.List.{List, Memᴰ}
use Prim.Native.Nat.{ℕ}
use Rattle.theory.specs.Term.{Term, Terms}
use Rattle.theory.specs.Automaton.{Automaton, Transition, Gives, GivesAll, assigned, applied, nothing, ◌next◌}
use Rattle.theory.specs.Critical.{Share}

-- Every transition of the first is one of the second.
abbrev pub Contained : Automaton → Automaton → Type 0
Contained A B = (tr : Transition) → Memᴰ tr A.transitions → Memᴰ tr B.transitions

module _ {X : Type 0} {A B : Automaton} {σ : X → ℕ} (more : Contained A B) where
  mutual
    pub gives_more : {t : Term X} {q : ℕ} → Gives A σ t q → Gives B σ t q
    gives_more (assigned e) = assigned e
    gives_more (applied m ds) = applied (more _ m) (gives_more_all ds)

    gives_more_all : {ts : Terms X} {qs : List ℕ} → GivesAll A σ ts qs → GivesAll B σ ts qs
    gives_more_all nothing = nothing
    gives_more_all (d next ds) = gives_more d next gives_more_all ds

-- So does sharing.
pub share_more : (A B C D : Automaton) (q p : ℕ) → Contained A C → Contained B D → Share A B q p → Share C D q p
unfolding Share
share_more A B C D q p a b (t, d, e) = (t, gives_more a d, gives_more b e)
