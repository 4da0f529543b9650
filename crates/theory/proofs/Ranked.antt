-- Where the transitions keep to the arities, every tree that reaches a state is a ground term over the listed symbols.
use mathlib.Core.Path.{◌≡◌, refl, ◌∙◌}
use mathlib.Core.Logic.{inl, inr}
use mathlib.Core.List.Memᴰ
use mathlib.Core.List.{List, Memᴰ}
use Prim.Native.Nat.{ℕ, ◌<◌}
use lib.ListN.{length, get_or, length-map}
use Rattle.theory.specs.Term.{Terms, Tree, symbols, symbols_all}
use Rattle.theory.specs.Automaton.{Automaton, Transition, assigned, applied, nothing, ◌next◌, Reaches, ReachesAll, class_of, merge_transition, merged}
use Rattle.theory.specs.Preorder
use Rattle.theory.specs.Preorder.{Ranked, RankedRow, Ground, one_more}

-- A transition of a listed symbol, with as many arguments as its arity.
pub record Fits (arities : List ℕ) (tr : Transition) : Type 0 where
  pub listed : tr.symbol < length arities
  pub full : length tr.arguments ≡ get_or arities tr.symbol 0

-- All transitions of the automaton are such.
abbrev pub FitsAll : List ℕ → Automaton → Type 0
FitsAll arities A = (tr : Transition) → Memᴰ tr A.transitions → Fits arities tr

module _ (arities : List ℕ) (A : Automaton) (fits : FitsAll arities A) where
  mutual
    ranked : {t : Tree} {q : ℕ} → Reaches A t q → Ranked arities t
    ranked (assigned {x = x} e) = absurd x
    ranked (applied m ds) = Preorder.ranked_symbol (rw (fits _ m).full at (ranked_row ds))

    ranked_row : {ts : Terms ⊥} {qs : List ℕ} → ReachesAll A ts qs → RankedRow arities ts (length qs)
    ranked_row nothing = Preorder.no_more refl
    ranked_row (d next ds) = one_more (ranked d) (ranked_row ds) refl

  mutual
    unfolding symbols

    listed : {t : Tree} {q : ℕ} → Reaches A t q → (f : ℕ) → Memᴰ f (symbols t) → f < length arities
    listed (assigned {x = x} e) f i = absurd x
    listed (applied m ds) f (Memᴰ.head e) = rw e (fits _ m).listed
    listed (applied m ds) f (Memᴰ.tail i) = listed_all ds f i

    listed_all : {ts : Terms ⊥} {qs : List ℕ} → ReachesAll A ts qs → (f : ℕ) → Memᴰ f (symbols_all ts) → f < length arities
    listed_all nothing f i = absurd (Memᴰ.not-nil i)
    listed_all (◌next◌ {t = t} d ds) f i = elim (Memᴰ.append_cases (symbols t) i) [ inl j ↦ listed d f j | inr j ↦ listed_all ds f j ]

  -- Every tree that reaches a state is a ground term over the listed symbols.
  pub reached_ground : {t : Tree} {q : ℕ} → Reaches A t q → Ground arities t
  reached_ground d = record { ranked = ranked d; listed = listed d }

-- Merging keeps symbols and numbers of arguments.
pub merged_fits : (merge arities : List ℕ) (A : Automaton) → FitsAll arities A → FitsAll arities (merged merge A)
unfolding merged merge_transition
merged_fits merge arities A fits u m =
    let (t, n, e) = Memᴰ.of_map (merge_transition merge) A.transitions m in
    rw (← e) (record { listed = (fits t n).listed; full = length-map t.arguments (class_of merge) ∙ (fits t n).full })
