-- A file in the words of Reasons: all the readings that its lines may have, as relations. Nothing here runs.
use Rattle.std.specs.Prelude.{◌≡◌, ◌⊎◌, List, [], ◌∷◌, ℕ, zero, suc, ◌≤◌, ◌<◌, length}
use Rattle.std.proofs.Math.Option.{none, some}
use Prim.Native.String.{String}
use Rattle.theory.specs.Rewriting.{Rule}
use Rattle.theory.specs.Automaton.{Transition}
use Rattle.paper.specs.Limits.{most_bytes}
use Rattle.paper.specs.Certificate.{Certificate, Kind, Budget, Arities, States, Final, Trans, BadStates, BadFinal, BadTrans, Rules, Merge, row}
use Rattle.paper.specs.Spelling.{transition_numbers}
use Rattle.paper.specs.Format.{Reading, refused, gave}
use Rattle.paper.specs.Reasons.{Numbers, Writes, Expected, number_line, arity_line, final_line, transition_line, side_line, merge_line, Opens, Faulty}

-- The readings that the bytes from the start of a line on may have, with that line's number: what they may give, and every reason on every line.
abbrev pub Layout : Type 0 → Type 1
Layout X = ℕ → List ℕ → Reading X → Type 0

-- The number n on line L is the first of the reasons: any other is on a later line, or on L with a number that is not smaller.
pub record First {X : Type 0} (may : Reading X → Type 0) (n L : ℕ) : Type 0 where
  pub itself : may (refused n L)
  pub first : (m M : ℕ) → may (refused m M) → (L < M) ⊎ ((L ≡ M) × (n ≤ m))

-- A line: its reasons stand on its number; what its value says stands before the next line.
unfoldable pub laid_line : {X : Type 0} → String → Expected → (List ℕ → X → Type 0) → Layout X
laid_line key expected Says number bs (refused n L) = (L ≡ number) × Faulty key expected bs n
laid_line key expected Says number bs (gave x next rest) = (next ≡ suc number) × ((value : List ℕ) × Opens key value rest bs × Says value x)

-- No line.
unfoldable pub laid_nothing : {X : Type 0} → X → Layout X
laid_nothing x number bs r = r ≡ gave x number bs

-- The end of the file. 3: or bytes follow the last line.
unfoldable pub laid_end : {X : Type 0} → X → Layout X
laid_end x number bs (refused n L) = (L ≡ number) × (n ≡ 3) × (bs ≡ [] → ⊥)
laid_end x number bs (gave y next rest) = (next ≡ number) × (bs ≡ []) × (rest ≡ []) × (y ≡ x)

-- One part after another: what the second may give after the first, and the reasons of both.
unfoldable pub ◌>>=◌ : {X Y : Type 0} → Layout X → (X → Layout Y) → Layout Y
◌>>=◌ {X} part next number bs (refused n L) =
    part number bs (refused n L) ⊎ ((x : X) × (k : ℕ) × (cs : List ℕ) × part number bs (gave x k cs) × next x k cs (refused n L))
◌>>=◌ {X} part next number bs (gave y l ds) = (x : X) × (k : ℕ) × (cs : List ℕ) × part number bs (gave x k cs) × next x k cs (gave y l ds)

-- That many parts.
unfoldable pub laid_times : {X : Type 0} → ℕ → Layout X → Layout (List X)
laid_times zero part = laid_nothing []
laid_times (suc n) part = do
  x ← part
  xs ← laid_times n part
  laid_nothing (x ∷ xs)

-- A line of one number.
unfoldable pub laid_number : Kind → Layout ℕ
laid_number kind = laid_line (row kind).key (number_line kind) (λ value n. Numbers value (n ∷ []))

-- A transition.
unfoldable pub laid_transition : String → List ℕ → ℕ → Layout Transition
laid_transition key arities n = laid_line key (transition_line arities n) (λ value t. Numbers value (transition_numbers t))

-- A rule's two lines.
unfoldable pub laid_rule : List ℕ → Layout Rule
laid_rule arities = do
  l ← laid_line "l" (side_line arities none) (λ value. Writes value arities)
  r ← laid_line "r" (side_line arities (some l)) (λ value. Writes value arities)
  laid_nothing (record { left = l; right = r })

-- The lines in their fixed order.
unfoldable pub laid_certificate : Layout Certificate
laid_certificate = do
  budget ← laid_number Budget
  arities ← laid_line (row Arities).key arity_line Numbers
  n ← laid_number States
  final ← laid_line (row Final).key (final_line n) Numbers
  count ← laid_number Trans
  ts ← laid_times count (laid_transition "t" arities n)
  m ← laid_number BadStates
  badfinal ← laid_line (row BadFinal).key (final_line m) Numbers
  badcount ← laid_number BadTrans
  us ← laid_times badcount (laid_transition "u" arities m)
  rulecount ← laid_number Rules
  rules ← laid_times rulecount (laid_rule arities)
  merge ← laid_line (row Merge).key (merge_line n) Numbers
  laid_end (record {
    budget = budget;
    arities = arities;
    A = record { states = n; transitions = ts; final = final };
    B = record { states = m; transitions = us; final = badfinal };
    rules = rules;
    merge = merge;
  })

-- A file that is not too long, may be read as c, and has no reason on any line.
pub record Reasonless (file : List ℕ) (c : Certificate) : Type 0 where
  pub short : length file ≤ most_bytes
  pub says_c : (L : ℕ) × (rest : List ℕ) × laid_certificate 1 file (gave c L rest)
  pub no_reason : (n L : ℕ) → laid_certificate 1 file (refused n L) → ⊥
