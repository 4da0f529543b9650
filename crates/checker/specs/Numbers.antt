-- The answers to the two questions as numbers, for C: which answer it is, and what it says.
use Rattle.std.specs.Prelude.{List, [], ◌∷◌, ℕ, get_or}
use Rattle.paper.specs.Format.{line_number}
use Rattle.paper.specs.Meaning.{Sharing, Closure, Asked}

-- The first question: 0 nothing, 1 a pair, 2 refused.
unfoldable pub sharing_kind : Asked Sharing → ℕ
sharing_kind (Asked.answered Sharing.nothing) = 0
sharing_kind (Asked.answered (Sharing.shared class bad)) = 1
sharing_kind (Asked.refused number line) = 2

-- The refusal's number and line, the class, the state of B. What has nothing to say is 0, and 255 for a class or a state.
unfoldable pub sharing_numbers : Asked Sharing → List ℕ
sharing_numbers (Asked.answered Sharing.nothing) = 0 ∷ 0 ∷ 255 ∷ 255 ∷ []
sharing_numbers (Asked.answered (Sharing.shared class bad)) = 0 ∷ 0 ∷ class ∷ bad ∷ []
sharing_numbers (Asked.refused number line) = number ∷ line_number line ∷ 255 ∷ 255 ∷ []

-- The second: 0 closed, 1 a critical pair, 2 stopped, 3 refused.
unfoldable pub closure_kind : Asked Closure → ℕ
closure_kind (Asked.answered (Closure.closed n)) = 0
closure_kind (Asked.answered (Closure.critical rule xs class n)) = 1
closure_kind (Asked.answered (Closure.stopped n)) = 2
closure_kind (Asked.refused number line) = 3

-- The refusal's number and line, the rule, the classes of x0 to x3, the class, the examined count; 255 too for a rule, and for each variable
-- that the rule does not have.
unfoldable pub closure_numbers : Asked Closure → List ℕ
closure_numbers (Asked.answered (Closure.closed n)) = 0 ∷ 0 ∷ 255 ∷ 255 ∷ 255 ∷ 255 ∷ 255 ∷ 255 ∷ n ∷ []
closure_numbers (Asked.answered (Closure.critical rule xs class n)) =
    0 ∷ 0 ∷ rule ∷ get_or xs 0 255 ∷ get_or xs 1 255 ∷ get_or xs 2 255 ∷ get_or xs 3 255 ∷ class ∷ n ∷ []
closure_numbers (Asked.answered (Closure.stopped n)) = 0 ∷ 0 ∷ 255 ∷ 255 ∷ 255 ∷ 255 ∷ 255 ∷ 255 ∷ n ∷ []
closure_numbers (Asked.refused number line) = number ∷ line_number line ∷ 255 ∷ 255 ∷ 255 ∷ 255 ∷ 255 ∷ 255 ∷ 0 ∷ []
