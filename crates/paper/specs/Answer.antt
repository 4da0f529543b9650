-- The answer: eight lines. Those of the two questions have the same keys but for the first.
use Rattle.std.specs.Prelude.{true, false, List, [], ◌∷◌, ◌++◌, ℕ, zero, suc, ◌+◌, ◌/◌, ◌%◌, ltb}
use Rattle.std.proofs.Math.Option.{Option, none, some}
use Prim.Native.String.{String}
use Rattle.paper.specs.Bytes.{bytes, LF, comma, digit0}
use Rattle.paper.specs.Meaning.{malformed, unsuitable, critical, accepted, stopped, Verdict, Sharing, Closure, Asked}
use Rattle.paper.specs.Computed.{verdict_of}

-- A number's digits: its only one, or those of its tenth and then its last. The count k ends the recursion; where n ≤ k it cuts nothing off.
unfoldable pub digits : (k n : ℕ) → List ℕ
digits zero n = (digit0 + n) ∷ []
digits (suc k) n = elim (ltb n 10) [ true ↦ (digit0 + n) ∷ [] | false ↦ digits k (n / 10) ++ ((digit0 + n % 10) ∷ []) ]

-- A number in decimal, whatever its size.
unfoldable pub decimal : ℕ → List ℕ
decimal n = digits n n

-- Numbers parted by commas.
unfoldable pub decimals : List ℕ → List ℕ
decimals [] = []
decimals (n ∷ []) = decimal n
decimals (n ∷ m ∷ ns) = decimal n ++ (comma ∷ decimals (m ∷ ns))

-- `-` stands where a line has nothing to say.
unfoldable pub dash : List ℕ
dash = bytes "-"

-- The line of a refusal, where it has one.
unfoldable pub decimal_if : Option ℕ → List ℕ
decimal_if none = dash
decimal_if (some n) = decimal n

-- A line: its key, `=`, its value and LF.
unfoldable pub line_with : String → List ℕ → List ℕ
line_with key value = bytes key ++ (bytes "=" ++ (value ++ (LF ∷ [])))

-- The eight lines in their order; the first names what was asked.
unfoldable pub eight : (question word : String) → (refusal line rule x class bad examined : List ℕ) → List ℕ
eight question word refusal line rule x class bad examined =
    line_with question (bytes word)
    ++ (line_with "refusal" refusal
    ++ (line_with "line" line
    ++ (line_with "rule" rule
    ++ (line_with "x" x
    ++ (line_with "class" class
    ++ (line_with "bad" bad
    ++ line_with "examined" examined))))))

-- The answer to each verdict.
unfoldable pub answer : Verdict → List ℕ
answer (malformed number line) = eight "verdict" "malformed" (decimal number) (decimal_if line) dash dash dash dash dash
answer (unsuitable class bad) = eight "verdict" "unsuitable" dash dash dash dash (decimal class) (decimal bad) (decimal 0)
answer (critical rule xs class examined) = eight "verdict" "critical" dash dash (decimal rule) (decimals xs) (decimal class) dash (decimal examined)
answer (accepted examined) = eight "verdict" "accepted" dash dash dash dash dash dash (decimal examined)
answer (stopped examined) = eight "verdict" "stopped" dash dash dash dash dash dash (decimal examined)

-- The answers to the two questions.
unfoldable pub sharing_answer : Asked Sharing → List ℕ
sharing_answer (Asked.refused number line) = eight "sharing" "malformed" (decimal number) (decimal_if line) dash dash dash dash dash
sharing_answer (Asked.answered (Sharing.shared class bad)) = eight "sharing" "shared" dash dash dash dash (decimal class) (decimal bad) dash
sharing_answer (Asked.answered Sharing.nothing) = eight "sharing" "none" dash dash dash dash dash dash dash

unfoldable pub closure_answer : Asked Closure → List ℕ
closure_answer (Asked.refused number line) = eight "closure" "malformed" (decimal number) (decimal_if line) dash dash dash dash dash
closure_answer (Asked.answered (Closure.critical rule xs class examined)) =
    eight "closure" "critical" dash dash (decimal rule) (decimals xs) (decimal class) dash (decimal examined)
closure_answer (Asked.answered (Closure.closed examined)) = eight "closure" "closed" dash dash dash dash dash dash (decimal examined)
closure_answer (Asked.answered (Closure.stopped examined)) = eight "closure" "stopped" dash dash dash dash dash dash (decimal examined)

-- The answer to a file.
unfoldable pub answer_of : List ℕ → List ℕ
answer_of file = answer (verdict_of file)
