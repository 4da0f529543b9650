-- The two lines of a rule, and the array of the rules with one more.
use mathlib.Core.Path.{◌≡◌, refl, sym, ap, ◌∙◌}
use mathlib.Core.List.{List, [], ◌∷◌, ◌++◌, map, map-append}
use Prim.Native.Nat.{ℕ, ◌+◌, ◌<◌}
use native.Mathlib.Omega.{arith}
use lib.ListN.{length, drop, take, set, length-append, length-map}
use borrow.Rule.Slice.PartMut.{put_mid}
use Rattle.std.specs.declared.result.Result.{Result}
use Rattle.std.specs.declared.result.Result.TheVariants.{Ok}
use Rattle.theory.specs.Lists.{count_from}
use Rattle.theory.specs.Term.{Term, variables}
use Rattle.theory.specs.Rewriting.{Rule, variable_count}
use Rattle.theory.proofs.Count.{length_count}
use Rattle.paper.specs.Limits.{most_rules, most_tokens}
use Rattle.paper.specs.Format.{line_of, give}
use Rattle.paper.specs.Sides.{right_side}
use Rattle.verdicts.specs.declared.refusals.Refusal.{Refusal}
use Rattle.fields.specs.declared.cursor.Cursor.{Cursor}
use Rattle.fields.specs.Padded.{padded}
use Rattle.fields.specs.Said.{Placed, Whole, Answer}
use Rattle.fields.proofs.Whole.{padded_length}
use Rattle.sides.specs.declared.Side.{Side}
use Rattle.sides.specs.Tokens.{meant, side_term, WholeTokens, LeftSide, RightSide, RightLine}
use Rattle.tables.specs.Held.{side_of}
use Rattle.tables.specs.declared.Rule.{Rule as Kept}
use Rattle.tables.specs.declared.Rules.{Rules}
use Rattle.blocks.specs.Packed.{rule_of, zero_rule, filled, packed_rules}
use Rattle.blocks.specs.Handed.{Went}
use Rattle.blocks.proofs.Chain.{answer_placed, answer_whole}
use Rattle.blocks.proofs.Arrays.{filled_step, padded_front, second_half}

-- A right side's line, behind this left side.
pub right_answer : (file ar : List ℕ) (c : Cursor) (v : ℕ) {r : Result (Side × Cursor) Refusal} (l : Term ℕ) → variables l ≡ count_from 0 v → RightLine file ar c v r
    → Answer (side_term ar) (RightSide ar v) file c.line (line_of "r" (right_side ar l) c.line (drop c.at file)) r
right_answer file ar c v l e r = record { said = r.said l e; whole = r.whole }

pub right_whole : {file ar : List ℕ} (c : Cursor) {v : ℕ} {s : Side} {d : Cursor} → RightLine file ar c v (Ok (s, d)) → RightSide ar v s × Placed file d
unfolding Whole
right_whole c r = r.whole

pub ruleset rule_lines = (answer_placed, answer_whole, right_whole)

-- The tokens of a side and the zeros behind them.
side_kept : (ar tokens : List ℕ) (n : ℕ) → WholeTokens ar tokens n → take 24 tokens ≡ padded most_tokens (side_of (meant ar (take n tokens)))
side_kept ar tokens n w = ap (take 24) w.behind ∙ padded_front 24 64 (take n tokens) (omega arith) ∙ ap (padded most_tokens) w.are

-- The rule of two sides that were read.
pub rule_went : {file ar : List ℕ} {d : Cursor} {l r : Side} → LeftSide ar l → RightSide ar l.variables r → Placed file d → {tokens : List ℕ} (first rest second : List ℕ)
    → first ≡ take 24 l.tokens → second ≡ take 24 r.tokens → length rest ≡ 24 → tokens ≡ put_mid 24 24 (first ++ rest) second
    → Went file rule_of (give (record { left = side_term ar l; right = side_term ar r }) d.line (drop d.at file)) d
    (record { tokens = tokens; left = l.count; right = r.count; variables = l.variables })
unfolding give rule_of variable_count
rule_went {ar = ar} {l = l} {r = r} a b p {tokens} first rest second e f g h =
    let both : Rule = record { left = side_term ar l; right = side_term ar r } in
    let left : first ≡ padded most_tokens (side_of both.left) = e ∙ side_kept ar l.tokens l.count a.whole in
    let right : second ≡ padded most_tokens (side_of both.right) = f ∙ side_kept ar r.tokens r.count b.whole in
    let many : length first ≡ 24 = ap length left ∙ padded_length most_tokens (side_of both.left) in
    let kept : tokens ≡ padded most_tokens (side_of both.left) ++ padded most_tokens (side_of both.right) = rw (h, second_half 24 first rest second many g, left, right) in
    let counted = sym (ap length a.counted ∙ length_count 0 l.variables) in
    record { what = both; is = refl; packs = λ i. record { tokens = kept i; left = a.whole.many i; right = b.whole.many i; variables = counted i }; placed = p }

pub rule_length : (r : Rule) → length (rule_of r).tokens ≡ 48
unfolding rule_of
rule_length r =
    length-append (padded 24 (side_of r.left)) (padded 24 (side_of r.right))
    ∙ omega (arith, padded_length 24 (side_of r.left), padded_length 24 (side_of r.right))

-- the rules with one more
pub rules_more : (rules : List Kept) (i : ℕ) (one : Kept) (r : Rule) → one ≡ rule_of r → i < most_rules → (rs : List Rule) → length rs ≡ i
    → ◌≡◌ {A = Rules} (record { count = i; rules = rules }) (packed_rules rs) → ◌≡◌ {A = Rules} (record { count = i + 1; rules = set rules i one }) (packed_rules (rs ++ (r ∷ [])))
unfolding packed_rules
rules_more rules i one r p few rs n e =
    let before : rules ≡ filled zero_rule most_rules (map rule_of rs) = ap (λ (x : Rules). x.rules) e in
    let size : i + 1 ≡ length (rs ++ (r ∷ [])) = sym (length-append rs (r ∷ []) ∙ ap (λ m. m + 1) n) in
    let all : set rules i one ≡ filled zero_rule most_rules (map rule_of (rs ++ (r ∷ []))) =
    rw (before, p, map-append rule_of rs (r ∷ [])) (filled_step zero_rule most_rules (map rule_of rs) i (rule_of r) (length-map rs rule_of ∙ n) few) in
    λ j. record { count = size j; rules = all j }
