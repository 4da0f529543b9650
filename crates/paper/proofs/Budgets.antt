-- With all else equal, a larger budget within its range changes no verdict but stopped.
use mathlib.Core.Path.{◌≡◌, refl, sym, ap, ◌∙◌}
use mathlib.Core.List.{List, ◌++◌}
use Prim.Native.Nat.{ℕ, ◌≤◌}
use native.Mathlib.Omega.{arith}
use Rattle.paper.specs.Limits.{most_budget}
use Rattle.paper.specs.Fields.{from_digits}
use Rattle.paper.specs.Certificate.{Certificate, Budget, row}
use Rattle.paper.specs.Format.{holds, read_file}
use Rattle.paper.specs.Meaning.{malformed, unsuitable, critical, accepted, stopped, Verdict, SharingMeans, ClosureMeans, Means, Given}
use Rattle.paper.specs.Computed.{verdict_of}
use Rattle.paper.specs.WellFormed.{WellFormed}
use Rattle.paper.specs.Answer.{decimal, line_with}
use Rattle.paper.specs.Spelling.{fixed_text, file_of}
use Rattle.paper.proofs.Lines.{cut}
use Rattle.paper.proofs.Numbers.{decimal_reads}
use Rattle.paper.proofs.Complete.{format_exact}
use Rattle.paper.proofs.Distinct.{decimal_LF}
use Rattle.paper.proofs.Demands.{given_exactly}

-- The line of a budget.
abbrev budget_line : ℕ → List ℕ
budget_line b = fixed_text Budget (decimal b)

-- The certificate with another budget.
abbrev rebudget : Certificate → ℕ → Certificate
rebudget c budget = record { budget = budget; arities = c.arities; A = c.A; B = c.B; rules = c.rules; merge = c.merge }

reformed : (c : Certificate) (b : ℕ) → b ≤ most_budget → WellFormed c → WellFormed (rebudget c b)
reformed c b l w = record {
  budget = l;
  some_arities = w.some_arities;
  most_arities = w.most_arities;
  arities = w.arities;
  A = w.A;
  B = w.B;
  rules_bound = w.rules_bound;
  rules = w.rules;
  merge_count = w.merge_count;
  merge = w.merge;
  merge_numbered = w.merge_numbered;
}

means_more : (c : Certificate) (budget : ℕ) → c.budget ≤ budget → (v : Verdict) → Given c v → ((n : ℕ) → v ≡ stopped n → ⊥) → Given (rebudget c budget) v
unfolding Given Means SharingMeans ClosureMeans
means_more c budget l (malformed number line) m h = m
means_more c budget l (unsuitable class bad) m h = m
means_more c budget l (critical rule xs class n) (s, (f, k)) h = (s, (f, omega arith))
means_more c budget l (accepted n) (s, (a, k, e)) h = (s, (a, omega arith, e))
means_more c budget l (stopped n) m h = absurd (h n refl)

-- One number has one decimal.
decimal_injective : (a b : ℕ) → decimal a ≡ decimal b → a ≡ b
decimal_injective a b e = sym (decimal_reads a) ∙ (ap (from_digits 0) e ∙ decimal_reads b)

-- Two files that differ in their budget lines alone, the first of which holds a certificate.
pub larger_budget : (a b : ℕ) (rest : List ℕ) (c : Certificate) → read_file (fixed_text Budget (decimal a) ++ rest) ≡ holds c → a ≤ b → b ≤ most_budget
    → ((n : ℕ) → verdict_of (fixed_text Budget (decimal a) ++ rest) ≡ stopped n → ⊥)
    → verdict_of (fixed_text Budget (decimal b) ++ rest) ≡ verdict_of (fixed_text Budget (decimal a) ++ rest)
unfolding file_of fixed_text row
larger_budget a b rest c r l h moved =
    let (is, w) = (format_exact (budget_line a ++ rest) c).0 r in
    let (value, behind) = cut "budget" (decimal c.budget) (decimal a) _ rest (decimal_LF c.budget) (decimal_LF a) is in
    let same : c.budget ≡ a = decimal_injective c.budget a value in
    let again = (format_exact (budget_line b ++ rest) (rebudget c b)).1 (ap (λ tail. line_with "budget" (decimal b) ++ tail) behind, reformed c b h w) in
    let given = (given_exactly (budget_line a ++ rest) c r (verdict_of (budget_line a ++ rest))).0 refl in
    (given_exactly (budget_line b ++ rest) (rebudget c b) again (verdict_of (budget_line a ++ rest))).1 (means_more c b (omega arith) (verdict_of (budget_line a ++ rest)) given moved)
