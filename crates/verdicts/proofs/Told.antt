-- An answer of the code is fixed by what it says: two that say the same are equal.
use mathlib.Core.Path.{◌≡◌, refl, sym, ap, ◌∙◌}
use mathlib.Core.List.{List, [], ◌∷◌}
use Prim.Native.Nat.{ℕ, zero, suc, ◌<◌, ◌≤◌}
use native.Mathlib.Omega.{arith}
use native.Mathlib.Decide.{ℕ_discrete}
use borrow.Author.Tests.{eq-eqb, ne_eqb}
use lib.ListN.{get_or}
use Rattle.std.specs.Prelude.{IfOk}
use Rattle.std.proofs.Math.Option.{Option as Maybe}
use Rattle.std.specs.declared.option.Option.{Option}
use Rattle.std.specs.declared.option.Option.TheVariants.{None, Some}
use Rattle.std.specs.declared.result.Result.{Result}
use Rattle.std.specs.declared.result.Result.TheVariants.{Ok, Err}
use Rattle.paper.specs.Meaning.{Sharing as PaperSharing, Asked}
use Rattle.verdicts.specs.declared.refusals.Reason.{Reason}
use Rattle.verdicts.specs.declared.refusals.Reason.TheVariants.{ShortBuffer, TooLong, NoLine, NoValue, OutOfRange, WrongCount, Unordered, NoTerm, LeftVariables, UnknownVariable, Misnumbered}
use Rattle.verdicts.specs.declared.refusals.Refusal.{Refusal}
use Rattle.verdicts.specs.declared.critical_pair.CriticalPair.{CriticalPair}
use Rattle.verdicts.specs.declared.FinalPair.{FinalPair}
use Rattle.verdicts.specs.declared.Closure.{Closure}
use Rattle.verdicts.specs.declared.Closure.TheVariants.{Critical, Closed, Stopped}
use Rattle.verdicts.specs.declared.Verdict.{Verdict}
use Rattle.verdicts.specs.Refused.{number, reason_of, said_line, line_of, refusal_of, asked}
use Rattle.verdicts.specs.Said.{class_then, classes_of, said, said_sharing, said_closure, Ended, EndedIn, EndedVerdict}

-- A class number, or 255, is what stands first of its list ..
first_class : (x : ℕ) (xs : List ℕ) → get_or (class_then x xs) 0 255 ≡ x
unfolding class_then
first_class x xs = elim (ℕ_discrete x 255) [ yes e ↦ rw (eq-eqb x 255 e, get_or) (sym e) | no n ↦ rw (ne_eqb x 255 n, get_or) ]

-- .. and the later ones stand behind it; behind 255 there is nothing.
later_class : (x : ℕ) (xs : List ℕ) (i : ℕ) (y : ℕ) → get_or xs i 255 ≡ y → (x ≡ 255 → y ≡ 255) → get_or (class_then x xs) (suc i) 255 ≡ y
unfolding class_then
later_class x xs i y e h = elim (ℕ_discrete x 255) [ yes f ↦ rw (eq-eqb x 255 f, get_or) (sym (h f)) | no n ↦ rw (ne_eqb x 255 n, get_or) e ]

-- A class number that is not 255 stands before what stands behind it.
pub shown_class : (x : ℕ) (xs ys : List ℕ) → x < 255 → xs ≡ ys → class_then x xs ≡ x ∷ ys
unfolding class_then
shown_class x xs ys h e = rw (ne_eqb x 255 (λ e. omega arith), class_then) (ap (λ (l : List ℕ). x ∷ l) e)

-- The class numbers of a critical pair are those of its list, and 255 behind its end.
pub record ClassesAre (p : CriticalPair) : Type 0 where
  pub x0_is : get_or (classes_of p) 0 255 ≡ p.x0
  pub x1_is : get_or (classes_of p) 1 255 ≡ p.x1
  pub x2_is : get_or (classes_of p) 2 255 ≡ p.x2
  pub x3_is : get_or (classes_of p) 3 255 ≡ p.x3

pub classes_are : (p : CriticalPair) → Ended p → ClassesAre p
unfolding classes_of
classes_are p e = record {
  x0_is = first_class p.x0 _;
  x1_is = later_class p.x0 _ 0 p.x1 (first_class p.x1 _) e.after_x0;
  x2_is = later_class p.x0 _ 1 p.x2 (later_class p.x1 _ 0 p.x2 (first_class p.x2 _) e.after_x1) (λ h. e.after_x1 (e.after_x0 h));
  x3_is =
      later_class p.x0 _ 2 p.x3
      (later_class p.x1 _ 1 p.x3 (later_class p.x2 _ 0 p.x3 (first_class p.x3 []) e.after_x2) (λ h. e.after_x2 (e.after_x1 h)))
      (λ h. e.after_x2 (e.after_x1 (e.after_x0 h)));
}

-- A critical pair whose list ends it is fixed by its rule, its list and its class.
pub one_pair : (p q : CriticalPair) → Ended p → Ended q → p.rule ≡ q.rule → classes_of p ≡ classes_of q → p.class ≡ q.class → p ≡ q
one_pair p q ended ended_too rule xs class =
    let a = classes_are p ended in
    let b = classes_are q ended_too in
    let x0 : p.x0 ≡ q.x0 = sym a.x0_is ∙ (ap (λ ys. get_or ys 0 255) xs ∙ b.x0_is) in
    let x1 : p.x1 ≡ q.x1 = sym a.x1_is ∙ (ap (λ ys. get_or ys 1 255) xs ∙ b.x1_is) in
    let x2 : p.x2 ≡ q.x2 = sym a.x2_is ∙ (ap (λ ys. get_or ys 2 255) xs ∙ b.x2_is) in
    let x3 : p.x3 ≡ q.x3 = sym a.x3_is ∙ (ap (λ ys. get_or ys 3 255) xs ∙ b.x3_is) in
    λ i. record { rule = rule i; x0 = x0 i; x1 = x1 i; x2 = x2 i; x3 = x3 i; class = class i }

-- A reason has its number ..
pub reason_back : (r : Reason) → reason_of (number r) ≡ r
unfolding number reason_of
reason_back ShortBuffer = refl
reason_back TooLong = refl
reason_back NoLine = refl
reason_back NoValue = refl
reason_back OutOfRange = refl
reason_back WrongCount = refl
reason_back Unordered = refl
reason_back NoTerm = refl
reason_back LeftVariables = refl
reason_back UnknownVariable = refl
reason_back Misnumbered = refl

-- .. and each number from 1 to 11 its reason.
pub number_back : (n : ℕ) → 1 ≤ n → n ≤ 11 → number (reason_of n) ≡ n
unfolding number reason_of
number_back zero low high = absurd (omega arith)
number_back (suc zero) low high = refl
number_back (suc (suc zero)) low high = refl
number_back (suc (suc (suc zero))) low high = refl
number_back (suc (suc (suc (suc zero)))) low high = refl
number_back (suc (suc (suc (suc (suc zero))))) low high = refl
number_back (suc (suc (suc (suc (suc (suc zero)))))) low high = refl
number_back (suc (suc (suc (suc (suc (suc (suc zero))))))) low high = refl
number_back (suc (suc (suc (suc (suc (suc (suc (suc zero)))))))) low high = refl
number_back (suc (suc (suc (suc (suc (suc (suc (suc (suc zero))))))))) low high = refl
number_back (suc (suc (suc (suc (suc (suc (suc (suc (suc (suc zero)))))))))) low high = refl
number_back (suc (suc (suc (suc (suc (suc (suc (suc (suc (suc (suc zero))))))))))) low high = refl
number_back (suc (suc (suc (suc (suc (suc (suc (suc (suc (suc (suc (suc n)))))))))))) low high = absurd (omega arith)

-- What says the line is this line.
pub line_back : (line : Option ℕ) → line_of (said_line line) ≡ line
unfolding line_of said_line
line_back None = refl
line_back (Some line) = refl

pub said_back : (line : Maybe ℕ) → said_line (line_of line) ≡ line
unfolding line_of said_line
said_back Maybe.none = refl
said_back (Maybe.some line) = refl

-- A refusal is fixed by its number and its line.
pub refusal_back : (r : Refusal) → refusal_of (number r.reason) (said_line r.line) ≡ r
unfolding refusal_of
refusal_back r = λ i. record { reason = reason_back r.reason i; line = line_back r.line i }

-- The answer to the first question that says s: what says s is this.
abbrev sharing_for : PaperSharing → Option FinalPair
sharing_for (PaperSharing.shared class bad) = Some (record { class = class; bad = bad })
sharing_for PaperSharing.nothing = None

sharing_back : (a : Option FinalPair) → sharing_for (said_sharing a) ≡ a
unfolding said_sharing
sharing_back (Some pair) = refl
sharing_back None = refl

-- Two answers to the first question that say the same are equal.
pub one_sharing : (a b : Option FinalPair) → said_sharing a ≡ said_sharing b → a ≡ b
one_sharing a b e = sym (sharing_back a) ∙ (ap sharing_for e ∙ sharing_back b)

-- The same of a file's: what says s is this.
abbrev sharing_of_file : Asked PaperSharing → Result (Option FinalPair) Refusal
sharing_of_file (Asked.refused number line) = Err (refusal_of number line)
sharing_of_file (Asked.answered s) = Ok (sharing_for s)

sharing_of_file_back : (a : Result (Option FinalPair) Refusal) → sharing_of_file (asked said_sharing a) ≡ a
unfolding asked
sharing_of_file_back (Ok a) = ap Ok (sharing_back a)
sharing_of_file_back (Err r) = ap Err (refusal_back r)

-- Two of a file that say the same are equal.
pub one_sharing_of_file : (a b : Result (Option FinalPair) Refusal) → asked said_sharing a ≡ asked said_sharing b → a ≡ b
one_sharing_of_file a b e = sym (sharing_of_file_back a) ∙ (ap sharing_of_file e ∙ sharing_of_file_back b)

-- Two answers to the second question that say the same are equal.
pub one_closure : (a b : Closure) → EndedIn a → EndedIn b → said_closure a ≡ said_closure b → a ≡ b
unfolding said_closure EndedIn
one_closure (Critical p m) (Critical q n) l r e =
    let pair = one_pair p q l r (cc) (cc) (cc) in
    let count : m ≡ n = cc in
    λ i. Critical (pair i) (count i)
one_closure (Critical p m) (Closed n) l r e = cc
one_closure (Critical p m) (Stopped n) l r e = cc
one_closure (Closed m) (Critical q n) l r e = cc
one_closure (Closed m) (Closed n) l r e = cc
one_closure (Closed m) (Stopped n) l r e = cc
one_closure (Stopped m) (Critical q n) l r e = cc
one_closure (Stopped m) (Closed n) l r e = cc
one_closure (Stopped m) (Stopped n) l r e = cc

-- Two of a file that say the same are equal.
pub one_closure_of_file : (a b : Result Closure Refusal) → IfOk a EndedIn → IfOk b EndedIn → asked said_closure a ≡ asked said_closure b → a ≡ b
unfolding asked
one_closure_of_file (Ok a) (Ok b) l m e = ap Ok (one_closure a b l m cc)
one_closure_of_file (Ok a) (Err s) l m e = cc
one_closure_of_file (Err r) (Ok b) l m e = cc
one_closure_of_file (Err r) (Err s) l m e =
    let same : refusal_of (number r.reason) (said_line r.line) ≡ refusal_of (number s.reason) (said_line s.line) = cc in
    ap Err (sym (refusal_back r) ∙ (same ∙ refusal_back s))

-- Two verdicts that say the same are equal.
pub one_verdict_said : (a b : Verdict) → EndedVerdict a → EndedVerdict b → said a ≡ said b → a ≡ b
unfolding said EndedVerdict
one_verdict_said (Verdict.Unsuitable p) (Verdict.Unsuitable q) l r e =
    let class : p.class ≡ q.class = cc in
    let bad : p.bad ≡ q.bad = cc in
    λ i. Verdict.Unsuitable (record { class = class i; bad = bad i })
one_verdict_said (Verdict.Critical p m) (Verdict.Critical q n) l r e =
    let pair = one_pair p q l r (cc) (cc) (cc) in
    let count : m ≡ n = cc in
    λ i. Verdict.Critical (pair i) (count i)
one_verdict_said (Verdict.Accepted m) (Verdict.Accepted n) l r e = cc
one_verdict_said (Verdict.Stopped m) (Verdict.Stopped n) l r e = cc
one_verdict_said (Verdict.Unsuitable p) (Verdict.Critical q n) l r e = cc
one_verdict_said (Verdict.Unsuitable p) (Verdict.Accepted n) l r e = cc
one_verdict_said (Verdict.Unsuitable p) (Verdict.Stopped n) l r e = cc
one_verdict_said (Verdict.Critical p m) (Verdict.Unsuitable q) l r e = cc
one_verdict_said (Verdict.Critical p m) (Verdict.Accepted n) l r e = cc
one_verdict_said (Verdict.Critical p m) (Verdict.Stopped n) l r e = cc
one_verdict_said (Verdict.Accepted m) (Verdict.Unsuitable q) l r e = cc
one_verdict_said (Verdict.Accepted m) (Verdict.Critical q n) l r e = cc
one_verdict_said (Verdict.Accepted m) (Verdict.Stopped n) l r e = cc
one_verdict_said (Verdict.Stopped m) (Verdict.Unsuitable q) l r e = cc
one_verdict_said (Verdict.Stopped m) (Verdict.Critical q n) l r e = cc
one_verdict_said (Verdict.Stopped m) (Verdict.Accepted n) l r e = cc
