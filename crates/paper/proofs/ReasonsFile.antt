-- The reader follows the layout: it refuses by the first of the reasons, and where it gives something there is none.
use mathlib.Core.Path.{◌≡◌, refl, sym, ◌∙◌}
use mathlib.Core.Logic.{◌⊎◌, inl, inr, ◌↔◌}
use mathlib.Core.List.{List, [], ◌∷◌, ◌++◌}
use Prim.Native.Nat.{ℕ, zero, suc, ◌≤◌, ◌<◌}
use Prim.Native.String.{String}
use native.Mathlib.Omega.{arith}
use lib.Dec.{eqb}
use Rattle.paper.specs.Bytes.{bytes, LF}
use Rattle.paper.specs.Certificate.{Kind, Budget, Arities, States, Final, Trans, BadStates, BadFinal, BadTrans, Rules, Merge, row}
use Rattle.paper.specs.Tables.{single_number, transition}
use Rattle.paper.specs.Checked.{Checked, fault, says, ◌>>=◌}
use Rattle.paper.specs.Lines.{after, Said, ended, take_line, checked_line}
use Rattle.paper.specs.Format.{Reading, refused, gave, Reader, go_on, at_line, line_of}
use Rattle.paper.specs.Format
use Rattle.paper.specs.Reasons.{Numbers, Expected, Reason, Opens, Faulty, missing, because}
use Rattle.paper.specs.Layout.{Layout, First}
use Rattle.paper.specs.Layout
use Rattle.paper.proofs.Smallest.{decided}
use Rattle.paper.proofs.Lines.{take_exact, cut}
use Rattle.paper.proofs.LineCount.{Begin, Unbroken, row_plain, letter_plain, begin_here, begin_line, begin_on}
use Rattle.paper.proofs.ReasonsLaws.{Judges, From, judges_fault, judges_says, Only, only_fault, only_says, only_read, reading}
use Rattle.paper.proofs.Reasons.{reason_number, same_numbers, same_transition, number_judges, arities_judges, finals_judges, classes_judges, transition_judges}
use Rattle.paper.proofs.ReasonsSides.{same_term, left_judges, right_judges}

only_after : (ks bs : List ℕ) → Only 3 (after ks bs)
unfolding after
only_after [] bs n e = only_says bs n e
only_after (k ∷ ks) [] n e = only_fault 3 n e
only_after (k ∷ ks) (b ∷ bs) n e = elim (decided (eqb k b)) [
  | inl p ↦ only_after ks bs n (rw (p, after) at e)
  | inr p ↦ only_fault 3 n (rw (p, after) at e)
]

only_ended : (bs : List ℕ) → Only 3 (ended bs)
unfolding ended
only_ended [] n e = only_fault 3 n e
only_ended (b ∷ bs) n e = elim (decided (eqb b LF)) [
  | inl p ↦ only_says (record { what = []; rest = bs }) n (rw (p, ended) at e)
  | inr p ↦ only_read (ended bs) _ (only_ended bs) (λ l. only_says (record { what = b ∷ l.what; rest = l.rest })) n (rw (p, ended) at e)
]

only_take : (key : String) (bs : List ℕ) → Only 3 (take_line key bs)
unfolding take_line
only_take key bs = only_read (after (bytes key ++ bytes "=") bs) _ (only_after (bytes key ++ bytes "=") bs) only_ended

opens_exact : (key : String) (bs : List ℕ) (l : Said (List ℕ)) → (take_line key bs ≡ says l) ↔ Opens key l.what l.rest bs
opens_exact key bs l = (λ e. let (w, f) = (take_exact key bs l).0 e in record { whole = w; no_LF = f }, λ s. (take_exact key bs l).1 (s.whole, s.no_LF))

-- A line is opened in one way.
one_opening : {key : String} {v w r s bs : List ℕ} → Opens key v r bs → Opens key w s bs → (v ≡ w) × (r ≡ s)
one_opening {key} {v} {w} {r} {s} o p = cut key v w r s o.no_LF p.no_LF (o.whole ∙ sym p.whole)

-- A line's refusal has a number from 3 to 11.
pub faulty_number : {key : String} {expected : Expected} {bs : List ℕ} {n : ℕ} → Faulty key expected bs n → (3 ≤ n) × (n ≤ 11)
faulty_number (missing h) = omega arith
faulty_number (because o r) = let (l, h) = reason_number r in omega arith

module _ {X : Type 0} (key : String) {expected : Expected} {Is : List ℕ → X → Type 0} (judge : List ℕ → Checked X)
    (d : (value : List ℕ) → Judges (Is value) (Reason value expected) (judge value)) (bs : List ℕ) where
  -- What the line says, with the bytes behind it.
  abbrev pub Spoken : Said X → Type 0
  Spoken s = (value : List ℕ) × Opens key value s.rest bs × Is value s.what

  value_judges : {value rest : List ℕ} → Opens key value rest bs → (j : Checked X) → Judges (Is value) (Reason value expected) j
      → Judges Spoken (Faulty key expected bs) (j >>= (λ x. says (record { what = x; rest = rest })))
  unfolding ◌>>=◌
  value_judges {value} {rest} o (fault m) g = let s = g.faults m refl in judges_fault m (because o s.itself) (from s.least)
    where
      from : From m (Reason value expected) → From m (Faulty key expected bs)
      from l n (missing h) = absurd (h value rest o)
      from l n (because p r) = let (same, behind) = one_opening p o in l n (rw same at r)
  value_judges {value} {rest} o (says x) g = let (s, clear) = g.speaks x refl in judges_says _ (none_left clear) (value, o, s)
    where
      none_left : ((n : ℕ) → Reason value expected n → ⊥) → (n : ℕ) → Faulty key expected bs n → ⊥
      none_left clear n (missing h) = h value rest o
      none_left clear n (because p r) = let (same, behind) = one_opening p o in clear n (rw same at r)

  -- A line with its key, from its value.
  pub line_judges : Judges Spoken (Faulty key expected bs) (checked_line key judge bs)
  unfolding checked_line
  line_judges =
      reading 3 (take_line key bs) _ (opens_exact key bs) (only_take key bs) (λ n f. (faulty_number f).0) (λ h. missing (λ value rest o. h (record { what = value; rest = rest }) o))
      (λ l o. value_judges o (judge l.what) (d l.what))

-- A line has this fault, or bytes follow the last line.
abbrev pub FaultAt : ℕ → List ℕ → Type 0
FaultAt n rest = ((key : String) × (expected : Expected) × Faulty key expected rest n) ⊎ ((n ≡ 3) × (rest ≡ [] → ⊥))

pub fault_number : {n : ℕ} {rest : List ℕ} → FaultAt n rest → (3 ≤ n) × (n ≤ 11)
fault_number (inl (key, expected, f)) = faulty_number f
fault_number (inr (e, h)) = omega arith

-- The reading is the first refusal of those that may be, or gives what may be given where nothing may be refused.
unfoldable pub Settled : {X : Type 0} → (Reading X → Type 0) → Reading X → Type 0
Settled may (refused n L) = First may n L
Settled may (gave x L rest) = may (gave x L rest) × ((n M : ℕ) → may (refused n M) → ⊥)

-- A reader follows a layout, whose lines are counted by their LFs, and whose reasons stand on its own lines; it gives one thing at most.
pub record Laid {X : Type 0} (A : Layout X) (r : Reader X) : Type 0 where
  pub settles : (number : ℕ) (bs : List ℕ) → Settled (A number bs) (r number bs)
  pub gives : {number L : ℕ} {bs rest : List ℕ} {x : X} → A number bs (gave x L rest) → Begin number bs L rest
  pub refuses : {number L : ℕ} {bs : List ℕ} {n : ℕ} → A number bs (refused n L) → (rest : List ℕ) × Begin number bs L rest × FaultAt n rest
  pub inside : {number L M : ℕ} {bs rest : List ℕ} {x : X} {n : ℕ} → A number bs (gave x L rest) → A number bs (refused n M) → M < L
  pub one : {number L M : ℕ} {bs cs ds : List ℕ} {x y : X} → A number bs (gave x L cs) → A number bs (gave y M ds) → ◌≡◌ {A = Reading X} (gave x L cs) (gave y M ds)

line_settles : {X : Type 0} (key : String) {expected : Expected} (Is : List ℕ → X → Type 0) (number : ℕ) (bs : List ℕ) (j : Checked (Said X))
    → Judges (λ s. (value : List ℕ) × Opens key value s.rest bs × Is value s.what) (Faulty key expected bs) j
    → Settled (Layout.laid_line key expected Is number bs) (at_line number j)
unfolding Layout.laid_line at_line Settled
line_settles key Is number bs (fault m) d = let s = d.faults m refl in record { itself = (refl, s.itself); first = λ n M (e, f). inr (sym e, s.least n f) }
line_settles key Is number bs (says s) d = let (t, clear) = d.speaks s refl in ((refl, t), λ n M (e, f). clear n f)

laid_line_lem : {X : Type 0} (key : String) → Unbroken key → {expected : Expected} {Is : List ℕ → X → Type 0} (judge : List ℕ → Checked X)
    → ((value : List ℕ) → Judges (Is value) (Reason value expected) (judge value)) → ((value : List ℕ) (x y : X) → Is value x → Is value y → x ≡ y)
    → Laid (Layout.laid_line key expected Is) (line_of key judge)
unfolding Layout.laid_line line_of
laid_line_lem key plain {expected} {Is} judge d single = record {
  settles = λ number bs. line_settles key Is number bs _ (line_judges key judge d bs);
  gives = λ (e, (value, o, i)). rw e (begin_line key _ plain o.whole o.no_LF);
  refuses = λ {number = number} {bs = bs} (e, f). (bs, rw e (begin_here number bs), inl (key, expected, f));
  inside = λ (e, t) (d, f). omega arith;
  one = λ {x = x} {y = y} (e, (v, o, i)) (d, (w, p, j)). let (same, behind) = one_opening o p in let equal = single w x y (rw same at i) j in cc;
}

-- What stands behind one thing given stands behind the other.
given_same : {X : Type 0} (P : X → ℕ → List ℕ → Type 0) {x y : X} {L M : ℕ} {cs ds : List ℕ} → ◌≡◌ {A = Reading X} (gave x L cs) (gave y M ds) → P x L cs → P y M ds
given_same P {x} {y} {L} {M} {cs} {ds} e p = let a : x ≡ y = cc in let b : L ≡ M = cc in let c : cs ≡ ds = cc in rw (a, b, c) at p

module _ {X Y : Type 0} {A : Layout X} {B : X → Layout Y} (r : Reader X) (k : X → Reader Y) (a : Laid A r) (b : (x : X) → Laid (B x) (k x)) where
  second_settles : (number : ℕ) (bs : List ℕ) (x : X) (L : ℕ) (cs : List ℕ) → A number bs (gave x L cs) → ((n M : ℕ) → A number bs (refused n M) → ⊥)
      → (q : Reading Y) → Settled (B x L cs) q → Settled (Layout.◌>>=◌ A B number bs) q
  unfolding Layout.◌>>=◌ Settled
  second_settles number bs x L cs s clear (refused n M) f = record {
    itself = inr (x, L, cs, s, f.itself);
    first = λ m N o. elim o [ inl w ↦ absurd (clear m N w) | inr (z, l, ds, u, w) ↦ f.first m N (given_same (λ z l ds. B z l ds (refused m N)) (a.one u s) w) ];
  }
  second_settles number bs x L cs s clear (gave y M ds) (t, free) =
      ((x, L, cs, s, t), λ n N o. elim o [ inl w ↦ clear n N w | inr (z, l, es, u, w) ↦ free n N (given_same (λ z l ds. B z l ds (refused n N)) (a.one u s) w) ])

  first_settles : (number : ℕ) (bs : List ℕ) (q : Reading X) → Settled (A number bs) q → Settled (Layout.◌>>=◌ A B number bs) (go_on q k)
  unfolding Layout.◌>>=◌ Settled go_on
  first_settles number bs (refused n L) f = record {
    itself = inl f.itself;
    first = λ m M o. elim o [ inl w ↦ f.first m M w | inr (x, l, cs, u, w) ↦ let (rest, g, h) = (b x).refuses w in inl (omega (arith, a.inside u f.itself)) ];
  }
  first_settles number bs (gave x L cs) (s, clear) = second_settles number bs x L cs s clear (k x L cs) ((b x).settles L cs)

  -- One part after another.
  laid_on : Laid (Layout.◌>>=◌ A B) (Format.◌>>=◌ r k)
  unfolding Layout.◌>>=◌ Format.◌>>=◌
  laid_on = record {
    settles = λ number bs. first_settles number bs (r number bs) (a.settles number bs);
    gives = λ (x, l, cs, s, t). begin_on (a.gives s) ((b x).gives t);
    refuses = λ o. elim o [ inl w ↦ a.refuses w | inr (x, l, cs, s, w) ↦ let (rest, g, f) = (b x).refuses w in (rest, begin_on (a.gives s) g, f) ];
    inside = λ {M = M} {n = n} (x, l, cs, s, t) o. elim o [
      | inl w ↦ let g = (b x).gives t in omega (arith, a.inside s w)
      | inr (z, m, ds, u, w) ↦ (b x).inside t (given_same (λ z m ds. B z m ds (refused n M)) (a.one u s) w)
    ];
    one = λ {M = M} {ds = ds} {y = y} (x, l, cs, s, t) (z, m, es, u, v). (b x).one t (given_same (λ z m es. B z m es (gave y M ds)) (a.one u s) v);
  }

laid_give : {X : Type 0} (x : X) → Laid (Layout.laid_nothing x) (Format.give x)
unfolding Layout.laid_nothing Format.give Settled
laid_give {X} x = record {
  settles = λ number bs. (refl, λ n M e. let z : ◌≡◌ {A = ℕ} 0 1 = cc in omega arith);
  gives = λ {number = number} {L = L} {bs = bs} {rest = rest} e. let here : number ≡ L = cc in let same : bs ≡ rest = cc in rw (here, same) (begin_here L rest);
  refuses = λ e. let z : ◌≡◌ {A = ℕ} 0 1 = cc in absurd (omega arith);
  inside = λ d e. let z : ◌≡◌ {A = ℕ} 0 1 = cc in absurd (omega arith);
  one = λ d e. cc;
}

-- A settled reading is told by what may be.
pub settled_refused : {X : Type 0} (may : Reading X → Type 0) (r : Reading X) → Settled may r → (n L : ℕ) → (r ≡ refused n L) ↔ First may n L
unfolding Settled
settled_refused {X} may (refused m M) f n L = (λ e. let a : m ≡ n = cc in let b : M ≡ L = cc in rw (← a, ← b) f, λ g. let (a, b) = agree (f.first n L g.itself) (g.first m M f.itself) in cc)
  where
    agree : (M < L) ⊎ ((M ≡ L) × (m ≤ n)) → (L < M) ⊎ ((L ≡ M) × (n ≤ m)) → (m ≡ n) × (M ≡ L)
    agree (inl a) (inl b) = absurd (omega arith)
    agree (inl a) (inr (b, l)) = absurd (omega arith)
    agree (inr (a, k)) (inl b) = absurd (omega arith)
    agree (inr (a, k)) (inr (b, l)) = (omega arith, omega arith)
settled_refused may (gave x M rest) (s, free) n L = (λ e. let z : ◌≡◌ {A = ℕ} 0 1 = cc in absurd (omega arith), λ g. absurd (free n L g.itself))

pub settled_gave : {X : Type 0} {A : Layout X} {r : Reader X} → Laid A r → (number : ℕ) (bs : List ℕ) (x : X) (L : ℕ) (rest : List ℕ)
    → (r number bs ≡ gave x L rest) ↔ (A number bs (gave x L rest) × ((n M : ℕ) → A number bs (refused n M) → ⊥))
unfolding Settled
settled_gave {X} {A} {r} a number bs x L rest = go (r number bs) (a.settles number bs)
  where
    go : (q : Reading X) → Settled (A number bs) q → (q ≡ gave x L rest) ↔ (A number bs (gave x L rest) × ((n M : ℕ) → A number bs (refused n M) → ⊥))
    go (refused n M) f = (λ e. let z : ◌≡◌ {A = ℕ} 0 1 = cc in absurd (omega arith), λ (s, free). absurd (free n M f.itself))
    go (gave y M cs) (t, free) = (λ e. (given_same (λ y M cs. A number bs (gave y M cs)) e t, free), λ (s, f). a.one t s)

-- That many parts.
laid_times_lem : {X : Type 0} {A : Layout X} (n : ℕ) (r : Reader X) → Laid A r → Laid (Layout.laid_times n A) (Format.times n r)
unfolding Layout.laid_times Format.times
laid_times_lem zero r f = laid_give []
laid_times_lem (suc n) r f = laid_on r _ f (λ x. laid_on (Format.times n r) _ (laid_times_lem n r f) (λ xs. laid_give (x ∷ xs)))

-- The end of the file.
laid_end_lem : {X : Type 0} (x : X) → Laid (Layout.laid_end x) (Format.◌>>◌ Format.end (Format.give x))
unfolding Layout.laid_end Format.end Format.◌>>◌ Format.give go_on Settled
laid_end_lem {X} x = record {
  settles = settles;
  gives = λ {number = number} (e, b, r, y). rw (e, b, r) (begin_here number []);
  refuses = λ {number = number} {bs = bs} (e, n, h). (bs, rw e (begin_here number bs), inr (n, h));
  inside = λ (e, b, r, y) (d, n, h). absurd (h b);
  one = λ (e, b, r, y) (d, c, s, z). cc;
}
  where
    settles : (number : ℕ) (bs : List ℕ) → Settled (Layout.laid_end x number bs) (Format.◌>>◌ Format.end (Format.give x) number bs)
    settles number [] = ((refl, refl, refl, refl), λ n M (e, d, h). h refl)
    settles number (b ∷ bs) = record { itself = (refl, refl, λ e. let z : ◌≡◌ {A = ℕ} 0 1 = cc in omega arith); first = λ m M (e, d, h). inr (sym e, omega arith) }

number_laid : (kind : Kind) → Laid (Layout.laid_number kind) (Format.fixed kind single_number)
unfolding Layout.laid_number Format.fixed
number_laid kind = laid_line_lem _ (row_plain kind) _ (λ value. number_judges value kind) (λ value n m v w. let same = same_numbers v w in cc)

same_list : (value ns ms : List ℕ) → Numbers value ns → Numbers value ms → ns ≡ ms
same_list value ns ms v w = same_numbers v w

transition_laid : (key : String) → Unbroken key → (arities : List ℕ) (n : ℕ) → Laid (Layout.laid_transition key arities n) (line_of key (transition arities n))
unfolding Layout.laid_transition
transition_laid key plain arities n = laid_line_lem key plain _ (λ value. transition_judges value arities n) same_transition

rule_laid : (arities : List ℕ) → Laid (Layout.laid_rule arities) (Format.rule arities)
unfolding Layout.laid_rule Format.rule
rule_laid arities =
    laid_on _ _ (laid_line_lem "l" letter_plain.2 _ (left_judges arities) (same_term arities)) (λ l.
    laid_on _ _ (laid_line_lem "r" letter_plain.3 _ (λ value. right_judges arities value l) (same_term arities)) (λ r.
    laid_give _))

-- The reader follows the layout.
pub certificate_laid : Laid Layout.laid_certificate Format.certificate
unfolding Layout.laid_certificate Format.certificate Format.fixed row
certificate_laid =
    laid_on _ _ (number_laid Budget) (λ budget.
    laid_on _ _ (laid_line_lem _ (row_plain Arities) _ arities_judges same_list) (λ arities.
    laid_on _ _ (number_laid States) (λ n.
    laid_on _ _ (laid_line_lem _ (row_plain Final) _ (λ value. finals_judges value Final refl refl refl n) same_list) (λ final.
    laid_on _ _ (number_laid Trans) (λ count.
    laid_on _ _ (laid_times_lem count _ (transition_laid "t" letter_plain.0 arities n)) (λ ts.
    laid_on _ _ (number_laid BadStates) (λ m.
    laid_on _ _ (laid_line_lem _ (row_plain BadFinal) _ (λ value. finals_judges value BadFinal refl refl refl m) same_list) (λ badfinal.
    laid_on _ _ (number_laid BadTrans) (λ badcount.
    laid_on _ _ (laid_times_lem badcount _ (transition_laid "u" letter_plain.1 arities m)) (λ us.
    laid_on _ _ (number_laid Rules) (λ rulecount.
    laid_on _ _ (laid_times_lem rulecount _ (rule_laid arities)) (λ rules.
    laid_on _ _ (laid_line_lem _ (row_plain Merge) _ (λ value. classes_judges value n) same_list) (λ merge.
    laid_end_lem _)))))))))))))
