-- A whole line of the byte machine is paper's: the key, the value up to the LF, its entries, and the range of each.
use mathlib.Core.Path.{◌≡◌, refl, sym, ap, ◌∙◌}
use mathlib.Core.Bool.{Bool, true, false, not}
use mathlib.Core.Logic.{inl, inr}
use mathlib.Core.List.{List, [], ◌∷◌}
use Prim.Native.Nat.{ℕ, ◌+◌}
use native.Mathlib.Omega.{arith}
use borrow.Author.Tests.{eq-eqb, ne_eqb, eqb-true, eqb-false}
use lib.Dec.{eqb}
use lib.ListN.{drop}
use Rattle.paper.specs.Checked.{Checked, fault, says, ◌>>=◌, ◌>>◌, ◌unless◌}
use Rattle.paper.specs.Lines.{Said, after, ended}
use Rattle.paper.specs.Fields.{each, entries, number}
use Rattle.paper.specs.Tables.{numbers as numbers_in_4, numbers_of}
use Rattle.paper.proofs.Smallest.{decided}
use Rattle.paper.proofs.Checked.{silent, parts}
use Rattle.paper.proofs.Lines.{entries_sound}
use Rattle.paper.specs.Certificate.{Row}
use Rattle.std.specs.declared.option.Option.{Option}
use Rattle.std.specs.declared.option.Option.TheVariants.{Some, None}
use Rattle.verdicts.specs.declared.refusals.Reason.{Reason}
use Rattle.verdicts.specs.Refused.{number as reason_number}
use Rattle.fields.specs.declared.cursor.Sort.{Sort}
use Rattle.fields.specs.declared.cursor.Sort.TheVariants.{Numbers, Tokens}
use Rattle.fields.specs.Value.{Value, numbers, not_numbers, back, code, sort_kind, value_of}
use Rattle.fields.specs.Line.{after_key, has_end, ending, open_at, key_of}
use Rattle.fields.specs.Listed.{beyond}
use Rattle.fields.specs.Lines.{Line, good, bad, numbers_in, line_in, entry_line, checked}
use Rattle.fields.proofs.Readings.{keyed}
use Rattle.fields.proofs.Digits.{read_on, read_number}
use Rattle.fields.proofs.Entries.{said_value, found, headed, ended_has, ended_not, entries_said}
use Rattle.fields.proofs.Rest.{next_rest}

-- A list line as the byte machine has it, of any length.
unfoldable pub said_line : List ℕ → Line → Checked (Said (List ℕ))
said_line file (good ns at) = says (record { what = ns; rest = drop at file })
said_line file (bad r) = fault (reason_number r)

-- The key.
unfoldable pub said_opened : List ℕ → Option ℕ → Checked (List ℕ)
said_opened file (Some c) = says (drop c file)
said_opened file None = fault 3

after_said : (file key s : List ℕ) (at : ℕ) → drop at file ≡ s → said_opened file (after_key key at s) ≡ after key s
unfolding after_key after said_opened
after_said file [] s at d = ap says d
after_said file (k ∷ ks) [] at d = refl
after_said file (k ∷ ks) (b ∷ s) at d = elim (decided (eqb b k)) [
  | inl p ↦ rw (p, eq-eqb k b (sym (eqb-true b k p)), after_key, after) (after_said file ks s (at + 1) (next_rest file at b s d))
  | inr p ↦ rw (p, ne_eqb k b (λ e. eqb-false b k p (sym e)), after_key, after)
]

-- A line that is there: its value, and what is judged of it.
pub record There {X : Type 0} (key : List ℕ) (judge : List ℕ → Checked X) (file : List ℕ) (at c : ℕ) : Type 0 where
  pub line : (Said (List ℕ))
  pub ends : ended (drop c file) ≡ says line
  pub is : keyed key judge (drop at file) ≡ found line.rest (judge line.what)

module _ {X : Type 0} (key : List ℕ) (judge : List ℕ → Checked X) (file : List ℕ) (at : ℕ) where
  ending_missing : (o : Option ℕ) → said_opened file o ≡ after key (drop at file) → ending file o ≡ None → keyed key judge (drop at file) ≡ fault 3
  unfolding ending said_opened keyed ◌>>=◌
  ending_missing None e h = rw (← e)
  ending_missing (Some c) e h = elim (decided (has_end (drop c file))) [
    | inl p ↦ let w : Some c ≡ None = rw (p, ending) at h in let z : ◌≡◌ {A = ℕ} 0 1 = cc in absurd (omega arith)
    | inr p ↦ rw (← e, ended_not (drop c file) p)
  ]

  pub keyed_missing : open_at key file at ≡ None → keyed key judge (drop at file) ≡ fault 3
  keyed_missing h = ending_missing (after_key key at (drop at file)) (after_said file key (drop at file) at refl) h

  ending_at : (o : Option ℕ) (c : ℕ) → said_opened file o ≡ after key (drop at file) → ending file o ≡ Some c → There key judge file at c
  unfolding ending said_opened keyed found ◌>>=◌
  ending_at None c e h = let z : ◌≡◌ {A = ℕ} 0 1 = cc in absurd (omega arith)
  ending_at (Some d) c e h = elim (decided (has_end (drop d file))) [
    | inr p ↦ let w : None ≡ Some c = rw (p, ending) at h in let z : ◌≡◌ {A = ℕ} 0 1 = cc in absurd (omega arith)
    | inl p ↦
        let w : Some d ≡ Some c = rw (p, ending) at h in
        let same : d ≡ c = cc in
        let (l, f) = ended_has (drop d file) p in
        rw (← same) (record { line = l; ends = f; is = rw (← e, f) })
  ]

  pub keyed_at : (c : ℕ) → open_at key file at ≡ Some c → There key judge file at c
  keyed_at c h = ending_at (after_key key at (drop at file)) c (after_said file key (drop at file) at refl) h

-- The entries of a value, as the machine reads them; an empty value has none where it may be empty.
unfoldable pub values : ℕ → List ℕ → Checked (List ℕ)
values y value = each (read_on y 0 0) (entries value)

unfoldable pub values_of : ℕ → Bool → List ℕ → Checked (List ℕ)
values_of y false value = values y value
values_of y true [] = says []
values_of y true (b ∷ bs) = values y (b ∷ bs)

-- 5: an entry is past its limit.
unfoldable pub in_range : Sort → List ℕ → Checked (List ℕ)
in_range sort ns = 5 unless not (beyond sort ns) >> says ns

unfoldable pub ranged : Sort → Bool → List ℕ → Checked (List ℕ)
ranged sort empty value = values_of (sort_kind sort) empty value >>= in_range sort

headed_each : (f : List ℕ → Checked ℕ) (es : List (List ℕ)) (e : List ℕ) (rest : List (List ℕ)) → es ≡ e ∷ rest → headed f f es ≡ each f es
unfolding headed each
headed_each f es e rest h = rw h

headed_some : (f g : List ℕ → Checked ℕ) (es : List (List ℕ)) → headed f g es ≡ says [] → ⊥
unfolding headed
headed_some f g [] h = silent h
headed_some f g (e ∷ es) h =
    let (w, p, q) = parts (f e) _ h in
    let (ws, r, t) = parts (each g es) _ q in
    let z : ◌≡◌ {A = ℕ} 0 1 = cc in omega arith

each_some : (f : List ℕ → Checked ℕ) (value : List ℕ) → each f (entries value) ≡ says [] → ⊥
each_some f value h = let i = entries_sound value in headed_some f f (entries value) (headed_each f (entries value) i.first i.others i.are ∙ h)

-- A value with a byte in it.
line_numbers : (file : List ℕ) (sort : Sort) (empty : Bool) (x : Value) (behind : List ℕ) (j : Checked (List ℕ)) → (j ≡ says [] → ⊥)
    → said_value file x ≡ found behind j → said_line file (numbers_in sort empty x) ≡ found behind (j >>= in_range sort)
unfolding said_value found numbers_in said_line reason_number ◌>>=◌
line_numbers file sort empty not_numbers behind (fault n) h e = e
line_numbers file sort empty not_numbers behind (says ns) h e = absurd (silent e)
line_numbers file sort empty (numbers ns at) behind (fault n) h e = absurd (silent (sym e))
line_numbers file sort empty (numbers [] at) behind (says ms) h e =
    let same : ◌≡◌ {A = Said (List ℕ)} (record { what = []; rest = drop at file }) (record { what = ms; rest = behind }) = cc in
    absurd (h (ap says (sym (ap (λ (s : Said (List ℕ)). s.what) same))))
line_numbers file sort empty (numbers (v ∷ ns) at) behind (says ms) h e =
    let same : ◌≡◌ {A = Said (List ℕ)} (record { what = v ∷ ns; rest = drop at file }) (record { what = ms; rest = behind }) = cc in
    let p : v ∷ ns ≡ ms = ap (λ (s : Said (List ℕ)). s.what) same in
    let q : drop at file ≡ behind = ap (λ (s : Said (List ℕ)). s.rest) same in
    rw (← p, ← q) (elim (decided (beyond sort (v ∷ ns))) [
      | inl b ↦ unfold in_range ◌unless◌ ◌>>◌ in (rw (b, numbers_in))
      | inr b ↦ unfold in_range ◌unless◌ ◌>>◌ in (rw (b, numbers_in))
    ])

pub values_some : (y : ℕ) (value : List ℕ) → values y value ≡ says [] → ⊥
unfolding values
values_some y value h = each_some (read_on y 0 0) value h

-- The value alone, before any further test.
pub value_found : (file s : List ℕ) (y at : ℕ) (l : (Said (List ℕ))) → back y ≡ y → drop at file ≡ s → ended s ≡ says l → said_value file (value_of y at s) ≡ found l.rest (values_of y true l.what)
unfolding ended
value_found file [] y at l k d e = absurd (silent e)
value_found file (b ∷ s) y at l k d e = elim (decided (eqb b 10)) [
  | inl h ↦
      let g = rw (h, ended) at e in
      let same : record { what = []; rest = s } ≡ l = cc in
      rw (← same) (unfold value_of said_value values_of found ◌>>=◌ in (rw (h, value_of) (rw (next_rest file at b s d))))
  | inr h ↦
      let (p, q, g) = parts (ended s) _ (rw (h, ended) at e) in
      let same : record { what = b ∷ p.what; rest = p.rest } ≡ l = cc in
      let i = entries_sound (b ∷ p.what) in
      let u = rw (← same) at (entries_said file (b ∷ s) y 0 0 at l d e) in
      let w = rw (k, headed_each (read_on y 0 0) (entries (b ∷ p.what)) i.first i.others i.are) at u in
      rw (← same) (unfold value_of values_of values in (rw (h, value_of) w))
]

-- What a value up to its LF comes to, where it may be empty or not.
module _ (file : List ℕ) (sort : Sort) where
  value_line : (empty : Bool) (value behind : List ℕ) (x : Value) → said_value file x ≡ found behind (values_of (sort_kind sort) true value)
      → said_line file (numbers_in sort empty x) ≡ found behind (ranged sort empty value)
  unfolding said_value said_line reason_number numbers_in ranged values_of values each entries read_on in_range beyond found ◌unless◌ ◌>>◌ ◌>>=◌
  value_line empty [] behind not_numbers e = absurd (silent e)
  value_line true [] behind (numbers [] at) e = cc
  value_line false [] behind (numbers [] at) e = refl
  value_line empty [] behind (numbers (v ∷ ns) at) e =
      let same : ◌≡◌ {A = Said (List ℕ)} (record { what = v ∷ ns; rest = drop at file }) (record { what = []; rest = behind }) = cc in
      let none : v ∷ ns ≡ [] = ap (λ (s : Said (List ℕ)). s.what) same in
      let z : ◌≡◌ {A = ℕ} 0 1 = cc in absurd (omega arith)
  value_line true (b ∷ bs) behind x e = line_numbers file sort true x behind _ (values_some (sort_kind sort) (b ∷ bs)) e
  value_line false (b ∷ bs) behind x e = line_numbers file sort false x behind _ (values_some (sort_kind sort) (b ∷ bs)) e

  same_kind : (sort : Sort) → back (sort_kind sort) ≡ sort_kind sort
  unfolding sort_kind
  same_kind (Numbers f m) = refl
  same_kind (Tokens s) = refl

  opened_said : (r : Row) (at : ℕ) (o : Option ℕ) → open_at (key_of r) file at ≡ o
      → said_line file (line_in sort r.empty file o) ≡ keyed (key_of r) (ranged sort r.empty) (drop at file)
  unfolding line_in said_line reason_number
  opened_said r at None p = sym (keyed_missing (key_of r) (ranged sort r.empty) file at p)
  opened_said r at (Some c) p =
      let t = keyed_at (key_of r) (ranged sort r.empty) file at c p in
      let v = value_found file (drop c file) (sort_kind sort) c t.line (same_kind sort) refl t.ends in
      value_line r.empty t.line.what t.line.rest _ v ∙ sym t.is

  -- A line of entries, each within its limit.
  pub line_said : (r : Row) (at : ℕ) → said_line file (entry_line sort r file at) ≡ keyed (key_of r) (ranged sort r.empty) (drop at file)
  line_said r at = opened_said r at (open_at (key_of r) file at) refl

-- Numbers are paper's numbers.
coded_zero : (j : Checked ℕ) → (j >>= (λ n. says (code 0 n))) ≡ j
unfolding ◌>>=◌ code
coded_zero (fault n) = refl
coded_zero (says n) = refl

each_same : (f g : List ℕ → Checked ℕ) → ((e : List ℕ) → f e ≡ g e) → (es : List (List ℕ)) → each f es ≡ each g es
unfolding each
each_same f g h [] = refl
each_same f g h (e ∷ es) = rw (h e, each_same f g h es)

pub values_numbers : (value : List ℕ) → values 0 value ≡ numbers_in_4 value
unfolding values numbers_in_4
values_numbers value = each_same (read_on 0 0 0) number (λ e. read_number 0 e (λ z. omega arith) ∙ coded_zero (number e)) (entries value)

pub values_numbers_of : (empty : Bool) (value : List ℕ) → values_of 0 empty value ≡ numbers_of empty value
unfolding values_of numbers_of
values_numbers_of false value = values_numbers value
values_numbers_of true [] = refl
values_numbers_of true (b ∷ bs) = values_numbers (b ∷ bs)

-- A further check of a line.
unfoldable pub checking : (List ℕ → Option Reason) → List ℕ → Checked (List ℕ)
checking k ns = elim (k ns) [ None ↦ says ns | Some r ↦ fault (reason_number r) ]

-- Go on with what a line said.
unfoldable pub onward : {X Y : Type 0} → (X → Checked Y) → Said X → Checked (Said Y)
onward next s = found s.rest (next s.what)

found_more : {X Y : Type 0} (next : X → Checked Y) (r : List ℕ) (j : Checked X) → (found r j >>= onward next) ≡ found r (j >>= next)
unfolding found onward ◌>>=◌
found_more next r (fault n) = refl
found_more next r (says x) = refl

line_more : {X Y : Type 0} (judge : List ℕ → Checked X) (next : X → Checked Y) (j : Checked (Said (List ℕ)))
    → ((j >>= (λ l. found l.rest (judge l.what))) >>= onward next) ≡ (j >>= (λ l. found l.rest (judge l.what >>= next)))
unfolding ◌>>=◌
line_more judge next (fault n) = refl
line_more judge next (says l) = found_more next l.rest (judge l.what)

key_more : {X Y : Type 0} (judge : List ℕ → Checked X) (next : X → Checked Y) (j : Checked (List ℕ))
    → ((j >>= (λ behind. ended behind >>= (λ l. found l.rest (judge l.what)))) >>= onward next) ≡ (j >>= (λ behind. ended behind >>= (λ l. found l.rest (judge l.what >>= next))))
unfolding ◌>>=◌
key_more judge next (fault n) = refl
key_more judge next (says b) = line_more judge next (ended b)

pub judge_more : {X Y : Type 0} (key : List ℕ) (judge : List ℕ → Checked X) (next : X → Checked Y) (bs : List ℕ) → (keyed key judge bs >>= onward next) ≡ keyed key (λ value. judge value >>= next) bs
unfolding keyed found
judge_more key judge next bs = key_more judge next (after key bs)

said_checked : (file : List ℕ) (k : List ℕ → Option Reason) (l : Line) → said_line file (checked k l) ≡ (said_line file l >>= onward (checking k))
unfolding said_line checked checking onward found ◌>>=◌
said_checked file k (bad r) = refl
said_checked file k (good ns at) = go (k ns) refl
  where
    go : (t : Option Reason) → k ns ≡ t → said_line file (checked k (good ns at)) ≡ (said_line file (good ns at) >>= onward (checking k))
    go None p = rw (p, checked, checking)
    go (Some r) p = rw (p, checked, checking)

pub checked_said : (file : List ℕ) (sort : Sort) (r : Row) (k : List ℕ → Option Reason) (at : ℕ)
    → said_line file (checked k (entry_line sort r file at)) ≡ keyed (key_of r) (λ value. ranged sort r.empty value >>= checking k) (drop at file)
checked_said file sort r k at =
    said_checked file k _
    ∙ ap (λ (j : Checked (Said (List ℕ))). j >>= onward (checking k)) (line_said file sort r at)
    ∙ judge_more (key_of r) (ranged sort r.empty) (checking k) (drop at file)
