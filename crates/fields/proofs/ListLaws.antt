-- A list's value by turns: what is handed over after each entry; and that from the start this is `list_of`.
use mathlib.Core.Path.{◌≡◌, refl, sym, ap, ◌∙◌}
use mathlib.Core.Bool.{Bool, true, false, ◌&&◌, ◌||◌, cond, or_assoc, or-false, and-true}
use mathlib.Core.List.{List, [], ◌∷◌}
use Prim.Native.Nat.{ℕ, suc, ◌+◌, ◌≤◌, ◌<◌}
use native.Mathlib.Numerals.{add-one}
use native.Mathlib.Omega.{arith}
use borrow.Author.Tests.{ne_eqb, lt-ltb}
use lib.Dec.{ltb}
use lib.ListN.{length, drop, get_or, set, replicate, length-set}
use Rattle.std.specs.declared.option.Option.TheVariants.{None}
use Rattle.std.specs.declared.result.Result.{Result}
use Rattle.std.specs.declared.result.Result.TheVariants.{Err}
use Rattle.verdicts.specs.declared.refusals.Reason.{Reason}
use Rattle.verdicts.specs.declared.refusals.Reason.TheVariants.{NoValue}
use Rattle.fields.specs.declared.cursor.Cursor.{Cursor}
use Rattle.fields.specs.declared.cursor.Sort.{Sort}
use Rattle.fields.specs.declared.cursor.Sort.TheVariants.{Numbers, Tokens}
use Rattle.fields.specs.declared.lists.Seen.{Seen}
use Rattle.fields.specs.declared.lists.Items.{Items}
use Rattle.fields.specs.Number.{read}
use Rattle.fields.specs.Value.{Value, numbers, not_numbers, with_first, entry_at, entries_from, value_of, sort_kind}
use Rattle.fields.specs.Listed.{exceeds, Limited, any_over, beyond, above, ascending, laid, listed, list_of, seen_none, seen_with, kept, done}
use Rattle.fields.proofs.ValueLaws.{entries_read, entries_fault, after_end, after_lf, after_comma, after_other, value_lf, value_end, value_entries}
use Rattle.fields.proofs.TellLaws.{limited_most, all_within}

-- the state with more entries, and the entries from i on
seen_all : Sort → Seen → List ℕ → Seen
seen_all sort s [] = s
seen_all sort s (v ∷ ns) = seen_all sort (seen_with sort s v) ns

kept_all : List ℕ → ℕ → List ℕ → List ℕ
kept_all items i [] = items
kept_all items i (v ∷ ns) = kept_all (kept items i v) (suc i) ns

-- what is handed over for a value, after what was seen
pub finish : (line : ℕ) → Sort → Seen → List ℕ → Value → Result (Items × Cursor) Reason
finish line sort s items not_numbers = Err NoValue
finish line sort s items (numbers ns at) = done (seen_all sort s ns) (kept_all items s.count ns) (record { at = at; line = line + 1 })

kind_most : (sort : Sort) → sort_kind sort ≤ 1
unfolding sort_kind
kind_most (Numbers f m) = omega arith
kind_most (Tokens s) = omega arith

module _ (line : ℕ) (sort : Sort) (s : Seen) (items : List ℕ) where
  first_then : (v : ℕ) (x : Value) → finish line sort s items (with_first v x) ≡ finish line sort (seen_with sort s v) (kept items s.count v) x
  unfolding finish seen_all kept_all
  first_then v (numbers ns at) = unfold seen_with in (rw (add-one s.count))
  first_then v not_numbers = refl

  module _ (file : List ℕ) (at : ℕ) where
    pub turn_fault : entry_at (sort_kind sort) at (drop at file) ≡ None → finish line sort s items (entries_from (sort_kind sort) 0 0 at (drop at file)) ≡ Err NoValue
    unfolding finish
    turn_fault e = ap (finish line sort s items) (entries_fault (sort_kind sort) (kind_most sort) file at e)

    module _ (v end : ℕ) (e : entry_at (sort_kind sort) at (drop at file) ≡ read v end) where
      pub turn_end : length file ≤ end → finish line sort s items (entries_from (sort_kind sort) 0 0 at (drop at file)) ≡ Err NoValue
      unfolding finish
      turn_end h = ap (finish line sort s items) (entries_read (sort_kind sort) (kind_most sort) file at v end e ∙ after_end (sort_kind sort) file end v h)

      pub turn_lf : end < length file → get_or file end 0 ≡ 10
          → finish line sort s items (entries_from (sort_kind sort) 0 0 at (drop at file))
          ≡ done (seen_with sort s v) (kept items s.count v) (record { at = end + 1; line = line + 1 })
      unfolding finish seen_all kept_all
      turn_lf h l = ap (finish line sort s items) (entries_read (sort_kind sort) (kind_most sort) file at v end e ∙ after_lf (sort_kind sort) file end v h l)

      pub turn_comma : end < length file → get_or file end 0 ≡ 44
          → finish line sort s items (entries_from (sort_kind sort) 0 0 at (drop at file))
          ≡ finish line sort (seen_with sort s v) (kept items s.count v) (entries_from (sort_kind sort) 0 0 (end + 1) (drop (end + 1) file))
      turn_comma h l =
          ap (finish line sort s items) (entries_read (sort_kind sort) (kind_most sort) file at v end e ∙ after_comma (sort_kind sort) file end v h l)
          ∙ first_then v _

      pub turn_other : end < length file → (get_or file end 0 ≡ 10 → ⊥) → (get_or file end 0 ≡ 44 → ⊥)
          → finish line sort s items (entries_from (sort_kind sort) 0 0 at (drop at file)) ≡ Err NoValue
      unfolding finish
      turn_other h l k = ap (finish line sort s items) (entries_read (sort_kind sort) (kind_most sort) file at v end e ∙ after_other (sort_kind sort) file end v h l k)

-- The state by its fields.
and_assoc : (a b c : Bool) → ((a && b) && c) ≡ (a && (b && c))
and_assoc true b c = refl
and_assoc false b c = refl

module _ (sort : Sort) where
  all_count : (ns : List ℕ) (s : Seen) → (seen_all sort s ns).count ≡ s.count + length ns
  unfolding seen_all seen_with
  all_count [] s = omega arith
  all_count (v ∷ ns) s = let h = all_count ns (seen_with sort s v) in omega arith

  all_over : (ns : List ℕ) (s : Seen) → (s.count ≡ 0 → ⊥) → (seen_all sort s ns).over ≡ (s.over || any_over sort ns)
  unfolding seen_all seen_with any_over
  all_over [] s h = sym (or-false s.over)
  all_over (v ∷ ns) s h =
      all_over ns (seen_with sort s v) (λ e. omega arith) ∙ rw (ne_eqb _ _ h) (or_assoc s.over (exceeds sort false v) (any_over sort ns))

  all_ascending : (ns : List ℕ) (s : Seen) → (s.count ≡ 0 → ⊥) → (seen_all sort s ns).ascending ≡ (s.ascending && above s.last ns)
  unfolding seen_all seen_with above
  all_ascending [] s h = sym (and-true s.ascending)
  all_ascending (v ∷ ns) s h =
      all_ascending ns (seen_with sort s v) (λ e. omega arith) ∙ rw (ne_eqb _ _ h) (and_assoc s.ascending (ltb s.last v) (above v ns))

  start_count : (ns : List ℕ) → (seen_all sort seen_none ns).count ≡ length ns
  unfolding seen_none
  start_count ns = let h = all_count ns seen_none in omega arith

  start_over : (ns : List ℕ) → (seen_all sort seen_none ns).over ≡ beyond sort ns
  unfolding seen_all seen_none seen_with beyond
  start_over [] = refl
  start_over (v ∷ ns) = all_over ns (seen_with sort seen_none v) (λ e. omega arith)

  start_ascending : (ns : List ℕ) → (seen_all sort seen_none ns).ascending ≡ ascending ns
  unfolding seen_all seen_none seen_with ascending
  start_ascending [] = refl
  start_ascending (v ∷ ns) = all_ascending ns (seen_with sort seen_none v) (λ e. omega arith)

-- The entries: bytes laid over the array.
kept_tail : (x : ℕ) (l : List ℕ) (i v : ℕ) → kept (x ∷ l) (suc i) v ≡ x ∷ kept l i v
unfolding kept
kept_tail x l i v = go (ltb v 256)
  where
    go : (t : Bool) → cond t (set (x ∷ l) (suc i) v) (x ∷ l) ≡ x ∷ cond t (set l i v) l
    go true = refl
    go false = refl

kept_nil : (i v : ℕ) → ◌≡◌ {A = List ℕ} (kept [] i v) []
unfolding kept
kept_nil i v = go (ltb v 256)
  where
    go : (t : Bool) → ◌≡◌ {A = List ℕ} (cond t (set [] i v) []) []
    go true = refl
    go false = refl

keep_tail : (x : ℕ) (l : List ℕ) (i : ℕ) (ns : List ℕ) → kept_all (x ∷ l) (suc i) ns ≡ x ∷ kept_all l i ns
unfolding kept_all
keep_tail x l i [] = refl
keep_tail x l i (v ∷ ns) = rw (kept_tail x l i v) (keep_tail x (kept l i v) (suc i) ns)

keep_nil : (i : ℕ) (ns : List ℕ) → ◌≡◌ {A = List ℕ} (kept_all [] i ns) []
unfolding kept_all
keep_nil i [] = refl
keep_nil i (v ∷ ns) = rw (kept_nil i v) (keep_nil (suc i) ns)

kept_byte : (z : ℕ) (zs : List ℕ) (v : ℕ) → v < 256 → kept (z ∷ zs) 0 v ≡ v ∷ zs
unfolding kept
kept_byte z zs v h = rw (lt-ltb v 256 h)

keep_laid : (ns zs : List ℕ) → ((i : ℕ) → get_or ns i 0 ≤ 255) → kept_all zs 0 ns ≡ laid ns zs
unfolding laid kept_all
keep_laid [] [] h = refl
keep_laid [] (z ∷ zs) h = refl
keep_laid (v ∷ ns) [] h = rw (kept_nil 0 v) (keep_nil 1 ns)
keep_laid (v ∷ ns) (z ∷ zs) h =
    rw (kept_byte z zs v (omega (arith, h 0))) (keep_tail v zs 0 ns ∙ ap (λ (l : List ℕ). v ∷ l) (keep_laid ns zs (λ i. h (suc i))))

pub finish_is : (line : ℕ) (sort : Sort) → Limited sort → (x : Value) → finish line sort seen_none (replicate 64 0) x ≡ list_of line sort x
unfolding finish list_of listed done seen_none
finish_is line sort l not_numbers = refl
finish_is line sort l (numbers ns at) = go (beyond sort ns) refl
  where
    go : (t : Bool) → beyond sort ns ≡ t → finish line sort seen_none (replicate 64 0) (numbers ns at) ≡ list_of line sort (numbers ns at)
    go true p = rw (start_over sort ns, p, done, list_of)
    go false p =
        rw (start_over sort ns, p, done, list_of)
        (rw (start_count sort ns, start_ascending sort ns, keep_laid ns (replicate 64 0) (all_within sort 255 (limited_most sort l) ns p)))

-- The whole value.
module _ (line : ℕ) (sort : Sort) (file : List ℕ) (at : ℕ) where
  pub list_end : length file ≤ at → list_of line sort (value_of (sort_kind sort) at (drop at file)) ≡ Err NoValue
  unfolding list_of
  list_end h = ap (list_of line sort) (value_end (sort_kind sort) file at h)

  pub list_empty : at < length file → get_or file at 0 ≡ 10
      → list_of line sort (value_of (sort_kind sort) at (drop at file)) ≡ done seen_none (replicate 64 0) (record { at = at + 1; line = line + 1 })
  unfolding list_of listed done seen_none beyond ascending laid
  list_empty h e = ap (list_of line sort) (value_lf (sort_kind sort) file at h e)

  pub list_entries : at < length file → (get_or file at 0 ≡ 10 → ⊥)
      → list_of line sort (value_of (sort_kind sort) at (drop at file)) ≡ list_of line sort (entries_from (sort_kind sort) 0 0 at (drop at file))
  list_entries h e = ap (list_of line sort) (value_entries (sort_kind sort) file at h e)

pub with_count : (sort : Sort) (s t : Seen) (v : ℕ) → t ≡ seen_with sort s v → t.count ≡ s.count + 1
unfolding seen_with
with_count sort s t v e = ap (λ (x : Seen). x.count) e

pub none_count : (t : Seen) → t ≡ seen_none → t.count ≡ 0
unfolding seen_none
none_count t e = ap (λ (x : Seen). x.count) e

pub kept_length : (items : List ℕ) (i v : ℕ) → length (kept items i v) ≡ length items
unfolding kept
kept_length items i v = go (ltb v 256)
  where
    go : (t : Bool) → length (cond t (set items i v) items) ≡ length items
    go true = length-set items i v
    go false = refl
