-- Readings of one kind, one after another: what is read so far, and paper's `times` for what is left; and the arrays that they fill.
use mathlib.Core.Path.{◌≡◌, refl, sym, ap, ◌∙◌}
use mathlib.Core.List.{List, [], ◌∷◌, ◌++◌, append_assoc, append-nil}
use Prim.Native.Nat.{ℕ, zero, suc, ◌+◌, ◌*◌, ◌-◌, ◌≤◌, ◌<◌}
use native.Mathlib.Omega.{arith}
use lib.ListN.{length, drop, take, get_or, length-append}
use borrow.Rule.Slice.PartMut.{put_mid}
use Rattle.std.specs.declared.result.Result.TheVariants.{Ok}
use Rattle.theory.specs.Automaton.{Transition}
use Rattle.paper.specs.Limits.{most_states, last_state, most_transitions}
use Rattle.paper.specs.Certificate.{row}
use Rattle.paper.specs.Format.{Reading, refused, gave, Reader, go_on, ◌>>=◌, give, times}
use Rattle.paper.proofs.Spelling.{steps}
use Rattle.verdicts.specs.declared.refusals.Refusal.{Refusal}
use Rattle.fields.specs.declared.cursor.Cursor.{Cursor}
use Rattle.fields.specs.declared.lists.Items.{Items}
use Rattle.fields.specs.declared.arrows.Trans.{Trans}
use Rattle.fields.specs.Padded.{padded}
use Rattle.fields.specs.Line.{kind_of}
use Rattle.fields.specs.Said.{Placed, moved, Unused, FieldLine, WholeList}
use Rattle.fields.proofs.Whole.{padded_length}
use Rattle.blocks.specs.Packed.{row_of, flat, mask_from, packed_rows, table_of}
use Rattle.blocks.specs.Handed.{Went, Stopped, AutomatonKinds}
use Rattle.blocks.specs.declared.automata.TableKinds.{TableKinds}
use Rattle.blocks.specs.declared.automata.TheConstants.{INITIAL, BAD}
use Rattle.blocks.proofs.Chain.{answer_placed, answer_whole, number_range}
use Rattle.blocks.proofs.Arrays.{padded_filled, filled_more, taken_low}

-- As many are read as were wanted.
pub times_length : {X : Type 0} (n : ℕ) (reader : Reader X) (line : ℕ) (bs : List ℕ) {xs : List X} {l : ℕ} {cs : List ℕ} → times n reader line bs ≡ gave xs l cs → length xs ≡ n
unfolding times give ◌>>=◌
times_length zero reader line bs {xs} e = let p : [] ≡ xs = cc in sym (ap length p)
times_length (suc n) reader line bs {xs} e =
    let (x, k, ds, p, q) = steps (reader line bs) _ e in
    let (ys, m, es, i, j) = steps (times n reader k ds) _ q in
    let same : x ∷ ys ≡ xs = cc in
    sym (ap length same) ∙ ap suc (times_length n reader k ds i)

-- ts were read before what r gives
unfoldable pub join_to : {X : Type 0} → List X → Reading (List X) → Reading (List X)
join_to ts (refused n line) = refused n line
join_to ts (gave xs line bs) = gave (ts ++ xs) line bs

join_none : {X : Type 0} (r : Reading (List X)) → join_to [] r ≡ r
unfolding join_to
join_none (refused n line) = refl
join_none (gave xs line bs) = refl

join_cons : {X : Type 0} (ts : List X) (x : X) (r : Reading (List X)) → join_to ts (go_on r (λ xs. give (x ∷ xs))) ≡ join_to (ts ++ (x ∷ [])) r
unfolding join_to go_on give
join_cons ts x (refused n line) = refl
join_cons ts x (gave xs line bs) = ap (λ l. gave l line bs) (sym (append_assoc ts (x ∷ []) xs))

-- i of n are read, from `start` to c, and packed; the others are to be read from c on
pub record Filling {X T : Type 0} (reader : Reader X) (pack : List X → T) (file : List ℕ) (n : ℕ) (start : Cursor) (i : ℕ) (c : Cursor) (packed : T) : Type 0 where
  pub xs : List X
  pub count : length xs ≡ i
  pub packs : packed ≡ pack xs
  pub rest : (m : ℕ) → n ≡ m + i → times n reader start.line (drop start.at file) ≡ join_to xs (times m reader c.line (drop c.at file))
  pub placed : Placed file c

module _ {X T : Type 0} {reader : Reader X} {pack : List X → T} {file : List ℕ} {n : ℕ} {start : Cursor} where
  pub fill_start : {packed : T} → Placed file start → packed ≡ pack [] → Filling reader pack file n start 0 start packed
  fill_start p e =
      record {
        xs = [];
        count = refl;
        packs = e;
        rest = λ m h. let p : n ≡ m = omega arith in rw p (sym (join_none (times m reader start.line (drop start.at file))));
        placed = p;
      }

  module _ {i : ℕ} {c : Cursor} {packed : T} (f : Filling reader pack file n start i c packed) where
    pub fill_more : i < n → {x : X} {d : Cursor} → reader c.line (drop c.at file) ≡ gave x d.line (drop d.at file) → Placed file d
        → {next : T} → ((xs : List X) → length xs ≡ i → packed ≡ pack xs → next ≡ pack (xs ++ (x ∷ []))) → Filling reader pack file n start (i + 1) d next
    unfolding times go_on ◌>>=◌
    fill_more h {x} {d} e p g =
        record {
          xs = f.xs ++ (x ∷ []);
          count = length-append f.xs (x ∷ []) ∙ ap (λ k. k + 1) f.count;
          packs = g f.xs f.count f.packs;
          rest = λ m p. (rw e at (f.rest (suc m) (omega arith))) ∙ join_cons f.xs x (times m reader d.line (drop d.at file));
          placed = p;
        }

    pub fill_stopped : i < n → {r : Refusal} → Stopped (reader c.line (drop c.at file)) r → Stopped (times n reader start.line (drop start.at file)) r
    unfolding times go_on join_to ◌>>=◌
    fill_stopped h s = record { line = s.line; names = s.names; is = rw s.is at (f.rest (suc (n - (i + 1))) (omega arith)) }

    pub fill_end : i ≡ n → Went file pack (times n reader start.line (drop start.at file)) c packed
    unfolding times give join_to
    fill_end e =
        record { what = f.xs; is = f.rest 0 (omega arith) ∙ ap (λ l. gave l c.line (drop c.at file)) (append-nil f.xs); packs = f.packs; placed = f.placed }

-- The bytes of things, one after another.
module _ {X : Type 0} (f : X → List ℕ) where
  pub flat_append : (xs ys : List X) → flat f (xs ++ ys) ≡ flat f xs ++ flat f ys
  unfolding flat
  flat_append [] ys = refl
  flat_append (x ∷ xs) ys = ap (λ l. f x ++ l) (flat_append xs ys) ∙ sym (append_assoc (f x) (flat f xs) (flat f ys))

  pub flat_length : (k : ℕ) → ((x : X) → length (f x) ≡ k) → (xs : List X) → length (flat f xs) ≡ k * length xs
  unfolding flat
  flat_length k h [] = omega arith
  flat_length k h (x ∷ xs) = length-append (f x) (flat f xs) ∙ omega (arith, h x, flat_length k h xs)

  pub flat_one : (x : X) → flat f (x ∷ []) ≡ f x
  unfolding flat
  flat_one x = append-nil (f x)

pub row_length : (t : Transition) → length (row_of t) ≡ 5
unfolding row_of
row_length t = ap suc (length-append (padded 3 t.arguments) (t.target ∷ []) ∙ ap (λ k. k + 1) (padded_length 3 t.arguments))

-- the bytes of a transition
row_bytes : (ar : List ℕ) (t : Trans) → Unused ar t → row_of (moved ar t) ≡ t.symbol ∷ (t.a ∷ (t.b ∷ (t.c ∷ (t.target ∷ []))))
unfolding row_of moved
row_bytes ar t w = rw w

-- one more transition
pub row_more : (ar : List ℕ) (t : Trans) → Unused ar t → (rows : List ℕ) (i k : ℕ) (bytes : List ℕ) → bytes ≡ t.symbol ∷ (t.a ∷ (t.b ∷ (t.c ∷ (t.target ∷ []))))
    → i < most_transitions → k ≡ 5 → (ts : List Transition) → length ts ≡ i → rows ≡ packed_rows ts → put_mid (5 * i) k rows bytes ≡ packed_rows (ts ++ (moved ar t ∷ []))
unfolding packed_rows
row_more ar t w rows i k bytes e l five ts n p =
    let more : bytes ≡ flat row_of (moved ar t ∷ []) = e ∙ sym (flat_one row_of (moved ar t) ∙ row_bytes ar t w) in
    let many : length bytes ≡ k = ap length e ∙ sym five in
    rw (p, padded_filled 640 (flat row_of ts), padded_filled 640 (flat row_of (ts ++ (moved ar t ∷ []))), flat_append row_of ts (moved ar t ∷ []), ← more)
    (filled_more 0 640 (flat row_of ts) bytes (5 * i) k (flat_length row_of 5 row_length ts ∙ ap (λ k. 5 * k) n) many (omega arith))

-- A's lines and B's are an automaton's.
pub initial_kinds : AutomatonKinds INITIAL
unfolding row
initial_kinds =
    record { fixed = (tt, tt, tt); states_bound = (refl, refl); final = record { least = refl; greatest = refl; empty = refl }; most_trans = refl; entries = refl }

pub bad_kinds : AutomatonKinds BAD
unfolding row
bad_kinds =
    record { fixed = (tt, tt, tt); states_bound = (refl, refl); final = record { least = refl; greatest = refl; empty = refl }; most_trans = refl; entries = refl }

-- What an automaton's lines leave: numbers in their ranges, and states.
module _ (kinds : TableKinds) (k : AutomatonKinds kinds) {file : List ℕ} (c : Cursor) {d : Cursor} {v : ℕ} where
  pub states_within : FieldLine file (kind_of kinds.states) c (Ok (v, d)) → (1 ≤ v) × (v ≤ most_states)
  states_within l = let r = number_range (kind_of kinds.states) c l in let p = k.states_bound in (omega (arith, r.0, p.0), omega (arith, r.1, p.1))

  pub count_within : FieldLine file (kind_of kinds.count) c (Ok (v, d)) → v ≤ most_transitions
  count_within l = omega (arith, (number_range (kind_of kinds.count) c l).1, k.most_trans)

pub finals_low : (it : Items) → WholeList last_state it → (i : ℕ) → get_or (take it.count it.items) i 0 < 64
finals_low it w i = omega (arith, taken_low last_state it.items it.count w.low i)

pub ruleset table_lines = (answer_placed, answer_whole, states_within, count_within, finals_low)

-- an automaton whose transitions were read
pub table_went : {file : List ℕ} {reading : Reading (List Transition)} {c : Cursor} {rows : List ℕ} (states n mask : ℕ) (final : List ℕ) → mask ≡ mask_from 0 final
    → (w : Went file packed_rows reading c rows) → length w.what ≡ n
    → Went file table_of (give (record { states = states; transitions = w.what; final = final }) c.line (drop c.at file)) c (record { states = states; finals = mask; count = n; rows = rows })
unfolding give table_of
table_went states n mask final m w e =
    record {
      what = record { states = states; transitions = w.what; final = final };
      is = refl;
      packs = λ i. record { states = states; finals = m i; count = sym e i; rows = w.packs i };
      placed = w.placed;
    }
