-- The tables as they are handed over: the listed arities, and the parts put together.
use mathlib.Core.Path.{◌≡◌, ap}
use mathlib.Core.List.{List}
use Prim.Native.Nat.{ℕ, ◌≤◌}
use native.Mathlib.Omega.{arith}
use lib.ListN.{length, drop, get_or}
use lib.Seq.{length-take-le}
use Rattle.std.specs.Prelude.{Ok}
use Rattle.theory.specs.Automaton.{Automaton}
use Rattle.theory.specs.Rewriting.{Rule}
use Rattle.paper.specs.Certificate.{Kind as PaperKind, row, Arities}
use Rattle.paper.specs.Tables.{numbers_of, number_list, arity_list}
use Rattle.paper.specs.Limits.{most_arity, most_rules, most_symbols}
use Rattle.paper.specs.Format.{Reader, ◌>>=◌, give, fixed}
use Rattle.paper.proofs.Checked.{Says, said, passed, says_so}
use Rattle.paper.proofs.Admitted.{some_numbers, line_read}
use Rattle.fields.specs.declared.cursor.Cursor.{Cursor}
use Rattle.fields.specs.declared.lists.Items.{Items}
use Rattle.fields.specs.Said.{FieldLine, WholeList, said_items, Listing}
use Rattle.fields.proofs.Whole.{padded_length}
use Rattle.tables.specs.declared.Table.{Table}
use Rattle.tables.specs.declared.Rules.{Rules}
use Rattle.blocks.specs.Packed.{table_of, packed_rules, tables_of}
use Rattle.blocks.specs.Handed.{Went}
use Rattle.blocks.proofs.Arrays.{taken_low}
use Rattle.blocks.proofs.Chain.{answer_read, answer_whole, answer_placed, number_range, then_next}
use Rattle.blocks.proofs.Blocks.{initial_kinds, bad_kinds}

-- There is at least one arity.
some_arities : (value : List ℕ) → Says (λ ns. 1 ≤ length ns) (arity_list value)
unfolding arity_list number_list row numbers_of
some_arities value = said _ _ (said _ _ (some_numbers value) (λ ns l. passed 5 _ _ (λ h. says_so _ _ l))) (λ ns l. passed 6 _ _ (λ h. says_so _ _ l))

-- What a signature asks is true of the line of arities.
items_length : {m : ℕ} (it : Items) → WholeList m it → length (said_items it) ≡ it.count
items_length it w = length-take-le it.count it.items (omega (arith, w.few, ap length w.behind, padded_length 64 (said_items it)))

pub listed_symbols : (file : List ℕ) (line : ℕ) (bs : List ℕ) {it : Items} {c : Cursor} → Listing file most_arity line (fixed Arities (λ kind. arity_list) line bs) (Ok (it, c))
    → (1 ≤ length (said_items it)) × (length (said_items it) ≤ most_symbols) × ((k : ℕ) → get_or (said_items it) k 0 ≤ most_arity)
unfolding fixed
listed_symbols file line bs {it} {c} l =
    let w = answer_whole l in (
      line_read arity_list some_arities (row Arities).key line bs (said_items it) c.line (drop c.at file) (answer_read l),
      omega (arith, w.few, items_length it w),
      taken_low 3 it.items it.count w.low,
    )

pub rule_count : {file : List ℕ} (c : Cursor) {d : Cursor} {n : ℕ} → FieldLine file PaperKind.Rules c (Ok (n, d)) → n ≤ most_rules
unfolding row
rule_count c l = (number_range PaperKind.Rules c l).1

-- What the lines before `merge` leave for one another.
pub ruleset opening_lines = (answer_placed, answer_whole, initial_kinds, bad_kinds, listed_symbols, rule_count)

-- The tables of what was read.
pub tables_went : (reader : Reader (List Rule)) (A B : Automaton) {file : List ℕ} {line : ℕ} {bs : List ℕ} {it : Items} {c : Cursor} {initial bad : Table} {rules : Rules} (b m : ℕ) → WholeList m it
    → initial ≡ table_of A → bad ≡ table_of B → Went file packed_rules (reader line bs) c rules
    → Went file tables_of ((reader >>= (λ rs. give (record { budget = b; arities = said_items it; A = A; B = B; rules = rs }))) line bs) c
    (record { budget = b; symbols = it.count; arities = it.items; initial = initial; bad = bad; rules = rules })
unfolding give tables_of
tables_went reader A B {it = it} b m s i j w =
    let many : it.count ≡ length (said_items it) = omega (arith, items_length it s) in
    record {
      what = record { budget = b; arities = said_items it; A = A; B = B; rules = w.what };
      is = then_next reader _ w.is;
      packs = λ k. record { budget = b; symbols = many k; arities = s.behind k; initial = i k; bad = j k; rules = w.packs k };
      placed = w.placed;
    }
