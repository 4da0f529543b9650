-- The entries of a list, one in each turn: what is left comes, after those that were seen, to what all of them come to.
use Rattle.fields.proofs.ListLaws.{finish}
use Rattle.fields.specs.Listed.{list_of}
use Rattle.fields.specs.Value.{entries_from, sort_kind}
use lib.ListN.{length, drop}
use mathlib.Core.Path.{◌≡◌}
use Prim.Native.Nat.{◌≤◌, ◌-◌}
use Rattle.fields.proofs.cursor.Cursor.entries.Given as goal

abbrev pub invariant-loop-value : goal.invariant-loop-value
invariant-loop-value l =
    record {
      inside : l.at ≤ length l.file;
      few : l.seen.count ≤ l.at;
      room : length l.items ≡ 64;
      same :
          finish l.self.line l.sort l.seen l.items (entries_from (sort_kind l.sort) 0 0 l.at (drop l.at l.file))
          ≡ list_of l.self.line l.sort (entries_from (sort_kind l.sort) 0 0 l.from (drop l.from l.file));
    }

abbrev pub decreases-loop-value : goal.decreases-loop-value
decreases-loop-value l =
    length l.file - l.at
