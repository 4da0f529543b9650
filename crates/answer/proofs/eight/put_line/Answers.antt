-- `put_line`: the key, the value and LF are put one after the other.
use mathlib.Core.List.{List, [], ◌∷◌, ◌++◌}
use mathlib.Core.Path.{refl, ◌∙◌}
use Prim.Native.Nat.{ℕ}
use lib.ListN.{length-set}
use native.Mathlib.Omega.{arith}
use Rattle.paper.specs.Bytes.{LF}
use Rattle.writing.specs.Put.{Put, Room}
use Rattle.writing.proofs.Laws.{◌then◌, stored, begun, room, go_on}
use Rattle.answer.proofs.eight.put_line.Goals as goal

-- Behind the key and the value there is room for LF.
room_for_LF : {d e f key value : List ℕ} {at n m : ℕ} → Room d at (key ++ (value ++ (LF ∷ []))) → Put d at key n e → Put e n value m f → Room f m (LF ∷ [])
room_for_LF h p q = room (go_on (go_on (begun h) _ refl p) _ refl q) [] refl

pub put_bytes-a-requires : goal.put_bytes-a-requires
put_bytes-a-requires c = room (begun c.requires) _ refl

pub put_shown-b-requires : goal.put_shown-b-requires
put_shown-b-requires c = room (go_on (begun c.requires) _ refl c.put_bytes-a.ensures) _ refl

pub bounds-out-b : goal.bounds-out-b
bounds-out-b c = omega (arith, room_for_LF c.requires c.put_bytes-a.ensures c.put_shown-b.ensures)

pub overflow_add-result : goal.overflow_add-result
overflow_add-result c = omega (arith, c.put_bytes-a.auto, c.put_shown-b.auto, room_for_LF c.requires c.put_bytes-a.ensures c.put_shown-b.ensures)

pub shape_of-out : goal.shape_of-out
shape_of-out c = simp length-set (c.put_shown-b.auto.out ∙ c.put_bytes-a.auto.out)

pub returns : goal.returns
returns c =
    c.put_bytes-a.ensures
    then c.put_shown-b.ensures
    then stored c.put_shown-b.new.out c.put_shown-b.result 10
