use Prim.Native.Nat.{◌+◌, ◌-◌, ◌*◌}
use mathlib.Core.Path.{◌≡◌}
use Rattle.walk_trees.specs.Slot.{slot_in, SlotsAsk}
use Rattle.walk_trees.proofs.member_in.Given as goal

abbrev pub invariant-loop-i : goal.invariant-loop-i
invariant-loop-i l =
    SlotsAsk l.members l.table l.length (l.first + l.length * l.i) l.end (l.number - l.i)
    × (slot_in l.members l.table l.length l.first 0 l.number ≡ slot_in l.members l.table l.length (l.first + l.length * l.i) l.end (l.number - l.i))
