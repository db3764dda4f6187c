use Prim.Native.Nat.{◌+◌, ◌-◌, ◌*◌, ◌≤◌, min}
use mathlib.Core.Path.{◌≡◌}
use lib.ListN.{length}
use Rattle.uniform.specs.Lowest.{types_at, TypesInside, lowest_among}
use Rattle.uniform.proofs.lowest_member.Given as goal

abbrev pub invariant-loop-i : goal.invariant-loop-i
invariant-loop-i l =
    TypesInside l.members (length l.told) l.length (l.fn.l.count - l.i) (l.first + l.length * l.i)
    × (l.low ≤ 256)
    × (lowest_among l.told (types_at l.members l.length l.fn.l.count l.first) ≡ min l.low (lowest_among l.told (types_at l.members l.length (l.fn.l.count - l.i) (l.first + l.length * l.i))))
