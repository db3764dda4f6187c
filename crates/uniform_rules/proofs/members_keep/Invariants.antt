use Prim.Native.Nat.{◌+◌, ◌-◌, ◌*◌}
use mathlib.Core.Path.{◌≡◌}
use Rattle.uniform_rules.specs.Keeps.{slots_keep, SlotsAll}
use Rattle.uniform_rules.proofs.members_keep.Given as goal

abbrev pub invariant-loop-i : goal.invariant-loop-i
invariant-loop-i l =
    SlotsAll l.members l.table l.length (l.fn.l.count - l.i) (l.first + l.length * l.i) l.end
    × (slots_keep l.members l.table l.length l.fn.l.count l.first 0 0 ≡ slots_keep l.members l.table l.length (l.fn.l.count - l.i) (l.first + l.length * l.i) l.end l.earliest)
