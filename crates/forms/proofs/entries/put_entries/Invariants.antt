use Prim.Native.Nat.{◌+◌, ◌-◌, ◌*◌}
use mathlib.Core.Path.{◌≡◌}
use lib.ListN.{length}
use lib.Seq.{sets}
use Rattle.forms.specs.Entries.{entries_from}
use Rattle.forms.proofs.entries.put_entries.Given as goal

abbrev pub invariant-loop-m : goal.invariant-loop-m
invariant-loop-m l =
    (sets l.out l.end (entries_from l.f l.long l.name (l.members - l.m) (l.from + l.long * l.m)) ≡ sets l.initial.out l.at (entries_from l.f l.long l.name l.members l.from))
    × (l.end ≡ l.at + (12 + length l.name) * l.m) × (length l.out ≡ length l.initial.out)
