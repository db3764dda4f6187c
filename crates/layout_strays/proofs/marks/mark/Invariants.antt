-- The members below i are marked, word by word (`InWords`).
use Prim.Native.Nat.{◌+◌, ◌-◌, ◌%◌, ◌<◌, ◌≤◌}
use mathlib.Core.Path.{◌≡◌}
use lib.ListN.{length}
use Rattle.layout_strays.proofs.InWords.{Marked}
use Rattle.layout_strays.proofs.marks.mark.Given as goal

abbrev pub invariant-loop-next : goal.invariant-loop-next
invariant-loop-next l = (l.from ≤ l.i) × (l.i < l.to) × (l.i - l.i % 64 + 64 ≡ l.next) × (length l.named ≡ length l.initial.named) × Marked l.initial.named l.named l.from l.i

abbrev pub decreases-loop-next : goal.decreases-loop-next
decreases-loop-next l = l.to - l.i
