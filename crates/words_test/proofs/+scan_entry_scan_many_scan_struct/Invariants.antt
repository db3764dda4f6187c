use Prim.Native.Nat.{◌+◌, ◌*◌}
use Rattle.walk_trees.proofs.Many.{depth}
use Rattle.words_test.proofs.TestSteps.{Turns, Scanned}
use Rattle.words_test.proofs.+scan_entry_scan_many_scan_struct.Given as goal

abbrev pub decreases-scan_entry : goal.decreases-scan_entry
decreases-scan_entry l = 5 * l.e + 4

abbrev pub decreases-scan_many : goal.decreases-scan_many
decreases-scan_many l = depth l.table.now l.r

abbrev pub decreases-scan_struct : goal.decreases-scan_struct
decreases-scan_struct l = 5 * l.e + 3

abbrev pub invariant-scan_many-loop-i : goal.invariant-scan_many-loop-i
invariant-scan_many-loop-i l = Turns l.members l.table l.words l.element l.elements l.k l.i

abbrev pub invariant-scan_struct-loop-i : goal.invariant-scan_struct-loop-i
invariant-scan_struct-loop-i l = Scanned l.members l.table l.words l.fn.e l.fn.r l.fn.k l.i l.next
