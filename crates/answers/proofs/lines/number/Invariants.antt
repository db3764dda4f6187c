-- The value so far fits its type, and what is left is no longer than the text.
use Rattle.std.proofs.Common.{◌≤◌, length}
use Rattle.answers.proofs.lines.number.Given as goal

abbrev pub invariant-loop-rest : goal.invariant-loop-rest
invariant-loop-rest l = (l.value ≤ 4294967295) × (length l.rest ≤ length l.text)

abbrev pub decreases-loop-rest : goal.decreases-loop-rest
decreases-loop-rest l = length l.rest
