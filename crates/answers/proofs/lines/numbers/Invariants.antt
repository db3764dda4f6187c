-- No more numbers are put than there is room for.
use Rattle.std.proofs.Common.{◌≤◌, length}
use Rattle.answers.proofs.lines.numbers.Given as goal

abbrev pub invariant-loop-rest : goal.invariant-loop-rest
invariant-loop-rest l = l.count ≤ 1024

abbrev pub decreases-loop-rest : goal.decreases-loop-rest
decreases-loop-rest l = length l.rest
