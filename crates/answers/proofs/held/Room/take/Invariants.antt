-- What is left gets shorter.
use Rattle.std.proofs.Common.{length}
use Rattle.answers.proofs.held.Room.take.Given as goal

abbrev pub decreases-loop-left : goal.decreases-loop-left
decreases-loop-left g l = length l.left
