use Rattle.runs.specs.Fold.{loading}
use Rattle.walk_pieces.proofs.Pass.{Passed}
use Rattle.words_pieces.proofs.reading.read_pieces.Given as goal

abbrev pub invariant-loop-j : goal.invariant-loop-j
invariant-loop-j l = Passed (loading l.buf) l.fn.few l.pieces l.at l.fn.k l.initial.words l.j l.next l.words
