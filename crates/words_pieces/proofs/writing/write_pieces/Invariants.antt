use Rattle.runs.specs.Fold.{storing}
use Rattle.walk_pieces.proofs.Pass.{Passed}
use Rattle.words_pieces.proofs.writing.write_pieces.Given as goal

abbrev pub invariant-loop-j : goal.invariant-loop-j
invariant-loop-j l = Passed (storing l.words) l.fn.few l.pieces l.at l.fn.k l.initial.buf l.j l.next l.buf
