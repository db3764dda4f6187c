use Rattle.runs.specs.Fold.{Stores}
use Rattle.runs.specs.Run.{run_places}
use Rattle.runs.proofs.writing.write_words.Given as goal

abbrev pub invariant-loop-i : goal.invariant-loop-i
invariant-loop-i g l = Stores l.words (run_places l.i g.row.WIDTH l.at) l.k l.initial.buf l.buf
