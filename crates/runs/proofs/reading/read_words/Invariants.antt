use Rattle.runs.specs.Fold.{Loads}
use Rattle.runs.specs.Run.{run_places}
use Rattle.runs.proofs.reading.read_words.Given as goal

abbrev pub invariant-loop-i : goal.invariant-loop-i
invariant-loop-i g l = Loads l.buf (run_places l.i g.row.WIDTH l.at) l.k l.initial.words l.words
