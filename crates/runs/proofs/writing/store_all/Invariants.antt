use Rattle.runs.specs.Fold.{Stores}
use Rattle.runs.specs.Run.{run_places}
use Rattle.runs.proofs.writing.store_all.Given as goal

abbrev pub invariant-loop-i : goal.invariant-loop-i
invariant-loop-i g l = Stores l.number-items (run_places l.i 4 l.at) 0 l.initial.buf l.buf
