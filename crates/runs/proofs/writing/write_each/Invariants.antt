use Rattle.runs.specs.Fold.{Stores}
use Rattle.runs.specs.Run.{part_places}
use Rattle.runs.proofs.writing.write_each.Given as goal

abbrev pub invariant-loop-i : goal.invariant-loop-i
invariant-loop-i l = Stores l.words (part_places l.i l.p.unit l.p.width l.p.stride l.at) l.k l.initial.buf l.buf
