use Rattle.runs.specs.Fold.{Loads}
use Rattle.runs.specs.Run.{part_places}
use Rattle.runs.proofs.reading.read_each.Given as goal

abbrev pub invariant-loop-i : goal.invariant-loop-i
invariant-loop-i l = Loads l.buf (part_places l.i l.p.unit l.p.width l.p.stride l.at) l.k l.initial.words l.words
