use Rattle.file.specs.Fields.{trailer_is}
use Rattle.layout_table.proofs.TableOf.{Filled}
use Rattle.layout_table.proofs.fill.Given as goal

abbrev pub invariant-loop-k : goal.invariant-loop-k
invariant-loop-k l = Filled l.f (trailer_is l.t) l.k l.table
