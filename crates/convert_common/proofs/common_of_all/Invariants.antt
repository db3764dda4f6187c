-- The common type of the list is that of what was found and of what is left.
use mathlib.Core.List.{List}
use Rattle.wgsl.specs.Types.{Ty}
use Rattle.convert_common.specs.Chosen.{Listed}
use Rattle.convert_common.proofs.CommonOfAll.{Folded}
use Rattle.convert_common.proofs.common_of_all.Given as goal

abbrev pub invariant-loop-e : goal.invariant-loop-e
invariant-loop-e l = (ts : List Ty) → Listed l.f ts l.start l.list → Folded ts l.list l.rest l.found l.e-index
