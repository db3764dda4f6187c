use mathlib.Core.List.{List}
use Rattle.wgsl.specs.Types.{Ty}
use Rattle.file.specs.Fields.{entry_is}
use Rattle.layout_structs.proofs.Reached.{Reached}
use Rattle.layout_table.specs.Table.{Upward}
use Rattle.layout_table.proofs.struct_entry.Given as goal

abbrev pub invariant-loop-i : goal.invariant-loop-i
invariant-loop-i l =
    (ts : List Ty) → Upward l.f l.k (entry_is l.e) l.base l.members l.long l.table ts → Reached l.f ts l.at l.i l.count l.past
