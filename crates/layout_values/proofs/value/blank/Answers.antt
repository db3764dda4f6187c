-- By the definition.
use mathlib.Core.Path.{ap}
use lib.ListN.{replicate}
use Rattle.layout_values.specs.Value.{blank_table}
use Rattle.layout_values.proofs.ValuesOf.{blank_is}
use Rattle.layout_values.proofs.value.blank.Goals as goal

pub returns : goal.returns
unfolding blank_table
returns c = ap (replicate 256) (blank_is _ c.default.ensures)
