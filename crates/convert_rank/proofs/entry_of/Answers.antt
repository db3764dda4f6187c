-- `type_entry_at` begins where the trailer says.
use Rattle.wgsl.specs.File.{type_entry_at}
use Rattle.convert_rank.proofs.entry_of.Goals as goal

pub returns : goal.returns
unfolding type_entry_at
returns c = rw (← c.requires.0) c.entry_at.ensures
