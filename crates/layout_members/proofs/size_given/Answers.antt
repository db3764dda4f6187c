-- The mask is bit 0 (`Flags`).
use Rattle.file.specs.Fields.{member_is}
use Rattle.layout_members.proofs.Flags.{size_bit}
use Rattle.layout_members.proofs.size_given.Goals as goal

pub returns : goal.returns
returns c = size_bit (member_is c.args.m)
