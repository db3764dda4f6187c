-- The mask is bit 1 (`Flags`).
use Rattle.file.specs.Fields.{member_is}
use Rattle.layout_members.proofs.Flags.{align_bit}
use Rattle.layout_members.proofs.align_given.Goals as goal

pub returns : goal.returns
returns c = align_bit (member_is c.args.m)
