-- The field at o and c.
use Rattle.wgsl.specs.BitField.{extracted_u32}
use Rattle.bits.proofs.extract_bits_u32.Goals as goal

pub returns : goal.returns
unfolding extracted_u32
returns c = rw (c.field.ensures.0, c.bits_of.ensures.0, c.start_of.ensures.0)
