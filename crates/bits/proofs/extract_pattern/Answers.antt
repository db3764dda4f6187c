-- The field at o and c, with its top bit repeated.
use Rattle.wgsl.specs.BitField.{extracted_u32, extracted_i32}
use Rattle.bits.proofs.extract_pattern.Goals as goal

pub returns : goal.returns
unfolding extracted_i32 extracted_u32
returns c =
    rw (
      c.repeated.ensures.0,
      c.field.ensures.0,
      c.start_of.ensures.0,
      c.bits_of-c.ensures.0,
    )
