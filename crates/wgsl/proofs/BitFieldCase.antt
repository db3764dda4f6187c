-- The cases of bit fields of document 02 come out: one test, which antt computes.
-- Assumes nothing.
use lib.Dec.{T}
use Rattle.wgsl.specs.BitField.{start_of, bits_of, bit_at, field_at, repeated_top, extracted_u32, extracted_i32, put_at, inserted, signed_of}
use Rattle.wgsl.specs.Case.{all_pass}
use Rattle.wgsl.specs.BitFieldCase.{is_number, holds, reads, puts, field_cases, field_cases_pass}

pub field_cases_pass_lem : T field_cases_pass
unfolding start_of bits_of bit_at field_at repeated_top extracted_u32 extracted_i32 put_at inserted signed_of is_number holds reads puts field_cases field_cases_pass all_pass
field_cases_pass_lem = tt
