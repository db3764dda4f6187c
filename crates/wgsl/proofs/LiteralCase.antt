-- The cases of conversions come out: one test, which antt computes.
-- Assumes nothing.
use lib.Dec.{T}
use lib.Ieee.{size}
use Rattle.wgsl.specs.Types.{scalar_kind}
use Rattle.wgsl.specs.Said.{◌>>=◌, or_refuse}
use Rattle.wgsl.specs.Rule.{when, and_then, scalar_of_kind}
use Rattle.wgsl.specs.Literal.{sign_of, infinity, lowest, worth, stepped, rounded_by, rounded, whole_of, literal_of, float_of, unit_of, in_format, in_i32, in_u32, from_int, from_float, if_same, converted, pattern_bits, convert_call}
use Rattle.wgsl.specs.Case.{says, all_pass}
use Rattle.wgsl.specs.LiteralCase.{float_bits, negative_bits, minus, literal_cases, literal_cases_pass}

pub literal_cases_pass_lem : T literal_cases_pass
unfolding size scalar_kind ◌>>=◌ or_refuse when and_then scalar_of_kind sign_of infinity lowest worth stepped rounded_by rounded whole_of literal_of float_of unit_of in_format in_i32 in_u32 from_int from_float if_same converted pattern_bits convert_call says all_pass float_bits negative_bits minus literal_cases literal_cases_pass
literal_cases_pass_lem = tt
