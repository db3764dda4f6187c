-- The cases of the uniform profile come out: one test, which antt computes.
-- Assumes nothing.
use lib.Dec.{T}
use Rattle.wgsl.specs.Number.{load, bytes_of}
use Rattle.wgsl.specs.Round.{up, power_below, is_power, within_limit}
use Rattle.wgsl.specs.Types.{is_runtime, ends_in_runtime, is_open, everywhere, every_member, is_scalar_kind}
use Rattle.wgsl.specs.Size.{both, given_or, is_present, present, width_of, vec3_align, vector_size, vector_align, start_after, end_after, member_start, member_end, size_of, align_of, members_align, members_end, stride_of, min_size_of, offsets_of, inner_numbers_of, numbers_of, within_limits, fits_limit, has_layout, is_stored, is_plain, is_storable}
use Rattle.wgsl.specs.Said.{◌>>=◌, ◌>>◌, refuse, or_refuse}
use Rattle.wgsl.specs.File.{trailer_of, length_by, type_entry_from, type_entry_at, member_entry_from, member_entry_at, size_is_given, align_is_given, given_size, given_align, rest_is_zero, between, check_trailer, member_entry_length}
use Rattle.wgsl.specs.Rule.{when, and_then, unused, scalar_of_kind, scalar_in, lower, members_from, scalar_made, vector_made, array_made, runtime_made, atomic_made, struct_made, over_made, type_made, type_of_entry, is_atomic_scalar, is_last, count_of, member_allowed, members_allowed, is_allowed, at_least, given_size_fits, is_multiple, given_align_fits, members_given_fit, given_fits, judged, types_below, names_member, is_named, all_named, types_of}
use Rattle.wgsl.specs.Uniform.{uniform_align, earliest_after, members_keep, keeps_uniform, is_uniform, member_types, refers_to, any_of, reaches_by, reaches, is_broken_type, is_broken, lowest_from, lowest_broken, refuse_broken, may_live, uniform_call}
use Rattle.wgsl.specs.Case.{says, type_entry, member_given, member_entry, trailer, open_struct, plain, all_pass}
use Rattle.wgsl.specs.UniformCase.{small, broken_file, nested_file, unstored_file, uniform_cases, uniform_cases_pass}

pub uniform_cases_pass_lem : T uniform_cases_pass
unfolding load bytes_of up power_below is_power within_limit is_runtime ends_in_runtime is_open everywhere every_member both given_or is_present present width_of vec3_align vector_size vector_align start_after end_after member_start member_end size_of align_of members_align members_end stride_of min_size_of offsets_of inner_numbers_of numbers_of within_limits fits_limit has_layout is_stored is_plain is_storable ◌>>=◌ ◌>>◌ refuse or_refuse trailer_of length_by member_entry_length type_entry_from type_entry_at member_entry_from member_entry_at size_is_given align_is_given given_size given_align rest_is_zero between check_trailer when and_then unused scalar_of_kind is_scalar_kind scalar_in lower members_from scalar_made vector_made array_made runtime_made atomic_made struct_made over_made type_made type_of_entry is_atomic_scalar is_last count_of member_allowed members_allowed is_allowed at_least given_size_fits is_multiple given_align_fits members_given_fit given_fits judged types_below names_member is_named all_named types_of uniform_align earliest_after members_keep keeps_uniform is_uniform member_types refers_to any_of reaches_by reaches is_broken_type is_broken lowest_from lowest_broken refuse_broken may_live uniform_call says type_entry member_given member_entry trailer open_struct plain all_pass small broken_file nested_file unstored_file uniform_cases uniform_cases_pass
uniform_cases_pass_lem = tt
