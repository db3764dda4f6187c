-- The cases of vectors of three bools come out: one test, which antt computes.
-- Assumes nothing.
use lib.Dec.{T}
use Rattle.wgsl.specs.Number.{load, bytes_of}
use Rattle.wgsl.specs.Round.{up, within_limit}
use Rattle.wgsl.specs.Types.{is_runtime, ends_in_runtime, is_open, everywhere, every_member, is_scalar_kind}
use Rattle.wgsl.specs.Size.{both, given_or, is_present, present, width_of, vec3_align, vector_size, vector_align, start_after, end_after, member_start, member_end, size_of, align_of, members_align, members_end, stride_of, own_stride_of, min_size_of, offsets_of, inner_numbers_of, numbers_of, within_limits, fits_limit, has_layout, is_stored, is_plain, is_storable}
use Rattle.wgsl.specs.Said.{◌>>=◌, ◌>>◌, refuse, or_refuse}
use Rattle.wgsl.specs.File.{trailer_of, length_by, type_entry_from, type_entry_at, member_entry_from, member_entry_at, size_is_given, align_is_given, given_size, given_align, rest_is_zero, between, check_trailer, member_entry_length}
use Rattle.wgsl.specs.Rule.{when, and_then, unused, scalar_of_kind, scalar_in, lower, members_from, scalar_made, vector_made, runtime_made, struct_made, over_made, type_made, type_of_entry, is_last, count_of, member_allowed, members_allowed, is_allowed, at_least, given_size_fits, is_multiple, given_align_fits, members_given_fit, given_fits, judged, types_below, names_member, is_named, all_named, types_of}
use Rattle.wgsl.specs.Place.{tail_at, members_tail, tail_of, extent_by, extent_of, elements_by, elements_in, column, shape_of, fields_of, span_of}
use Rattle.wgsl.specs.Path.{step_of, enter, walk}
use Rattle.wgsl.specs.Call.{check_of, entry_of, size_call, min_size_call, answer_of, allowed, entry_for, is_short, read_call, write_call, target_in, target_call, view_call, offset_of, set_call}
use Rattle.wgsl.specs.Listing.{entries_text, space, newline, dash, decimal_in, decimal, or_dash, column as listing_column, entry_line, entry_lines, listed, input_limit, listing_of}
use Rattle.wgsl.specs.Claim.{member_step}
use Rattle.wgsl.specs.Case.{is, are, says, measures, lies, leads_from, leads, plain, type_entry, member_given, member_entry, trailer, all_pass}
use Rattle.wgsl.specs.StrideCase.{reads, columns}
use Rattle.wgsl.specs.BoolCase.{bool_file, bool_text, bool_cases, bool_cases_pass}

pub bool_cases_pass_lem : T bool_cases_pass
unfolding load bytes_of up within_limit is_runtime ends_in_runtime is_open everywhere every_member both given_or is_present present width_of vec3_align vector_size vector_align start_after end_after member_start member_end size_of align_of members_align members_end stride_of own_stride_of min_size_of offsets_of inner_numbers_of numbers_of within_limits fits_limit has_layout is_stored is_plain is_storable ◌>>=◌ ◌>>◌ refuse or_refuse trailer_of length_by member_entry_length type_entry_from type_entry_at member_entry_from member_entry_at size_is_given align_is_given given_size given_align rest_is_zero between check_trailer when and_then unused scalar_of_kind is_scalar_kind scalar_in lower members_from scalar_made vector_made runtime_made struct_made over_made type_made type_of_entry is_last count_of member_allowed members_allowed is_allowed at_least given_size_fits is_multiple given_align_fits members_given_fit given_fits judged types_below names_member is_named all_named types_of tail_at members_tail tail_of extent_by extent_of elements_by elements_in column shape_of fields_of span_of step_of enter walk check_of entry_of size_call min_size_call answer_of allowed entry_for is_short read_call write_call target_in target_call view_call offset_of set_call entries_text space newline dash decimal_in decimal or_dash listing_column entry_line entry_lines listed input_limit listing_of member_step is are says measures lies leads_from leads plain type_entry member_given member_entry trailer all_pass reads columns bool_file bool_text bool_cases bool_cases_pass
bool_cases_pass_lem = tt
