-- The cases of strides of document 02 come out: one test, which antt computes.
-- Assumes nothing.
use lib.Dec.{T}
use Rattle.wgsl.specs.Number.{load, bytes_of}
use Rattle.wgsl.specs.Round.{up, within_limit}
use Rattle.wgsl.specs.Types.{is_runtime, is_open, is_scalar_kind}
use Rattle.wgsl.specs.Size.{both, given_or, is_present, width_of, vec3_align, vector_size, vector_align, start_after, end_after, members_end, stride_of, min_size_of, offsets_of, inner_numbers_of, numbers_of, within_limits, fits_limit, member_start, member_end, own_stride_of}
use Rattle.wgsl.specs.Said.{◌>>=◌, ◌>>◌, refuse, or_refuse}
use Rattle.wgsl.specs.File.{trailer_of, length_by, type_entry_from, type_entry_at, member_entry_from, member_entry_at, size_is_given, align_is_given, given_size, given_align, rest_is_zero, between, check_trailer, member_entry_length}
use Rattle.wgsl.specs.Rule.{when, and_then, unused, scalar_of_kind, scalar_in, lower, members_from, scalar_made, vector_made, array_made, runtime_made, struct_made, over_made, type_made, type_of_entry, is_last, count_of, member_allowed, members_allowed, is_allowed, given_size_fits, given_align_fits, members_given_fit, given_fits, judged, types_below, names_member, is_named, all_named, types_of}
use Rattle.wgsl.specs.Call.{entry_of, layout_of, layout_call}
use Rattle.wgsl.specs.Case.{is, type_entry, member_entry, member_given, trailer, open_struct, plain, all_pass}
use Rattle.wgsl.specs.Listing.{entries_text, space, newline, dash, decimal_in, decimal, or_dash, column, entry_line, entry_lines, listed, input_limit, listing_of}
use Rattle.wgsl.specs.StrideCase.{is_absent, carries, reads, columns, listing_file, listing_text, absent_file, absent_text, stride_cases, stride_cases_pass}

pub stride_cases_pass_lem : T stride_cases_pass
unfolding load bytes_of up within_limit is_runtime is_open both given_or is_present width_of vec3_align vector_size vector_align start_after end_after members_end stride_of min_size_of offsets_of inner_numbers_of numbers_of within_limits fits_limit member_start member_end own_stride_of ◌>>=◌ ◌>>◌ refuse or_refuse trailer_of length_by member_entry_length type_entry_from type_entry_at member_entry_from member_entry_at size_is_given align_is_given given_size given_align rest_is_zero between check_trailer when and_then unused scalar_of_kind is_scalar_kind scalar_in lower members_from scalar_made vector_made array_made runtime_made struct_made over_made type_made type_of_entry is_last count_of member_allowed members_allowed is_allowed given_size_fits given_align_fits members_given_fit given_fits judged types_below names_member is_named all_named types_of entry_of layout_of layout_call is type_entry member_entry member_given trailer open_struct plain all_pass entries_text space newline dash decimal_in decimal or_dash column entry_line entry_lines listed input_limit listing_of is_absent carries reads columns listing_file listing_text absent_file absent_text stride_cases stride_cases_pass
stride_cases_pass_lem = tt
