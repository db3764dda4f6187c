-- The cases of the two forms come out: one test, which antt computes.
-- Assumes nothing.
use lib.Dec.{T}
use Rattle.wgsl.specs.Number.{load, bytes_of}
use Rattle.wgsl.specs.Round.{up, within_limit}
use Rattle.wgsl.specs.Types.{is_runtime, ends_in_runtime, is_open, everywhere, every_member, is_scalar_kind, scalar_kind}
use Rattle.wgsl.specs.Size.{both, given_or, is_present, present, width_of, vec3_align, vector_size, vector_align, start_after, end_after, member_start, member_end, size_of, align_of, members_align, members_end, stride_of, own_stride_of, min_size_of, offsets_of, inner_numbers_of, numbers_of, within_limits, fits_limit, has_layout, is_stored, is_plain, is_storable}
use Rattle.wgsl.specs.Said.{◌>>=◌, ◌>>◌, refuse, or_refuse}
use Rattle.wgsl.specs.File.{trailer_of, length_by, type_entry_from, type_entry_at, member_entry_from, member_entry_at, size_is_given, align_is_given, given_size, given_align, rest_is_zero, between, check_trailer, member_entry_length}
use Rattle.wgsl.specs.Rule.{when, and_then, unused, scalar_of_kind, scalar_in, lower, members_from, scalar_made, vector_made, matrix_made, runtime_made, atomic_made, struct_made, over_made, type_made, type_of_entry, is_matrix_scalar, is_atomic_scalar, is_last, count_of, member_allowed, members_allowed, is_allowed, at_least, given_size_fits, is_multiple, given_align_fits, members_given_fit, given_fits, judged, types_below, names_member, is_named, all_named, types_of}
use Rattle.wgsl.specs.Place.{column, tail_at, members_tail, tail_of, extent_by, extent_of, elements_by, elements_in, shape_of, fields_of, span_of, words_over, words_for, word_places, repeated, places_of, places, word_count}
use Rattle.wgsl.specs.Path.{step_of, enter, walk}
use Rattle.wgsl.specs.Call.{check_of, entry_of, size_call, answer_of, contents_of, allowed, entry_for, is_short, target_in, target_call, view_call, offset_of}
use Rattle.wgsl.specs.Claim.{member_step}
use Rattle.wgsl.specs.Case.{says, leads_from, leads, type_entry, member_given, member_entry, all_pass}
use Rattle.wgsl.specs.StrideCase.{reads}
use Rattle.wgsl.specs.Form.{member_place, name_at, nameless, entries_with, trailer_as, moved_to, to_form2, to_form1, form_is, filled, put_out, move_on_call, move_back_call}
use Rattle.wgsl.specs.FormCase.{trailer_at, named_member, two_entries, plain_file, named_file, plain_as_named, named_as_plain, bare_file, empty_file, bad_and_named, fills, neither, form_cases, form_cases_pass}

pub form_cases_pass_lem : T form_cases_pass
unfolding load bytes_of up within_limit is_runtime ends_in_runtime is_open everywhere every_member both given_or is_present present width_of vec3_align vector_size vector_align start_after end_after member_start member_end size_of align_of members_align members_end stride_of own_stride_of min_size_of offsets_of inner_numbers_of numbers_of within_limits fits_limit has_layout is_stored is_plain is_storable refuse or_refuse trailer_of length_by member_entry_length type_entry_from type_entry_at member_entry_from member_entry_at size_is_given align_is_given given_size given_align rest_is_zero between check_trailer when and_then unused scalar_of_kind is_scalar_kind scalar_in lower members_from scalar_made vector_made matrix_made runtime_made atomic_made struct_made over_made type_made type_of_entry is_matrix_scalar is_atomic_scalar is_last count_of member_allowed members_allowed is_allowed at_least given_size_fits is_multiple given_align_fits members_given_fit given_fits judged types_below names_member is_named all_named types_of tail_at members_tail tail_of extent_by extent_of elements_by elements_in shape_of fields_of span_of words_over words_for word_places repeated places_of places word_count step_of enter walk scalar_kind check_of entry_of size_call answer_of contents_of allowed entry_for is_short target_in target_call view_call offset_of member_step says leads_from leads type_entry member_given member_entry all_pass reads column ◌>>=◌ ◌>>◌ member_place name_at nameless entries_with trailer_as moved_to to_form2 to_form1 form_is filled put_out move_on_call move_back_call trailer_at named_member two_entries plain_file named_file plain_as_named named_as_plain bare_file empty_file bad_and_named fills neither form_cases form_cases_pass
form_cases_pass_lem = tt
