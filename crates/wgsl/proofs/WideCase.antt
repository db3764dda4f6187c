-- The cases of scalars of 64 bits come out: one test, which antt computes.
-- Assumes nothing.
use lib.Dec.{T}
use Rattle.wgsl.specs.Number.{load, bytes_of, store}
use Rattle.wgsl.specs.Round.{up, within_limit}
use Rattle.wgsl.specs.Types.{is_runtime, ends_in_runtime, is_open, everywhere, every_member, is_scalar_kind, scalar_kind}
use Rattle.wgsl.specs.Size.{both, given_or, is_present, present, width_of, vec3_align, vector_size, vector_align, start_after, end_after, member_start, member_end, size_of, align_of, members_align, members_end, stride_of, own_stride_of, min_size_of, offsets_of, inner_numbers_of, numbers_of, within_limits, fits_limit, has_layout, is_stored, is_plain, is_storable}
use Rattle.wgsl.specs.Said.{◌>>=◌, ◌>>◌, refuse, or_refuse}
use Rattle.wgsl.specs.File.{trailer_of, length_by, type_entry_from, type_entry_at, member_entry_from, member_entry_at, size_is_given, align_is_given, given_size, given_align, rest_is_zero, between, check_trailer, member_entry_length}
use Rattle.wgsl.specs.Rule.{when, and_then, unused, scalar_of_kind, scalar_in, lower, members_from, scalar_made, vector_made, matrix_made, runtime_made, atomic_made, struct_made, over_made, type_made, type_of_entry, is_matrix_scalar, is_atomic_scalar, is_last, count_of, member_allowed, members_allowed, is_allowed, at_least, given_size_fits, is_multiple, given_align_fits, members_given_fit, given_fits, judged, types_below, names_member, is_named, all_named, types_of}
use Rattle.wgsl.specs.Place.{column, tail_at, members_tail, tail_of, extent_by, extent_of, elements_by, elements_in, shape_of, fields_of, span_of, words_over, words_for, word_places, repeated, places_of, places, word_count, store_words, written, words_read, can_hold, check_words}
use Rattle.wgsl.specs.Path.{step_of, enter, walk}
use Rattle.wgsl.specs.Rank.{from_abstract_int, scalar_rank, if_same, outline_of, leaf_of, same_numbers, leaf_rank, rank_of}
use Rattle.wgsl.specs.Call.{check_of, entry_of, size_call, answer_of, contents_of, allowed, entry_for, is_short, read_elements, read_type, read_call, elements_for, is_wrong_count, write_words, write_elements, write_type, write_call, target_in, target_call, view_call, offset_of, scalar_at, set_scalar, set_target, set_call, rank_call}
use Rattle.wgsl.specs.BitFieldCall.{is_integer, integer_of, integer_at, extract_call}
use Rattle.wgsl.specs.Claim.{member_step}
use Rattle.wgsl.specs.Case.{is, are, says, measures, lies, leads_from, leads, plain, type_entry, member_given, member_entry, trailer, all_pass}
use Rattle.wgsl.specs.StrideCase.{is_absent, reads}
use Rattle.wgsl.specs.WideCase.{wide, wide_file, vec3_member, matrix_of_wide, atomic_of_wide, sixteen, five_words, their_bytes, wide_cases, wide_cases_pass}

pub wide_cases_pass_lem : T wide_cases_pass
unfolding load bytes_of up within_limit is_runtime ends_in_runtime is_open everywhere every_member both given_or is_present present width_of vec3_align vector_size vector_align start_after end_after member_start member_end size_of align_of members_align members_end stride_of own_stride_of min_size_of offsets_of inner_numbers_of numbers_of within_limits fits_limit has_layout is_stored is_plain is_storable refuse or_refuse trailer_of length_by member_entry_length type_entry_from type_entry_at member_entry_from member_entry_at size_is_given align_is_given given_size given_align rest_is_zero between check_trailer when and_then unused scalar_of_kind is_scalar_kind scalar_in lower members_from scalar_made vector_made matrix_made runtime_made atomic_made struct_made over_made type_made type_of_entry is_matrix_scalar is_atomic_scalar is_last count_of member_allowed members_allowed is_allowed at_least given_size_fits is_multiple given_align_fits members_given_fit given_fits judged types_below names_member is_named all_named types_of tail_at members_tail tail_of extent_by extent_of elements_by elements_in shape_of fields_of span_of words_over words_for word_places repeated places_of places word_count store_words written words_read can_hold check_words step_of enter walk scalar_kind from_abstract_int scalar_rank if_same outline_of leaf_of same_numbers leaf_rank rank_of check_of entry_of size_call answer_of contents_of allowed entry_for is_short read_elements read_type read_call elements_for is_wrong_count write_words write_elements write_type write_call target_in target_call view_call offset_of scalar_at set_scalar set_target set_call rank_call is_integer integer_of integer_at extract_call store member_step is are says measures lies leads_from leads plain type_entry member_given member_entry trailer all_pass is_absent reads wide wide_file vec3_member matrix_of_wide atomic_of_wide sixteen five_words their_bytes wide_cases wide_cases_pass column ◌>>=◌ ◌>>◌
wide_cases_pass_lem = tt
