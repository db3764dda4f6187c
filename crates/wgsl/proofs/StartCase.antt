-- The cases of the two starts of a site block come out: one test, which antt computes.
-- Assumes nothing.
use lib.Dec.{T}
use Rattle.wgsl.specs.Number.{load, bytes_of, store}
use Rattle.wgsl.specs.Round.{up, within_limit}
use Rattle.wgsl.specs.Types.{is_runtime, ends_in_runtime, is_open, everywhere, every_member, is_scalar_kind, scalar_kind}
use Rattle.wgsl.specs.Size.{both, given_or, is_present, present, width_of, vec3_align, vector_size, vector_align, start_after, end_after, member_start, member_end, size_of, align_of, members_align, members_end, stride_of, own_stride_of, min_size_of, offsets_of, inner_numbers_of, numbers_of, within_limits, fits_limit, has_layout, is_stored, is_plain, is_storable}
use Rattle.wgsl.specs.Said.{◌>>=◌, ◌>>◌, refuse, or_refuse}
use Rattle.wgsl.specs.File.{trailer_of, length_by, type_entry_from, type_entry_at, member_entry_from, member_entry_at, size_is_given, align_is_given, given_size, given_align, rest_is_zero, between, check_trailer, member_entry_length}
use Rattle.wgsl.specs.Rule.{when, and_then, unused, scalar_of_kind, scalar_in, lower, members_from, scalar_made, vector_made, matrix_made, runtime_made, atomic_made, struct_made, over_made, type_made, type_of_entry, is_matrix_scalar, is_atomic_scalar, is_last, count_of, member_allowed, members_allowed, is_allowed, at_least, given_size_fits, is_multiple, given_align_fits, members_given_fit, given_fits, judged, types_below, names_member, is_named, all_named, types_of}
use Rattle.wgsl.specs.Place.{column, tail_at, members_tail, tail_of, extent_by, extent_of, elements_by, elements_in, shape_of, fields_of, span_of, words_over, words_for, word_places, repeated, store_words, can_hold, check_words}
use Rattle.wgsl.specs.Path.{step_of, enter, walk}
use Rattle.wgsl.specs.Call.{entry_of, allowed, is_short, offset_of, part_of, scalar_at, set_scalar, set_target}
use Rattle.wgsl.specs.BitField.{bit_at}
use Rattle.wgsl.specs.Site.{with_bit, without_bit, is_block, block_entry, block_in, settings_of, every_bit, copied_whole, fresh_call, member_of, member_call, shown_in, handed_from, copied_in, site_set_call, site_answer, site_after, mask_set, clear_call, mask_after}
use Rattle.wgsl.specs.StartClaim.{left_by, left_after}
use Rattle.wgsl.specs.Case.{says, type_entry, member_given, member_entry, trailer, all_pass}
use Rattle.wgsl.specs.StrideCase.{reads}
use Rattle.wgsl.specs.SiteCase.{settings, repeated_member, wide_struct, factory_bytes, site_bytes}
use Rattle.wgsl.specs.StartCase.{leaves_fresh, leaves_wide, started_fresh, started_inheriting, shows_after, both_show, new_sheet, start_cases, start_cases_pass}

pub start_cases_pass_lem : T start_cases_pass
unfolding load bytes_of store up within_limit is_runtime ends_in_runtime is_open everywhere every_member is_scalar_kind scalar_kind both given_or is_present present width_of vec3_align vector_size vector_align start_after end_after member_start member_end size_of align_of members_align members_end stride_of own_stride_of min_size_of offsets_of inner_numbers_of numbers_of within_limits fits_limit has_layout is_stored is_plain is_storable ◌>>=◌ ◌>>◌ refuse or_refuse trailer_of length_by type_entry_from type_entry_at member_entry_from member_entry_at size_is_given align_is_given given_size given_align rest_is_zero between check_trailer member_entry_length when and_then unused scalar_of_kind scalar_in lower members_from scalar_made vector_made matrix_made runtime_made atomic_made struct_made over_made type_made type_of_entry is_matrix_scalar is_atomic_scalar is_last count_of member_allowed members_allowed is_allowed at_least given_size_fits is_multiple given_align_fits members_given_fit given_fits judged types_below names_member is_named all_named types_of column tail_at members_tail tail_of extent_by extent_of elements_by elements_in shape_of fields_of span_of words_over words_for word_places repeated store_words can_hold check_words step_of enter walk entry_of allowed is_short offset_of part_of scalar_at set_scalar set_target bit_at with_bit without_bit is_block block_entry block_in settings_of every_bit copied_whole fresh_call member_of member_call shown_in handed_from copied_in site_set_call site_answer site_after mask_set clear_call mask_after left_by left_after says type_entry member_given member_entry trailer all_pass reads settings repeated_member wide_struct factory_bytes site_bytes leaves_fresh leaves_wide started_fresh started_inheriting shows_after both_show new_sheet start_cases start_cases_pass
start_cases_pass_lem = tt
