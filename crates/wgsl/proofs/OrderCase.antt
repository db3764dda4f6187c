-- The cases of member orders come out: one test, which antt computes.
-- Assumes nothing.
use lib.Dec.{T}
use Rattle.wgsl.specs.Number.{load, bytes_of}
use Rattle.wgsl.specs.Round.{up, within_limit, is_power, power_below}
use Rattle.wgsl.specs.Types.{is_runtime, ends_in_runtime, is_open, everywhere, every_member, is_scalar_kind, scalar_kind}
use Rattle.wgsl.specs.Size.{both, given_or, is_present, present, width_of, vec3_align, vector_size, vector_align, start_after, end_after, member_start, member_end, size_of, align_of, members_align, members_end, stride_of, own_stride_of, min_size_of, offsets_of, inner_numbers_of, numbers_of, within_limits, fits_limit, has_layout, is_stored, is_plain, is_storable}
use Rattle.wgsl.specs.Said.{◌>>=◌, ◌>>◌, refuse, or_refuse}
use Rattle.wgsl.specs.File.{trailer_of, length_by, type_entry_from, type_entry_at, member_entry_from, member_entry_at, size_is_given, align_is_given, given_size, given_align, rest_is_zero, between, check_trailer, member_entry_length}
use Rattle.wgsl.specs.Rule.{when, and_then, unused, scalar_of_kind, scalar_in, lower, members_from, scalar_made, vector_made, matrix_made, array_made, runtime_made, atomic_made, struct_made, over_made, type_made, type_of_entry, is_matrix_scalar, is_atomic_scalar, is_last, count_of, member_allowed, members_allowed, is_allowed, at_least, given_size_fits, is_multiple, given_align_fits, members_given_fit, given_fits, is_well_formed, judged, types_below, names_member, is_named, all_named, types_of}
use Rattle.wgsl.specs.Place.{tail_at, members_tail, tail_of, extent_by, extent_of}
use Rattle.wgsl.specs.Call.{entry_of, answer_of}
use Rattle.wgsl.specs.Order.{members_in, struct_members, aligned_at, falling, runtimes_at, planned_order, plan_members, plan_call, chosen, reordered, appears, all_differ, in_order, end_of, is_better, new_end, order_call}
use Rattle.wgsl.specs.Case.{says, type_entry, member_given, member_entry, trailer, all_pass}
use Rattle.wgsl.specs.StrideCase.{reads}
use Rattle.wgsl.specs.OrderCase.{shuffled, plans, order_cases, order_cases_pass}

pub order_cases_pass_lem : T order_cases_pass
unfolding load bytes_of up within_limit is_runtime ends_in_runtime is_open everywhere every_member is_scalar_kind scalar_kind both given_or is_present present width_of vec3_align vector_size vector_align start_after end_after member_start member_end size_of align_of members_align members_end stride_of own_stride_of min_size_of offsets_of inner_numbers_of numbers_of within_limits fits_limit has_layout is_stored is_plain is_storable ◌>>=◌ ◌>>◌ refuse or_refuse trailer_of length_by type_entry_from type_entry_at member_entry_from member_entry_at size_is_given align_is_given given_size given_align rest_is_zero between check_trailer member_entry_length when and_then unused scalar_of_kind scalar_in lower members_from scalar_made vector_made matrix_made array_made runtime_made atomic_made struct_made over_made type_made type_of_entry is_matrix_scalar is_atomic_scalar is_last count_of member_allowed members_allowed is_allowed at_least given_size_fits is_multiple given_align_fits members_given_fit given_fits judged types_below names_member is_named all_named types_of tail_at members_tail tail_of extent_by extent_of entry_of members_in struct_members aligned_at falling runtimes_at planned_order plan_members plan_call chosen reordered appears all_differ in_order end_of is_better new_end order_call is_well_formed is_power power_below answer_of says type_entry member_given member_entry trailer all_pass reads shuffled plans order_cases order_cases_pass
order_cases_pass_lem = tt
