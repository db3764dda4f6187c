-- Each law of E12 (Requests) that has hypotheses, at a file that meets them: antt computes that it does. A law that nothing meets would have
-- no line here.
--
-- The files are those of specs/StrayCase.
-- Assumes nothing.
use Prim.Native.Nat.{ℕ}
use mathlib.Core.Path.{◌≡◌, refl}
use Rattle.wgsl.specs.Number.{load, bytes_of}
use Rattle.wgsl.specs.Round.{up, within_limit}
use Rattle.wgsl.specs.Types.{is_runtime, ends_in_runtime, is_open, everywhere, every_member, is_scalar_kind, scalar_kind}
use Rattle.wgsl.specs.Size.{both, given_or, is_present, present, width_of, vec3_align, vector_size, vector_align, start_after, end_after, member_start, member_end, size_of, align_of, members_align, members_end, stride_of, own_stride_of, min_size_of, offsets_of, inner_numbers_of, numbers_of, within_limits, fits_limit, has_layout, is_stored, is_plain, is_storable}
use Rattle.wgsl.specs.Said.{refused, ◌>>=◌, ◌>>◌, refuse, or_refuse}
use Rattle.wgsl.specs.File.{trailer_of, length_by, type_entry_from, type_entry_at, member_entry_from, member_entry_at, size_is_given, align_is_given, given_size, given_align, rest_is_zero, between, check_trailer, member_entry_length}
use Rattle.wgsl.specs.Rule.{when, and_then, unused, scalar_of_kind, scalar_in, lower, members_from, scalar_made, vector_made, matrix_made, runtime_made, atomic_made, struct_made, over_made, type_made, type_of_entry, is_matrix_scalar, is_atomic_scalar, is_last, count_of, member_allowed, members_allowed, is_allowed, at_least, given_size_fits, is_multiple, given_align_fits, members_given_fit, given_fits, judged, types_below, names_member, is_named, all_named, types_of}
use Rattle.wgsl.specs.Case.{type_entry, member_given, member_entry, trailer}
use Rattle.wgsl.specs.StrayCase.{members, two_structs, no_struct, bad_entry}
use Rattle.wgsl.specs.Claim.{Stray, IsAccepted}
use Rattle.wgsl.proofs.Requests as requests

pub record StrayWitnesses : Type 0 where
  pub accepted_if : IsAccepted (two_structs 0 3 1 3 4)
  pub entries_first : types_of bad_entry ≡ refused 5 1
  pub stray_is : Stray (two_structs 0 1 2 2 4) 1
  pub stray_refused : types_of (two_structs 0 1 2 2 4) ≡ refused 24 1
  pub stray_one : ◌≡◌ {A = ℕ} 1 1

pub stray_witnesses : StrayWitnesses
unfolding load bytes_of up within_limit is_runtime ends_in_runtime is_open everywhere every_member both given_or is_present present width_of vec3_align vector_size vector_align start_after end_after member_start member_end size_of align_of members_align members_end stride_of own_stride_of min_size_of offsets_of inner_numbers_of numbers_of within_limits fits_limit has_layout is_stored is_plain is_storable refuse or_refuse trailer_of length_by member_entry_length type_entry_from type_entry_at member_entry_from member_entry_at size_is_given align_is_given given_size given_align rest_is_zero between check_trailer when and_then unused scalar_of_kind is_scalar_kind scalar_in lower members_from scalar_made vector_made matrix_made runtime_made atomic_made struct_made over_made type_made type_of_entry is_matrix_scalar is_atomic_scalar is_last count_of member_allowed members_allowed is_allowed at_least given_size_fits is_multiple given_align_fits members_given_fit given_fits judged types_below names_member is_named all_named types_of scalar_kind type_entry member_given member_entry ◌>>=◌ ◌>>◌ trailer members two_structs no_struct bad_entry
stray_witnesses =
    let stray : Stray (two_structs 0 1 2 2 4) 1 = requests.stray_is (two_structs 0 1 2 2 4) 1 refl in
    record {
      accepted_if = (requests.accepted_if (two_structs 0 3 1 3 4)).only_if _ refl;
      entries_first = requests.entries_first bad_entry refl refl;
      stray_is = stray;
      stray_refused = requests.stray_refused (two_structs 0 1 2 2 4) 1 stray;
      stray_one = requests.stray_one stray stray;
    }
