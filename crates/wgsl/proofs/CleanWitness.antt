-- Each law of E9 (Requests) that has hypotheses, at a buffer that meets them: antt computes that it does. A law that nothing meets would have
-- no line here.
--
-- The file is that of specs/CleanCase: of its entries a struct of a u32, a vec3 and a u32, and a runtime array of vec3.
-- Assumes nothing.
use Prim.Native.Nat.{ℕ}
use mathlib.Core.List.{List, ◌++◌}
use mathlib.Core.Option.{none}
use mathlib.Core.Path.{◌≡◌, refl}
use native.Mathlib.Omega.{arith}
use lib.ListN.{take, replicate}
use Rattle.wgsl.specs.Number.{load, bytes_of}
use Rattle.wgsl.specs.Round.{up, within_limit}
use Rattle.wgsl.specs.Types.{u32, Ty, scalar, vector, runtime, struct, no_more, member, is_runtime, ends_in_runtime, is_open, everywhere, every_member, is_scalar_kind, scalar_kind}
use Rattle.wgsl.specs.Size.{both, given_or, is_present, present, width_of, vec3_align, vector_size, vector_align, start_after, end_after, member_start, member_end, size_of, align_of, members_align, members_end, stride_of, own_stride_of, min_size_of, offsets_of, inner_numbers_of, numbers_of, within_limits, fits_limit, has_layout, is_stored, is_plain, is_storable}
use Rattle.wgsl.specs.Said.{good, ◌>>=◌, ◌>>◌, refuse, or_refuse}
use Rattle.wgsl.specs.File.{trailer_of, length_by, type_entry_from, type_entry_at, member_entry_from, member_entry_at, size_is_given, align_is_given, given_size, given_align, rest_is_zero, between, check_trailer, member_entry_length}
use Rattle.wgsl.specs.Rule.{when, and_then, unused, scalar_of_kind, scalar_in, lower, members_from, scalar_made, vector_made, matrix_made, array_made, runtime_made, atomic_made, struct_made, over_made, type_made, type_of_entry, is_matrix_scalar, is_atomic_scalar, is_last, count_of, member_allowed, members_allowed, is_allowed, at_least, given_size_fits, is_multiple, given_align_fits, members_given_fit, given_fits, judged, types_below, names_member, is_named, all_named, types_of}
use Rattle.wgsl.specs.Place.{column, tail_at, members_tail, tail_of, extent_by, extent_of, elements_by, elements_in, shape_of, fields_of, span_of, words_over, words_for, word_places, repeated, places_of, places, word_count, words_read}
use Rattle.wgsl.specs.Call.{entry_of, allowed, entry_for, is_short, read_elements, read_type, read_call, write_call}
use Rattle.wgsl.specs.Clean.{CleanDone, is_inside, is_covered, clean_byte, clean_from, cleaned, differing, first_differing, done_from, clean_type, clean_call}
use Rattle.wgsl.specs.Case.{type_entry, member_given, member_entry, trailer}
use Rattle.wgsl.specs.CleanCase.{gappy, full, bare}
use Rattle.wgsl.specs.Claim.{Stored, HasRoom}
use Rattle.wgsl.specs.CleanClaim.{OnPath, CanClean, Cleans}
use Rattle.wgsl.proofs.FormWitness.{all_bytes, byte_at}
use Rattle.wgsl.proofs.Absent.{true_not_false}
use Rattle.wgsl.proofs.Requests as requests

-- entries 4 and 8
unfoldable pub spaced : Ty
spaced =
    struct 4 (member (scalar u32) none none (member (vector 3 u32) none none (member (scalar u32) none none no_more)))

unfoldable pub vectors : Ty
vectors = runtime (vector 3 u32)

-- what the struct is cleaned to, from rubbish; the same with no byte more
abbrev clean33 : List ℕ
clean33 = full 4 ++ bare 12 ++ full 17

abbrev shortest : List ℕ
shortest = full 4 ++ bare 12 ++ full 16

-- two vec3 without rubbish, and no byte more
abbrev clean32 : List ℕ
clean32 = full 12 ++ bare 4 ++ full 12 ++ bare 4

pub record CleanWitnesses : Type 0 where
  pub stored : Stored gappy 4 (full 33) spaced
  pub room : HasRoom spaced (full 33)
  pub on_path : OnPath gappy 4 (full 33) 31
  pub in_gap : OnPath gappy 4 (full 33) 15 → ⊥
  pub on_path_open : OnPath gappy 8 (full 33) 27
  pub in_gap_open : OnPath gappy 8 (full 33) 28 → ⊥
  pub clean_good : (d : CleanDone) × (clean_call gappy 4 (full 33) ≡ good d)
  pub can_clean : CanClean gappy 4 (full 33)
  pub clean_did : Cleans gappy 4 (full 33) (record { changed = 12; first = 4; contents = clean33 })
  pub clean_did_open : Cleans gappy 8 (full 33) (record { changed = 8; first = 12; contents = clean32 ++ full 1 })
  pub clean_same_words : take 32 clean33 ≡ take 32 shortest
  pub clean_same_open : take 32 (clean32 ++ full 1) ≡ take 32 clean32
  pub clean_is_write : write_call gappy 4 (replicate 5 4294967295) (full 33) ≡ good (record { value = 32; contents = clean33 })

pub clean_witnesses : CleanWitnesses
unfolding all_bytes load bytes_of up within_limit is_runtime ends_in_runtime is_open everywhere every_member is_scalar_kind scalar_kind both given_or is_present present width_of vec3_align vector_size vector_align start_after end_after member_start member_end size_of align_of members_align members_end stride_of own_stride_of min_size_of offsets_of inner_numbers_of numbers_of within_limits fits_limit has_layout is_stored is_plain is_storable ◌>>=◌ ◌>>◌ refuse or_refuse trailer_of length_by type_entry_from type_entry_at member_entry_from member_entry_at size_is_given align_is_given given_size given_align rest_is_zero between check_trailer member_entry_length when and_then unused scalar_of_kind scalar_in lower members_from scalar_made vector_made matrix_made array_made runtime_made atomic_made struct_made over_made type_made type_of_entry is_matrix_scalar is_atomic_scalar is_last count_of member_allowed members_allowed is_allowed at_least given_size_fits is_multiple given_align_fits members_given_fit given_fits judged types_below names_member is_named all_named types_of column tail_at members_tail tail_of extent_by extent_of elements_by elements_in shape_of fields_of span_of words_over words_for word_places repeated places_of places word_count words_read entry_of allowed entry_for is_short read_elements read_type read_call is_inside is_covered clean_byte clean_from cleaned differing first_differing done_from clean_type clean_call type_entry member_given member_entry trailer gappy full bare spaced vectors
clean_witnesses =
    let stored : Stored gappy 4 (full 33) spaced = record { entry = refl; within = omega arith; layout = refl; storable = refl } in
    let room : HasRoom spaced (full 33) = omega arith in
    let stored_open : Stored gappy 8 (full 33) vectors = record { entry = refl; within = omega arith; layout = refl; storable = refl } in
    let room_open : HasRoom vectors (full 33) = omega arith in
    let bytes = byte_at (full 33) refl in
    record {
      stored = stored;
      room = room;
      on_path = (requests.covered_by_path stored room 31).0 refl;
      in_gap = λ o. true_not_false ((requests.covered_by_path stored room 15).1 o) refl;
      on_path_open = (requests.covered_by_path stored_open room_open 27).0 refl;
      in_gap_open = λ o. true_not_false ((requests.covered_by_path stored_open room_open 28).1 o) refl;
      clean_good = (requests.clean_good_if gappy 4 (full 33)).if_so (record { type = spaced; stored = stored; room = room });
      can_clean = (requests.clean_good_if gappy 4 (full 33)).only_if _ refl;
      clean_did = requests.clean_did refl;
      clean_did_open = requests.clean_did refl;
      clean_same_words =
          (requests.clean_same_words gappy 4 (full 33) shortest (bare 7) {t = spaced} refl refl refl refl refl bytes (byte_at shortest refl)).1;
      clean_same_open =
          (requests.clean_same_words gappy 8 (full 33) clean32 (bare 7) {t = vectors} refl refl refl refl refl bytes (byte_at clean32 refl)).1;
      clean_is_write = requests.clean_is_write gappy 4 (full 33) (bare 7) {t = spaced} refl refl refl bytes;
    }
