-- Each law of E7 (Requests), at a file that meets its hypotheses: antt computes that it does. A law that nothing meets would have no line
-- here.
--
-- The files are those of specs/FormCase: u32 and a struct of two, three members, five bytes before them; in form 2 without names.
-- Assumes nothing.
use Prim.Native.Nat.{ℕ, zero, suc, ◌<◌}
use mathlib.Core.Bool.{Bool, true, ◌&&◌}
use mathlib.Core.List.{List, [], ◌∷◌}
use mathlib.Core.Path.{◌≡◌, refl}
use native.Mathlib.Omega.{arith}
use borrow.Author.Tests.{ltb-true}
use lib.Dec.{ltb}
use lib.ListN.{length, get_or, take, replicate}
use Rattle.wgsl.specs.Number.{load, bytes_of}
use Rattle.wgsl.specs.Round.{up, within_limit}
use Rattle.wgsl.specs.Types.{is_runtime, ends_in_runtime, is_open, everywhere, every_member, is_scalar_kind, scalar_kind}
use Rattle.wgsl.specs.Size.{both, given_or, is_present, present, width_of, vec3_align, vector_size, vector_align, start_after, end_after, member_start, member_end, size_of, align_of, members_align, members_end, stride_of, own_stride_of, min_size_of, offsets_of, inner_numbers_of, numbers_of, within_limits, fits_limit, has_layout, is_stored, is_plain, is_storable}
use Rattle.wgsl.specs.Said.{good, refused, ◌>>=◌, ◌>>◌, refuse, or_refuse}
use Rattle.wgsl.specs.File.{trailer_of, length_by, type_entry_from, type_entry_at, member_entry_from, member_entry_at, size_is_given, align_is_given, given_size, given_align, rest_is_zero, between, check_trailer, member_entry_length}
use Rattle.wgsl.specs.Rule.{when, and_then, unused, scalar_of_kind, scalar_in, lower, members_from, scalar_made, vector_made, matrix_made, runtime_made, atomic_made, struct_made, over_made, type_made, type_of_entry, is_matrix_scalar, is_atomic_scalar, is_last, count_of, member_allowed, members_allowed, is_allowed, at_least, given_size_fits, is_multiple, given_align_fits, members_given_fit, given_fits, judged, types_below, names_member, is_named, all_named, types_of}
use Rattle.wgsl.specs.Place.{column, tail_at, members_tail, tail_of, extent_by, extent_of, elements_by, elements_in, shape_of, fields_of, span_of, words_over, words_for, word_places, repeated, places_of, places, word_count}
use Rattle.wgsl.specs.Path.{step_of, enter, walk}
use Rattle.wgsl.specs.Call.{check_of, entry_of, size_call, answer_of, contents_of, allowed, entry_for, is_short, target_in, target_call, view_call, offset_of}
use Rattle.wgsl.specs.Claim.{member_step}
use Rattle.wgsl.specs.Case.{type_entry, member_given, member_entry}
use Rattle.wgsl.specs.Form.{member_place, name_at, nameless, entries_with, trailer_as, moved_to, to_form2, to_form1, form_is, filled, put_out, move_on_call, move_back_call, old_trailer}
use Rattle.wgsl.specs.FormCase.{trailer_at, named_member, two_entries, plain_file, named_file}
use Rattle.wgsl.specs.Claim.{SameAnswers, OfForm, CanMoveOn, CanMoveBack}
use Rattle.wgsl.proofs.Absent.{both_hold}
use Rattle.wgsl.proofs.Requests as requests

abbrev room : List ℕ
room = replicate 90 255

pub record FormWitnesses : Type 0 where
  pub names_ignored : SameAnswers (named_file 7 8 9) (to_form1 (named_file 7 8 9))
  pub can_move_on : CanMoveOn plain_file room
  pub can_move_back : CanMoveBack (named_file 0 0 0) room
  pub move_on_leaves : move_on_call plain_file room ≡ good (filled (named_file 0 0 0) room)
  pub move_back_leaves : move_back_call (named_file 0 0 0) room ≡ good (filled plain_file room)
  pub on_length : length (named_file 0 0 0) ≡ 87
  pub on_nameless : name_at (to_form2 plain_file) 2 ≡ 0
  pub on_keeps : take 29 (named_file 0 0 0) ≡ two_entries
  pub on_same : SameAnswers plain_file (named_file 0 0 0)
  pub back_same : SameAnswers (named_file 0 0 0) plain_file
  pub on_then_back : move_back_call (named_file 0 0 0) room ≡ good (filled plain_file room)
  pub back_then_on : move_on_call plain_file room ≡ good (filled (named_file 0 0 0) room)
  pub old_reader : old_trailer (named_file 0 0 0) ≡ refused 2 0

-- the bytes of a file are bytes
unfoldable pub all_bytes : List ℕ → Bool
all_bytes [] = true
all_bytes (b ∷ bs) = ltb b 256 && all_bytes bs

pub byte_at : (bs : List ℕ) → all_bytes bs ≡ true → (i : ℕ) → get_or bs i 0 < 256
unfolding all_bytes
byte_at [] h i = omega arith
byte_at (b ∷ bs) h zero = ltb-true b 256 (both_hold (ltb b 256) (all_bytes bs) h).0
byte_at (b ∷ bs) h (suc i) = byte_at bs (both_hold (ltb b 256) (all_bytes bs) h).1 i

pub form_witnesses : FormWitnesses
unfolding all_bytes load bytes_of up within_limit is_runtime ends_in_runtime is_open everywhere every_member both given_or is_present present width_of vec3_align vector_size vector_align start_after end_after member_start member_end size_of align_of members_align members_end stride_of own_stride_of min_size_of offsets_of inner_numbers_of numbers_of within_limits fits_limit has_layout is_stored is_plain is_storable refuse or_refuse trailer_of length_by member_entry_length type_entry_from type_entry_at member_entry_from member_entry_at size_is_given align_is_given given_size given_align rest_is_zero between check_trailer when and_then unused scalar_of_kind is_scalar_kind scalar_in lower members_from scalar_made vector_made matrix_made runtime_made atomic_made struct_made over_made type_made type_of_entry is_matrix_scalar is_atomic_scalar is_last count_of member_allowed members_allowed is_allowed at_least given_size_fits is_multiple given_align_fits members_given_fit given_fits judged types_below names_member is_named all_named types_of tail_at members_tail tail_of extent_by extent_of elements_by elements_in shape_of fields_of span_of words_over words_for word_places repeated places_of places word_count step_of enter walk scalar_kind check_of entry_of size_call answer_of contents_of allowed entry_for is_short target_in target_call view_call offset_of member_step type_entry member_given member_entry column ◌>>=◌ ◌>>◌ member_place name_at nameless entries_with trailer_as moved_to to_form2 to_form1 form_is filled put_out move_on_call move_back_call trailer_at named_member two_entries plain_file named_file old_trailer
form_witnesses =
    let one : OfForm 1 plain_file = record { is_form = refl; types = _; accepted = refl } in
    let two : OfForm 2 (named_file 0 0 0) = record { is_form = refl; types = _; accepted = refl } in
    let on : CanMoveOn plain_file room = (requests.move_on_good_if plain_file room).only_if _ refl in
    let back : CanMoveBack (named_file 0 0 0) room = (requests.move_back_good_if (named_file 0 0 0) room).only_if _ refl in
    record {
      names_ignored = requests.names_ignored (named_file 7 8 9) _ refl;
      can_move_on = on;
      can_move_back = back;
      move_on_leaves = requests.move_on_leaves on;
      move_back_leaves = requests.move_back_leaves back;
      on_length = requests.on_length one;
      on_nameless = requests.on_nameless one 2 (omega arith);
      on_keeps = requests.on_keeps one;
      on_same = requests.on_same plain_file room _ refl;
      back_same = requests.back_same (named_file 0 0 0) room _ refl;
      on_then_back = requests.on_then_back plain_file room _ refl room (byte_at plain_file refl) (omega arith);
      back_then_on = requests.back_then_on (named_file 0 0 0) room _ refl room (byte_at (named_file 0 0 0) refl) (omega arith);
      old_reader = requests.old_reader two;
    }
