-- Each law of Claims and Requests that has hypotheses, at a file or at numbers that meet them: antt computes that they do. A law that nothing meets
-- would have no line here.
--
-- The files are those of specs/Case: a matrix (P11), a struct with a given size (P7), an open struct (P10), an array too large (P9); those
-- of specs/BoolCase and UniformCase; and two entries that break 5 and 6, and 6 and 7.
-- Assumes nothing.
use Prim.Native.Nat.{ℕ, zero, suc, ◌^◌, ◌<◌, ◌≤◌, ◌+◌, ◌-◌, ◌*◌, min}
use mathlib.Core.Bool.{true, false}
use mathlib.Core.List.Memᴰ
use mathlib.Core.List.{List, [], ◌∷◌, ◌++◌}
use mathlib.Core.Logic.{inr}
use mathlib.Core.Option.{none, some}
use mathlib.Core.Path.{◌≡◌, refl}
use native.Mathlib.Omega.{arith}
use lib.ListN.{get_or, take, drop, get_elem?, replicate}
use Rattle.wgsl.specs.Number.{load, bytes_of, store}
use Rattle.wgsl.specs.Round.{IsUp, up, IsPower, power_below, is_power, limit, within_limit}
use Rattle.wgsl.specs.Types.{bool, u32, f32, f16, Ty, scalar, vector, matrix, array, runtime, struct, no_more, member, is_runtime, ends_in_runtime, is_open, everywhere, every_member, is_scalar_kind, i64, u64, scalar_kind}
use Rattle.wgsl.specs.Size.{both, given_or, is_present, present, width_of, vec3_align, vector_size, vector_align, start_after, end_after, member_start, member_end, size_of, align_of, members_align, members_end, stride_of, own_stride_of, min_size_of, offsets_of, inner_numbers_of, numbers_of, within_limits, fits_limit, has_layout, is_stored, is_plain, is_storable}
use Rattle.wgsl.specs.Said.{good, refused, ◌>>=◌, ◌>>◌, refuse, or_refuse}
use Rattle.wgsl.specs.File.{trailer_of, length_by, type_entry_from, type_entry_at, member_entry_from, member_entry_at, size_is_given, align_is_given, given_size, given_align, rest_is_zero, between, check_trailer, member_entry_length}
use Rattle.wgsl.specs.Rule.{when, and_then, unused, scalar_of_kind, scalar_in, lower, members_from, scalar_made, vector_made, matrix_made, array_made, runtime_made, atomic_made, struct_made, over_made, type_made, type_of_entry, is_matrix_scalar, is_atomic_scalar, is_last, count_of, member_allowed, members_allowed, is_allowed, at_least, given_size_fits, is_multiple, given_align_fits, members_given_fit, given_fits, is_well_formed, judged, types_below, names_member, is_named, all_named, types_of}
use Rattle.wgsl.specs.Place.{tail_at, members_tail, tail_of, extent_by, extent_of, elements_by, elements_in, one, column, shape_of, fields_of, span_of, word_places, words_for, words_over, repeated, places_of, places, word_count, store_words, written, words_read, can_hold, check_words}
use Rattle.wgsl.specs.Path.{step_of, enter, walk}
use Rattle.wgsl.specs.Call.{Done, check_of, entry_of, allowed, entry_for, is_short, read_elements, read_type, read_call, elements_for, is_wrong_count, write_words, write_elements, write_type, write_call, target_in, target_call, view_call, scalar_at, set_scalar, set_target, set_call}
use Rattle.wgsl.specs.BoolCase.{bool_file}
use Rattle.wgsl.specs.Claim.{is_bool, is_no_bool, Lowest, ByElement, Ordered, types_in, member_step, CanRead, CanWrite, CanView, CanSet, CanField, Wrote, Read, Reaches, CanUniform, LowestBroken, Fit, Holds, together}
use Rattle.wgsl.specs.BitField.{start_of, bits_of, bit_at, field_at, repeated_top, extracted_u32, extracted_i32, put_at, inserted, is_inside, bit_extracted, bit_inserted}
use Rattle.wgsl.specs.BitFieldCall.{is_integer, is_signed, integer_of, integer_at, word_of, extracted_as, extract_call, insert_call}
use Rattle.wgsl.specs.Uniform.{uniform_align, earliest_after, members_keep, keeps_uniform, is_uniform, member_types, refers_to, any_of, reaches_by, reaches, is_broken_type, is_broken, lowest_from, lowest_broken, refuse_broken, may_live, uniform_call}
use Rattle.wgsl.specs.UniformCase.{broken_file, nested_file}
use Rattle.wgsl.specs.Rank.{if_same, scalar_rank}
use Rattle.wgsl.specs.WideCase.{wide_file}
use Rattle.wgsl.specs.Demand.{Given, Leading, SetThenRead, OnePath}
use Rattle.wgsl.specs.Case.{type_entry, member_given, member_entry, trailer, array_of_u32, open_struct, matrix_of_f32, struct_with_size}
use Rattle.wgsl.proofs.Absent.{true_not_false}
use Rattle.wgsl.proofs.Reach.{reach_cases}
use Rattle.wgsl.proofs.Claims as claims
use Rattle.wgsl.proofs.Requests as requests

-- ---- what is asked

-- u32, abstract int, and a struct of both, the first with a given size of 3: 5 for the second member, and 6 for the first
unfoldable pub five_and_six : List ℕ
five_and_six =
    type_entry 2 0 0 0 0
    ++ type_entry 5 0 0 0 0
    ++ type_entry 12 0 0 0 2
    ++ member_given 0 1 3 0
    ++ member_entry 1
    ++ trailer 3 2

-- u32, and a struct of two of it with given sizes of 3 and 4,294,967,295: 6 for the first, 7 for both
unfoldable pub six_and_seven : List ℕ
six_and_seven =
    type_entry 2 0 0 0 0 ++ type_entry 12 0 0 0 2 ++ member_given 0 1 3 0 ++ member_given 0 1 4_294_967_295 0 ++ trailer 2 2

unfoldable pub matrix_types : List Ty
matrix_types = scalar f32 ∷ matrix 3 3 f32 ∷ []

-- the words of `open_struct` with two elements, and a buffer for them
unfoldable pub nine : List ℕ
nine = 1 ∷ 2 ∷ 3 ∷ 4 ∷ 5 ∷ 6 ∷ 7 ∷ 8 ∷ 9 ∷ []

unfoldable pub rubbish : List ℕ
rubbish = replicate 50 7

-- the matrix's scalar of P11, and the second member of P7
unfoldable pub in_matrix : List ℕ
in_matrix = 2 ∷ 1 ∷ []

unfoldable pub in_struct : List ℕ
in_struct = member_step 1 ∷ []

-- member 2 of the struct of E6's cases
unfoldable pub in_wide : List ℕ
in_wide = member_step 2 ∷ []

-- its bytes are bytes
rubbish_byte : (n i : ℕ) → get_or (replicate n 7) i 0 < 256
rubbish_byte zero i = omega arith
rubbish_byte (suc n) zero = omega arith
rubbish_byte (suc n) (suc i) = rubbish_byte n i

-- ---- the laws

pub record Witnesses : Type 0 where
  pub stored_is_read : load 2 (store 2 (replicate 4 0) 1 258) 1 ≡ 258
  pub store_stays_inside : get_or (store 2 (replicate 4 7) 1 258) 3 0 ≡ 7
  pub rounding : IsUp 16 12 (up 16 12)
  pub rounding_unique : up 16 12 ≡ 16
  pub power_test_sound : IsPower 16
  pub power_test_complete : is_power 16 ≡ true
  pub refers_downwards : (t : Ty) × (get_elem? matrix_types 1 ≡ some t) × (judged matrix_of_f32 (take 1 matrix_types) 1 ≡ good t)
  pub well_formed : everywhere is_well_formed (matrix 3 3 f32) ≡ true
  pub lowest_bad_entry : Lowest (array_of_u32 1_073_741_824) 2 7 1
  pub five_before_six : Lowest five_and_six 3 5 2
  pub six_before_seven : Lowest six_and_seven 2 6 1
  pub alignments : IsPower 16 × (16 ≤ 2 ^ 31)
  pub numbers_within_limit : 48 ≤ limit
  pub places_in_order : Ordered (places 0 (matrix 3 3 f32)) 0 (extent_of 0 (matrix 3 3 f32))
  pub some_words : 1 ≤ word_count 0 (matrix 3 3 f32)
  pub members_lie : view_call struct_with_size 1 in_struct (replicate 24 0) ≡ good (record { offset = 20; shape = one u32 })
  pub can_read : CanRead open_struct 4 rubbish nine
  pub can_write : CanWrite open_struct 4 nine rubbish
  pub can_view : CanView matrix_of_f32 1 in_matrix rubbish
  pub can_set : CanSet matrix_of_f32 1 in_matrix (5 ∷ []) rubbish
  pub wrote : Done
  pub write_good : write_call open_struct 4 nine rubbish ≡ good wrote
  pub writing : Wrote open_struct 4 nine rubbish wrote
  pub read : Done
  pub read_good : read_call open_struct 4 rubbish nine ≡ good read
  pub reading : Read open_struct 4 rubbish nine read
  pub reading_what_was_written : read_call open_struct 4 (take wrote.value wrote.contents) rubbish ≡ good (record { value = 9; contents = nine ++ drop 9 rubbish })
  pub refused_places_fit : 1 < 2 ^ 32
  pub matrix_given : Given matrix_of_f32 1 rubbish
  pub matrix_leading : Leading matrix_of_f32 1 rubbish in_matrix 36 f32
  pub matrix_demand : SetThenRead matrix_given in_matrix 36 f32 (5 ∷ []) nine
  pub matrix_path : OnePath matrix_given (record { at = 36; width = 4 })
  pub struct_given : Given struct_with_size 1 rubbish
  pub struct_leading : Leading struct_with_size 1 rubbish in_struct 20 u32
  pub struct_demand : SetThenRead struct_given in_struct 20 u32 (5 ∷ []) nine
  -- E1
  pub strides_unique : own_stride_of (vector 3 f16) ≡ some 8
  pub array_by_element : ByElement (array 4 (vector 3 f32)) (vector 3 f32) (λ n. 4)
  pub runtime_by_element : ByElement (runtime (vector 3 f32)) (vector 3 f32) (λ n. n)
  pub stride_is_larger : up 16 12 ≡ 16
  pub strides_within_limit : 48 ≤ limit
  -- E2
  pub extract_signed_bit : bit_at (extracted_i32 2_048 0 12) 31 ≡ true
  pub insert_only : 4_080 ≡ inserted 0 255 4 8
  pub extract_whole : (extracted_u32 7 0 32 ≡ 7) × (extracted_i32 7 0 32 ≡ 7)
  pub extract_none : (extracted_u32 7 32 1 ≡ 0) × (extracted_i32 7 32 1 ≡ 0)
  pub insert_none : inserted 7 1 32 1 ≡ 7
  pub can_field : CanField struct_with_size 1 in_struct rubbish
  pub insertion_is_set : insert_call struct_with_size 1 in_struct 255 4 8 rubbish ≡ set_call struct_with_size 1 in_struct (inserted (load 4 rubbish 20) 255 4 8 ∷ []) rubbish
  pub insertion_alone : SetThenRead struct_given in_struct 20 u32 (inserted (load 4 rubbish 20) 255 4 8 ∷ []) nine
  pub insertion : Done
  pub insert_good : insert_call struct_with_size 1 in_struct 255 4 8 rubbish ≡ good insertion
  pub extraction_after_insertion : extract_call struct_with_size 1 in_struct insertion.contents 4 8 ≡ good 255
  -- E4
  pub bool_not_storable : is_storable (vector 3 bool) ≡ false
  pub bool_refused : entry_for true bool_file 1 rubbish ≡ refused 10 0
  -- E5
  pub can_uniform : CanUniform nested_file 3
  pub uniform_names : (ts : List Ty) × (types_of broken_file ≡ good ts) × LowestBroken broken_file ts 4 1
  pub uniform_names_one : ◌≡◌ {A = ℕ} 1 1
  pub reached_by_steps : Reaches broken_file 4 1
  pub good_never_named : uniform_call broken_file 4 ≡ refused 19 3 → ⊥
  pub unreached_never_matters : uniform_call (array_of_u32 5) 0 ≡ uniform_call (array_of_u32 7) 0
  -- E6
  pub wide_given : Given wide_file 3 rubbish
  pub wide_leading : Leading wide_file 3 rubbish in_wide 16 u64
  pub wide_demand : SetThenRead wide_given in_wide 16 u64 (5 ∷ 6 ∷ []) nine
  pub set_number : load 8 wide_demand.b' 16 ≡ 25_769_803_781
  pub word_lies : (20 ≡ 16 + 4 * 1) × (4 ≡ min 4 (8 - 4 * 1))
  pub wide_to_itself : i64 ≡ i64
  pub none_to_wide : i64 ≡ i64
  pub no_wide_field : integer_of (record { offset = 16; shape = one u64 }) ≡ refused 14 0

pub witnesses : Witnesses
unfolding load bytes_of up power_below is_power within_limit is_runtime ends_in_runtime is_open everywhere every_member both given_or is_present present width_of vec3_align vector_size vector_align start_after end_after size_of align_of members_align members_end stride_of own_stride_of min_size_of offsets_of inner_numbers_of numbers_of within_limits fits_limit has_layout is_stored is_plain is_storable ◌>>=◌ ◌>>◌ refuse or_refuse trailer_of length_by member_entry_length type_entry_from type_entry_at member_entry_from member_entry_at size_is_given align_is_given given_size given_align rest_is_zero between check_trailer when and_then unused scalar_of_kind is_scalar_kind scalar_in lower members_from scalar_made vector_made matrix_made array_made runtime_made atomic_made struct_made over_made type_made type_of_entry is_matrix_scalar is_atomic_scalar is_last count_of member_allowed members_allowed is_allowed at_least given_size_fits is_multiple given_align_fits members_given_fit given_fits judged types_below names_member is_named all_named types_of tail_at members_tail tail_of extent_by extent_of elements_by elements_in column shape_of fields_of span_of word_places words_for words_over repeated places_of places word_count words_read step_of enter walk entry_of allowed entry_for is_short read_elements read_type read_call target_in target_call view_call type_entry member_given member_entry trailer array_of_u32 open_struct matrix_of_f32 struct_with_size member_start member_end member_step store store_words written can_hold check_words Fit elements_for is_wrong_count write_words write_elements write_type write_call scalar_at set_scalar set_target set_call types_in is_well_formed check_of start_of bits_of bit_at field_at repeated_top extracted_u32 extracted_i32 put_at inserted is_inside bit_extracted bit_inserted is_integer is_signed integer_of integer_at word_of extracted_as extract_call insert_call uniform_align earliest_after members_keep keeps_uniform is_uniform member_types refers_to any_of reaches_by reaches is_broken_type is_broken lowest_from lowest_broken refuse_broken may_live uniform_call broken_file nested_file is_bool is_no_bool bool_file five_and_six six_and_seven matrix_types nine rubbish in_matrix in_struct in_wide wide_file together scalar_rank if_same scalar_kind
witnesses =
    let types : types_below matrix_of_f32 2 ≡ good matrix_types = refl in
    let entry : entry_of matrix_of_f32 1 ≡ good (matrix 3 3 f32) = refl in
    let given : Given matrix_of_f32 1 rubbish = record {
      type = matrix 3 3 f32;
      size = 48;
      entry = refl;
      storable = refl;
      sized = refl;
      room = omega arith;
      within = omega arith;
    } in
    let leading : Leading matrix_of_f32 1 rubbish in_matrix 36 f32 = record { leads = refl } in
    let sized : Given struct_with_size 1 rubbish = record {
      type = struct 1 (member (scalar u32) (some 20) none (member (scalar u32) none none no_more));
      size = 24;
      entry = refl;
      storable = refl;
      sized = refl;
      room = omega arith;
      within = omega arith;
    } in
    let second : Leading struct_with_size 1 rubbish in_struct 20 u32 = record { leads = refl } in
    let widely : Given wide_file 3 rubbish = record {
      type = struct 3 (member (scalar i64) none none (member (scalar f16) none none (member (scalar u64) none none no_more)));
      size = 24;
      entry = refl;
      storable = refl;
      sized = refl;
      room = omega arith;
      within = omega arith;
    } in
    let third : Leading wide_file 3 rubbish in_wide 16 u64 = record { leads = refl } in
    let two_words : Holds 8 16 (5 ∷ 6 ∷ []) = record { count = refl; words_fit = (omega arith, (omega arith, tt)) } in
    let both_set = (claims.demand_3 widely).set_read in_wide 16 u64 third (5 ∷ 6 ∷ []) two_words nine (omega arith) in
    let bytes : (i : ℕ) → get_or rubbish i 0 < 256 = λ i. rubbish_byte 50 i in
    let named = requests.uniform_names broken_file 4 1 refl in
    let alone : (k : ℕ) → Reaches (array_of_u32 5) 0 k → k ≡ 0 = λ k r. reach_cases r (λ q. q) (λ i m rest. absurd (Memᴰ.not-nil m)) in
    record {
      stored_is_read = claims.stored_is_read 2 (replicate 4 0) 1 258 (omega arith) (omega arith);
      store_stays_inside = claims.store_stays_inside 2 (replicate 4 7) 1 258 3 (inr (omega arith));
      rounding = claims.rounding 16 12 (omega arith);
      rounding_unique = claims.rounding_unique (claims.rounding 16 12 (omega arith)) (claims.rounding 16 12 (omega arith));
      power_test_sound = claims.power_test_sound 16 refl;
      power_test_complete = claims.power_test_complete 16 (omega arith) (record { exponent = 4; is = refl });
      refers_downwards = claims.refers_downwards matrix_of_f32 2 matrix_types types 1 (omega arith);
      well_formed = claims.well_formed matrix_of_f32 matrix_types refl 1 (matrix 3 3 f32) refl;
      lowest_bad_entry = claims.lowest_bad_entry (array_of_u32 1_073_741_824) 2 refl;
      five_before_six = claims.lowest_bad_entry five_and_six 3 refl;
      six_before_seven = claims.lowest_bad_entry six_and_seven 2 refl;
      alignments = claims.alignments matrix_of_f32 matrix_types refl 1 (matrix 3 3 f32) refl 16 refl;
      numbers_within_limit = claims.numbers_within_limit matrix_of_f32 matrix_types refl 1 (matrix 3 3 f32) refl 48 (Memᴰ.head refl);
      places_in_order = claims.places_in_order matrix_of_f32 1 (matrix 3 3 f32) entry refl 0;
      some_words = claims.some_words 0 (matrix 3 3 f32) 16 refl refl (λ o. true_not_false o refl);
      members_lie =
          claims.members_lie {f = struct_with_size} {e = 1} {b = replicate 24 0}
          (record { entry = sized.entry; within = omega arith; layout = refl }) (omega arith) 1 20 (scalar u32) refl refl;
      can_read = (claims.reading_good_if open_struct 4 rubbish nine).only_if _ refl;
      can_write = (claims.writing_good_if open_struct 4 nine rubbish).only_if _ refl;
      can_view = (claims.viewing_good_if matrix_of_f32 1 in_matrix rubbish).only_if _ refl;
      can_set = (claims.setting_good_if matrix_of_f32 1 in_matrix (5 ∷ []) rubbish).only_if _ refl;
      wrote = _;
      write_good = refl;
      writing = claims.writing open_struct 4 nine rubbish _ refl;
      read = _;
      read_good = refl;
      reading = claims.reading open_struct 4 rubbish nine _ refl;
      reading_what_was_written = claims.reading_what_was_written open_struct 4 nine rubbish _ refl rubbish (omega arith);
      refused_places_fit = (claims.refused_places_fit (array_of_u32 1_073_741_824)).check 7 1 refl;
      matrix_given = given;
      matrix_leading = leading;
      matrix_demand = (claims.demand_3 given).set_read in_matrix 36 f32 leading (5 ∷ []) (record { count = refl; words_fit = (omega arith, tt) }) nine (omega arith);
      matrix_path = claims.place_has_one_path given (record { at = 36; width = 4 }) (claims.path_has_place given leading _ (Memᴰ.head refl));
      struct_given = sized;
      struct_leading = second;
      strides_unique = requests.strides_unique (vector 3 f16) (requests.strides (vector 3 f16)) (requests.strides (vector 3 f16));
      array_by_element = requests.array_by_element 4 (vector 3 f32) refl;
      runtime_by_element = requests.runtime_by_element (vector 3 f32) refl;
      stride_is_larger = requests.stride_is_larger (vector 3 f32) 16 12 refl refl refl;
      strides_within_limit = requests.strides_within_limit matrix_of_f32 matrix_types refl 1 (matrix 3 3 f32) refl 48 refl;
      extract_signed_bit = requests.extract_signed_bit 2_048 0 12 31 (omega arith) (omega arith);
      insert_only = requests.insert_only 0 255 4 8 4_080 (omega arith) (omega arith) (λ j low. requests.insert_bit 0 255 4 8 j);
      extract_whole = requests.extract_whole 7 0 32 (omega arith) refl refl;
      extract_none = requests.extract_none 7 32 1 refl;
      insert_none = requests.insert_none 7 1 32 1 refl;
      can_field = (requests.inserting_good_if struct_with_size 1 in_struct rubbish 255 4 8).only_if _ refl;
      insertion_is_set = requests.insertion_is_set second refl bytes 255 4 8;
      insertion_alone = (requests.insertion_alone sized second refl bytes 255 4 8 nine (omega arith)).0;
      insertion = _;
      insert_good = refl;
      extraction_after_insertion =
          requests.extraction_after_insertion struct_with_size 1 in_struct rubbish bytes 255 4 8 (record { offset = 20; scalar = u32 }) refl _ refl;
      struct_demand = (claims.demand_3 sized).set_read in_struct 20 u32 second (5 ∷ []) (record { count = refl; words_fit = (omega arith, tt) }) nine (omega arith);
      bool_not_storable = requests.bool_not_storable (vector 3 bool) refl;
      bool_refused = requests.bool_refused {f = bool_file} {e = 1} {b = rubbish} {t = vector 3 bool} (record { entry = refl; within = omega arith; layout = refl }) refl;
      can_uniform = (requests.uniform_good_if nested_file 3).only_if 0 refl;
      uniform_names = named;
      uniform_names_one = requests.uniform_names_one named.2 named.2;
      reached_by_steps = (requests.reached_by_steps broken_file _ refl {e = 4} refl 1).1 refl;
      good_never_named =
          requests.good_never_named broken_file 4 5 3 0 refl ((requests.reached_by_steps broken_file _ refl {e = 5} refl 3).1 refl);
      unreached_never_matters =
          requests.unreached_never_matters (array_of_u32 5) (array_of_u32 7) 0 (record {
            types = _;
            types' = _;
            accepted = refl;
            accepted' = refl;
            same_type = λ k r. rw (alone k r);
            same_references = λ k r. rw (alone k r);
          });
      wide_given = widely;
      wide_leading = third;
      wide_demand = both_set;
      set_number = requests.set_number widely third (5 ∷ 6 ∷ []) two_words nine (omega arith) both_set;
      word_lies = requests.word_lies u64 16 1 (record { at = 20; width = 4 }) refl;
      wide_to_itself = requests.wide_to_itself i64 i64 0 refl refl;
      none_to_wide = requests.none_to_wide i64 i64 0 refl refl;
      no_wide_field = requests.no_wide_field (record { offset = 16; shape = one u64 }) u64 refl refl;
    }
