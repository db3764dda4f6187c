-- Each law of E8 (Requests) that has hypotheses, at a block that meets them: antt computes that it does. A law that nothing meets would have
-- no line here.
--
-- The file is that of specs/SiteCase: a struct of a u32 with a given size of 8, a vec2 and an f16, and its two buffers.
-- Assumes nothing.
use Prim.Native.Nat.{◌+◌, ◌≤◌}
use mathlib.Core.Bool.{false}
use mathlib.Core.List.{[], ◌∷◌, map}
use mathlib.Core.Option.{none, some}
use mathlib.Core.Path.{◌≡◌, refl}
use native.Mathlib.Omega.{arith}
use Rattle.wgsl.specs.Number.{load, bytes_of, store}
use Rattle.wgsl.specs.Round.{up, within_limit}
use Rattle.wgsl.specs.Types.{u32, f16, Ty, scalar, vector, struct, no_more, member, is_runtime, ends_in_runtime, is_open, everywhere, every_member, is_scalar_kind, scalar_kind}
use Rattle.wgsl.specs.Size.{both, given_or, is_present, present, width_of, vec3_align, vector_size, vector_align, start_after, end_after, member_start, member_end, size_of, align_of, members_align, members_end, stride_of, own_stride_of, min_size_of, offsets_of, inner_numbers_of, numbers_of, within_limits, fits_limit, has_layout, is_stored, is_plain, is_storable}
use Rattle.wgsl.specs.Said.{good, ◌>>=◌, ◌>>◌, refuse, or_refuse}
use Rattle.wgsl.specs.File.{trailer_of, length_by, type_entry_from, type_entry_at, member_entry_from, member_entry_at, size_is_given, align_is_given, given_size, given_align, rest_is_zero, between, check_trailer, member_entry_length}
use Rattle.wgsl.specs.Rule.{when, and_then, unused, scalar_of_kind, scalar_in, lower, members_from, scalar_made, vector_made, matrix_made, runtime_made, atomic_made, struct_made, over_made, type_made, type_of_entry, is_matrix_scalar, is_atomic_scalar, is_last, count_of, member_allowed, members_allowed, is_allowed, at_least, given_size_fits, is_multiple, given_align_fits, members_given_fit, given_fits, judged, types_below, names_member, is_named, all_named, types_of}
use Rattle.wgsl.specs.Place.{column, tail_at, members_tail, tail_of, extent_by, extent_of, elements_by, elements_in, shape_of, fields_of, span_of, words_over, words_for, word_places, repeated, store_words, can_hold, check_words}
use Rattle.wgsl.specs.Path.{Target, step_of, enter, walk}
use Rattle.wgsl.specs.Call.{entry_of, allowed, is_short, scalar_at, set_scalar, set_target}
use Rattle.wgsl.specs.BitField.{bit_at}
use Rattle.wgsl.specs.Site.{SiteDone, with_bit, without_bit, is_block, block_entry, block_in, member_of, inheriting_call, member_call, shown_in, copied_in, site_set_call, clear_call}
use Rattle.wgsl.specs.Case.{type_entry, member_given, member_entry, trailer}
use Rattle.wgsl.specs.SiteCase.{settings, factory_bytes, site_bytes}
use Rattle.wgsl.specs.Claim.{member_step}
use Rattle.wgsl.specs.SiteClaim.{IsBlock, SetOnSite, Cleared}
use Rattle.wgsl.proofs.Requests as requests

-- the struct, and where its member 1 lies
unfoldable pub block : Ty
block =
    struct 3 (member (scalar u32) (some 8) none (member (vector 2 u32) none none (member (scalar f16) none none no_more)))

unfoldable pub window : Target
window = record { offset = 8; shape = shape_of 0 (vector 2 u32) }

pub record SiteWitnesses : Type 0 where
  pub block_is : IsBlock settings 3 5 factory_bytes site_bytes block
  pub block_if : block_in settings 3 5 factory_bytes site_bytes ≡ good block
  pub inheriting_shows : bit_at 0 2 ≡ false
  pub site_set : (d : SiteDone) × SetOnSite settings 3 1 (1 ∷ []) (9 ∷ []) 4 factory_bytes site_bytes d
  pub site_cleared : Cleared settings 3 2 5 1
  pub site_path : walk 0 0 (shape_of 0 block) (map step_of (member_step 1 ∷ 1 ∷ [])) ≡ walk 1 window.offset window.shape (map step_of (1 ∷ []))
  pub site_member_inside : window.offset + span_of window.shape ≤ present (size_of block)

pub site_witnesses : SiteWitnesses
unfolding load bytes_of store up within_limit is_runtime ends_in_runtime is_open everywhere every_member is_scalar_kind scalar_kind both given_or is_present present width_of vec3_align vector_size vector_align start_after end_after member_start member_end size_of align_of members_align members_end stride_of own_stride_of min_size_of offsets_of inner_numbers_of numbers_of within_limits fits_limit has_layout is_stored is_plain is_storable ◌>>=◌ ◌>>◌ refuse or_refuse trailer_of length_by type_entry_from type_entry_at member_entry_from member_entry_at size_is_given align_is_given given_size given_align rest_is_zero between check_trailer member_entry_length when and_then unused scalar_of_kind scalar_in lower members_from scalar_made vector_made matrix_made runtime_made atomic_made struct_made over_made type_made type_of_entry is_matrix_scalar is_atomic_scalar is_last count_of member_allowed members_allowed is_allowed at_least given_size_fits is_multiple given_align_fits members_given_fit given_fits judged types_below names_member is_named all_named types_of column tail_at members_tail tail_of extent_by extent_of elements_by elements_in shape_of fields_of span_of words_over words_for word_places repeated store_words can_hold check_words step_of enter walk entry_of allowed is_short scalar_at set_scalar set_target bit_at with_bit without_bit is_block block_entry block_in member_of inheriting_call member_call shown_in copied_in site_set_call clear_call type_entry member_given member_entry trailer settings factory_bytes site_bytes member_step block window
site_witnesses =
    let is : block_in settings 3 5 factory_bytes site_bytes ≡ good block = refl in
    let held : IsBlock settings 3 5 factory_bytes site_bytes block = requests.block_is is in
    record {
      block_is = held;
      block_if = requests.block_if held;
      inheriting_shows = (requests.inheriting_shows settings 3 0 refl).1 2;
      site_set = (_, requests.site_set refl);
      site_cleared = requests.site_cleared refl;
      site_path = requests.site_path block 1 window (1 ∷ []) (omega arith) refl;
      site_member_inside = requests.site_member_inside settings 3 5 factory_bytes site_bytes block 1 window is refl;
    }
