-- Each law of E11 (Requests) that has hypotheses, at starts that meet them: antt computes that they do. A law that nothing meets would have
-- no line here.
--
-- The struct and its two buffers are those of SiteWitness; the other factory sheet is that of specs/StartCase.
-- Assumes nothing.
use mathlib.Core.List.{List, [], ◌∷◌}
use mathlib.Core.Path.{◌≡◌, refl}
use Rattle.wgsl.specs.Number.{load, bytes_of, store}
use Rattle.wgsl.specs.Round.{up, within_limit}
use Rattle.wgsl.specs.Types.{Ty, is_runtime, ends_in_runtime, is_open, everywhere, every_member, is_scalar_kind, scalar_kind}
use Rattle.wgsl.specs.Size.{both, given_or, is_present, present, width_of, vec3_align, vector_size, vector_align, start_after, end_after, member_start, member_end, size_of, align_of, members_align, members_end, stride_of, own_stride_of, min_size_of, offsets_of, inner_numbers_of, numbers_of, within_limits, fits_limit, has_layout, is_stored, is_plain, is_storable}
use Rattle.wgsl.specs.Said.{good, ◌>>=◌, ◌>>◌, refuse, or_refuse}
use Rattle.wgsl.specs.File.{trailer_of, length_by, type_entry_from, type_entry_at, member_entry_from, member_entry_at, size_is_given, align_is_given, given_size, given_align, rest_is_zero, between, check_trailer, member_entry_length}
use Rattle.wgsl.specs.Rule.{when, and_then, unused, scalar_of_kind, scalar_in, lower, members_from, scalar_made, vector_made, matrix_made, runtime_made, atomic_made, struct_made, over_made, type_made, type_of_entry, is_matrix_scalar, is_atomic_scalar, is_last, count_of, member_allowed, members_allowed, is_allowed, at_least, given_size_fits, is_multiple, given_align_fits, members_given_fit, given_fits, judged, types_below, names_member, is_named, all_named, types_of}
use Rattle.wgsl.specs.Place.{column, tail_at, members_tail, tail_of, extent_by, extent_of, elements_by, elements_in, shape_of, fields_of, span_of, words_over, words_for, word_places, repeated, store_words, can_hold, check_words}
use Rattle.wgsl.specs.Path.{step_of, enter, walk}
use Rattle.wgsl.specs.Call.{entry_of, allowed, is_short, scalar_at, set_scalar, set_target}
use Rattle.wgsl.specs.BitField.{bit_at}
use Rattle.wgsl.specs.Site.{SiteDone, is_block, block_entry, block_in, settings_of, every_bit, copied_whole, inheriting_call, fresh_call, member_of}
use Rattle.wgsl.specs.Case.{type_entry, member_given, member_entry, trailer}
use Rattle.wgsl.specs.SiteCase.{settings, factory_bytes, site_bytes}
use Rattle.wgsl.specs.SiteClaim.{shown_bytes, bytes_in}
use Rattle.wgsl.specs.StartClaim.{Fresh, made_fresh, made_inheriting, Change, set, clear, answers_to, left_after, is_clear, is_set, never_clears, never_sets, ShowAlike, Independent}
use Rattle.wgsl.specs.StartCase.{new_sheet}
use Rattle.wgsl.proofs.SiteWitness.{block, window}
use Rattle.wgsl.proofs.Requests as requests

-- a scalar set in member 1, member 0 cleared, a set that is refused
unfoldable pub changes : List Change
changes = set 1 (1 ∷ []) (9 ∷ []) ∷ clear 0 ∷ set 2 (0 ∷ []) (9 ∷ []) ∷ []

-- what a fresh block of it leaves
unfoldable pub fresh : SiteDone
fresh = record { value = 0; site = factory_bytes; mask = 7 }

pub record StartWitnesses : Type 0 where
  pub fresh_did : (t : Ty) × Fresh settings 3 factory_bytes site_bytes fresh t
  pub starts_agree : ShowAlike settings 3 factory_bytes block (left_after settings 3 factory_bytes changes (made_fresh fresh)) (left_after settings 3 factory_bytes changes (made_inheriting site_bytes 0))
  pub changes_alike : answers_to settings 3 factory_bytes changes (made_fresh fresh) ≡ answers_to settings 3 factory_bytes changes (made_inheriting site_bytes 0)
  pub fresh_independent : Independent settings 3 factory_bytes new_sheet block changes (made_fresh fresh)
  pub inheriting_follows : shown_bytes window (left_after settings 3 factory_bytes (clear 1 ∷ []) (made_inheriting site_bytes 0)).mask 1 new_sheet (left_after settings 3 factory_bytes (clear 1 ∷ []) (made_inheriting site_bytes 0)).site ≡ bytes_in window new_sheet

pub start_witnesses : StartWitnesses
unfolding load bytes_of store up within_limit is_runtime ends_in_runtime is_open everywhere every_member is_scalar_kind scalar_kind both given_or is_present present width_of vec3_align vector_size vector_align start_after end_after member_start member_end size_of align_of members_align members_end stride_of own_stride_of min_size_of offsets_of inner_numbers_of numbers_of within_limits fits_limit has_layout is_stored is_plain is_storable ◌>>=◌ ◌>>◌ refuse or_refuse trailer_of length_by type_entry_from type_entry_at member_entry_from member_entry_at size_is_given align_is_given given_size given_align rest_is_zero between check_trailer member_entry_length when and_then unused scalar_of_kind scalar_in lower members_from scalar_made vector_made matrix_made runtime_made atomic_made struct_made over_made type_made type_of_entry is_matrix_scalar is_atomic_scalar is_last count_of member_allowed members_allowed is_allowed at_least given_size_fits is_multiple given_align_fits members_given_fit given_fits judged types_below names_member is_named all_named types_of column tail_at members_tail tail_of extent_by extent_of elements_by elements_in shape_of fields_of span_of words_over words_for word_places repeated store_words can_hold check_words step_of enter walk entry_of allowed is_short scalar_at set_scalar set_target bit_at is_block block_entry block_in settings_of every_bit copied_whole inheriting_call fresh_call member_of is_clear is_set never_clears never_sets left_after type_entry member_given member_entry trailer settings factory_bytes site_bytes new_sheet block window changes fresh
start_witnesses =
    let made : fresh_call settings 3 factory_bytes site_bytes ≡ good fresh = refl in
    let none : ShowAlike settings 3 factory_bytes block (made_fresh fresh) (made_inheriting site_bytes 0) = (requests.starts_agree settings 3 factory_bytes site_bytes fresh made 0 refl site_bytes block refl []).1 in
    record {
      fresh_did = requests.fresh_did made;
      starts_agree = (requests.starts_agree settings 3 factory_bytes site_bytes fresh made 0 refl site_bytes block refl changes).1;
      changes_alike = (requests.changes_alike none changes).0;
      fresh_independent = requests.fresh_independent settings 3 factory_bytes site_bytes fresh made new_sheet block refl changes;
      inheriting_follows =
          requests.inheriting_follows settings 3 0 refl factory_bytes site_bytes (clear 1 ∷ []) 1 refl window new_sheet;
    }
