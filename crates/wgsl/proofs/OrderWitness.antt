-- Each law of E10 (Requests) that has hypotheses, at a struct and an order that meet them: antt computes that they do. A law that nothing
-- meets would have no line here.
--
-- The file is that of specs/OrderCase: its entry 8, a struct of a u32, a vec4 and a u32, and the order that puts the vec4 first; and entry 9,
-- which ends in a runtime array.
-- Assumes nothing.
use Prim.Native.Nat.{ℕ, zero, suc, ◌<◌}
use mathlib.Core.Bool.{false}
use mathlib.Core.List.{List, [], ◌∷◌}
use mathlib.Core.Option.{none}
use mathlib.Core.Path.{◌≡◌, refl}
use native.Mathlib.Omega.{arith}
use lib.ListN.{length, get_or}
use Rattle.wgsl.specs.Number.{load, bytes_of}
use Rattle.wgsl.specs.Round.{up, within_limit, is_power, power_below}
use Rattle.wgsl.specs.Types.{u32, scalar, vector, runtime, Members, no_more, member, is_runtime, ends_in_runtime, is_open, everywhere, every_member, is_scalar_kind, scalar_kind}
use Rattle.wgsl.specs.Size.{both, given_or, is_present, present, width_of, vec3_align, vector_size, vector_align, start_after, end_after, member_start, member_end, size_of, align_of, members_align, members_end, stride_of, own_stride_of, min_size_of, offsets_of, inner_numbers_of, numbers_of, within_limits, fits_limit, has_layout, is_stored, is_plain, is_storable}
use Rattle.wgsl.specs.Said.{good, ◌>>=◌, ◌>>◌, refuse, or_refuse}
use Rattle.wgsl.specs.File.{trailer_of, length_by, type_entry_from, type_entry_at, member_entry_from, member_entry_at, size_is_given, align_is_given, given_size, given_align, rest_is_zero, between, check_trailer, member_entry_length}
use Rattle.wgsl.specs.Rule.{when, and_then, unused, scalar_of_kind, scalar_in, lower, members_from, scalar_made, vector_made, matrix_made, array_made, runtime_made, atomic_made, struct_made, over_made, type_made, type_of_entry, is_matrix_scalar, is_atomic_scalar, is_last, count_of, member_allowed, members_allowed, is_allowed, at_least, given_size_fits, is_multiple, given_align_fits, members_given_fit, given_fits, is_well_formed, judged, types_below, names_member, is_named, all_named, types_of}
use Rattle.wgsl.specs.Place.{tail_at, members_tail, tail_of, extent_by, extent_of}
use Rattle.wgsl.specs.Call.{Done, entry_of}
use Rattle.wgsl.specs.Order.{members_in, struct_members, aligned_at, falling, runtimes_at, planned_order, plan_members, plan_call, chosen, reordered, appears, all_differ, in_order, end_of, is_better, new_end, order_call}
use Rattle.wgsl.specs.OrderClaim.{member_at, is_runtime_one, is_runtime_at, IsPlanned, CanPlan, Times, nowhere, here, elsewhere, Accepted, CanOrder}
use Rattle.wgsl.specs.Case.{type_entry, member_given, member_entry, trailer}
use Rattle.wgsl.specs.OrderCase.{shuffled}
use Rattle.wgsl.proofs.Requests as requests

-- the members of entry 8, and in the order 1, 0, 2
unfoldable pub spread : Members
spread = member (scalar u32) none none (member (vector 4 u32) none none (member (scalar u32) none none no_more))

unfoldable pub packed : Members
packed = member (vector 4 u32) none none (member (scalar u32) none none (member (scalar u32) none none no_more))

-- the members of entry 9
unfoldable pub open_ended : Members
open_ended =
    member (scalar u32) none none (member (vector 2 u32) none none (member (scalar u32) none none
    (member (runtime (scalar u32)) none none no_more)))

abbrev pub order : List ℕ
order = 1 ∷ 0 ∷ 2 ∷ []

-- ---- each condition of an accepted order, at this one

once_each : (i : ℕ) → i < 3 → Times i order 1
once_each zero l = elsewhere {i = 0} {j = 1} (λ e. omega arith) (here (elsewhere {i = 0} {j = 2} (λ e. omega arith) nowhere))
once_each (suc zero) l = here (elsewhere {i = 1} {j = 0} (λ e. omega arith) (elsewhere {i = 1} {j = 2} (λ e. omega arith) nowhere))
once_each (suc (suc zero)) l = elsewhere {i = 2} {j = 1} (λ e. omega arith) (elsewhere {i = 2} {j = 0} (λ e. omega arith) (here nowhere))
once_each (suc (suc (suc i))) l = absurd (omega arith)

kept_each : (i : ℕ) → i < 3 → member_at packed i ≡ member_at spread (get_or order i 0)
unfolding member_at spread packed
kept_each zero l = refl
kept_each (suc zero) l = refl
kept_each (suc (suc zero)) l = refl
kept_each (suc (suc (suc i))) l = absurd (omega arith)

no_runtime : (i : ℕ) → suc i < 3 → is_runtime_at packed i ≡ false
unfolding member_at is_runtime_one is_runtime packed
no_runtime zero l = refl
no_runtime (suc zero) l = refl
no_runtime (suc (suc i)) l = absurd (omega arith)

pub record OrderWitnesses : Type 0 where
  pub planned_order_lem : IsPlanned spread order
  pub planned_open : IsPlanned open_ended (1 ∷ 0 ∷ 2 ∷ 3 ∷ [])
  pub planned_one : (other : List ℕ) → IsPlanned spread other → other ≡ order
  pub planned_length : length (planned_order spread) ≡ 3
  pub plan_good : (d : Done) × (plan_call shuffled 8 (9 ∷ 9 ∷ 9 ∷ 7 ∷ []) ≡ good d)
  pub can_plan : CanPlan shuffled 8 (9 ∷ 9 ∷ 9 ∷ [])
  pub plan_leaves : plan_call shuffled 8 (9 ∷ 9 ∷ 9 ∷ 7 ∷ []) ≡ good (record { value = 3; contents = 1 ∷ 0 ∷ 2 ∷ 7 ∷ [] })
  pub accepted : Accepted 8 spread order packed
  pub order_good : (end : ℕ) × (order_call shuffled 8 order ≡ good end)
  pub can_order : CanOrder shuffled 8 order
  pub order_answers : order_call shuffled 8 order ≡ good 32
  pub order_new_one : (other : Members) → Accepted 8 spread order other → other ≡ packed

pub order_witnesses : OrderWitnesses
unfolding load bytes_of up within_limit is_runtime ends_in_runtime is_open everywhere every_member is_scalar_kind scalar_kind both given_or is_present present width_of vec3_align vector_size vector_align start_after end_after member_start member_end size_of align_of members_align members_end stride_of own_stride_of min_size_of offsets_of inner_numbers_of numbers_of within_limits fits_limit has_layout is_stored is_plain is_storable ◌>>=◌ ◌>>◌ refuse or_refuse trailer_of length_by type_entry_from type_entry_at member_entry_from member_entry_at size_is_given align_is_given given_size given_align rest_is_zero between check_trailer member_entry_length when and_then unused scalar_of_kind scalar_in lower members_from scalar_made vector_made matrix_made array_made runtime_made atomic_made struct_made over_made type_made type_of_entry is_matrix_scalar is_atomic_scalar is_last count_of member_allowed members_allowed is_allowed at_least given_size_fits is_multiple given_align_fits members_given_fit given_fits judged types_below names_member is_named all_named types_of tail_at members_tail tail_of extent_by extent_of entry_of members_in struct_members aligned_at falling runtimes_at planned_order plan_members plan_call chosen reordered appears all_differ in_order end_of is_better new_end order_call is_well_formed is_power power_below type_entry member_given member_entry trailer shuffled spread packed open_ended
order_witnesses =
    let is_planned : IsPlanned spread order = requests.planned_order_lem 8 spread refl in
    let accepted : Accepted 8 spread order packed = record {
      once = once_each;
      length_same = refl;
      count_same = refl;
      kept = kept_each;
      runtime_last = no_runtime;
      within = refl;
      smaller = omega arith;
    } in
    let has_room : CanPlan shuffled 8 (9 ∷ 9 ∷ 9 ∷ 7 ∷ []) = record {
      number = 8;
      members = spread;
      entry = refl;
      room = omega arith;
    } in
    let can : CanOrder shuffled 8 order = record {
      number = 8;
      members = spread;
      entry = refl;
      new = packed;
      accepted = accepted;
    } in
    record {
      planned_order_lem = is_planned;
      planned_open = requests.planned_order_lem 9 open_ended refl;
      planned_one = λ other p. requests.planned_one p is_planned;
      planned_length = requests.planned_length 8 spread refl;
      plan_good = (requests.plan_good_if shuffled 8 (9 ∷ 9 ∷ 9 ∷ 7 ∷ [])).if_so has_room;
      can_plan = (requests.plan_good_if shuffled 8 (9 ∷ 9 ∷ 9 ∷ [])).only_if _ refl;
      plan_leaves = requests.plan_leaves has_room;
      accepted = accepted;
      order_good = (requests.order_good_if shuffled 8 order).if_so can;
      can_order = (requests.order_good_if shuffled 8 order).only_if _ refl;
      order_answers = requests.order_answers can;
      order_new_one = λ other a. requests.order_new_one a accepted;
    }
