-- A struct of an accepted file, as orders ask for it (specs/Entries).
--
-- In order: one member; all of them; the struct.
-- Assumes nothing.
use Prim.Native.Nat.{ℕ, zero, suc, ◌+◌, ◌*◌, ◌<◌, ◌≤◌}
use mathlib.Core.Bool.{true, ◌||◌, or-true}
use mathlib.Core.List.{List}
use mathlib.Core.Logic.{⊎_elim}
use mathlib.Core.Option.{Option, none, some, some-injective}
use mathlib.Core.Path.{◌≡◌, refl, ap, ◌∙◌}
use native.Mathlib.Nat.{suc-mul, mul-le-mul_right, mul_comm}
use native.Mathlib.Omega.{arith}
use lib.ListN.{take, get_elem?}
use Rattle.wgsl.specs.Types.{Ty, struct, Members, no_more, is_runtime, kind_of}
use Rattle.wgsl.specs.Size.{is_present, present, size_of, align_of}
use Rattle.wgsl.specs.File.{trailer_of, TypeEntry, member_entry_at, type_entry_at, given_size, given_align, rest_is_zero}
use Rattle.wgsl.specs.Rule.{count_of, lower, members_from, member_allowed}
use Rattle.wgsl.proofs.Absent.{some_present, hold_both}
use Rattle.wgsl.proofs.Said.{when_some, and_then_some}
use Rattle.wgsl.proofs.Passed.{struct_passed}
use Rattle.wgsl.proofs.AtEntry.{Refers, to_members}
use Rattle.wgsl.proofs.Members.{Member}
use Rattle.file.specs.Members.{member_bytes, member_length}
use Rattle.layout_values.specs.declared.value.Value.{Value}
use Rattle.layout_values.specs.Value.{parts_of, stride_in, value_at, value_of}
use Rattle.layout_values.proofs.ValuesOf.{own_reference}
use Rattle.walk_shapes.specs.Basis.{Basis}
use Rattle.walk_shapes.proofs.Basis.{basis_layout, basis_well_formed, basis_refers}
use Rattle.walk_shapes.proofs.MemberBytes.{length_member_bytes}
use Rattle.walk_shapes.proofs.MemberRead.{Ruled, struct_ruled, first_ruled, rest_ruled, count_from, read}
use Rattle.orders_members.specs.Entries.{Entered, Entries, none, more, Struct}

-- ---- one member

-- a member type has an alignment, and a size or is a runtime array
allowed_last : {t : Ty} {size align : Option ℕ} {ms : Members} → Member t size align ms → member_allowed true t ≡ true
unfolding member_allowed
allowed_last {t} x =
    hold_both (is_present (align_of t)) (is_present (size_of t) || is_runtime t) (some_present x.own_is)
    (⊎_elim (λ h. rw h refl) (λ h. rw h.1 (or-true (is_present (size_of t)))) x.sized_or_last)

-- what a struct's entry refers to
named : {f : List ℕ} {ts : List Ty} {k j : ℕ} {x : TypeEntry} {ms : Members} → Refers f ts k x (struct j ms) → (members_from f (take k ts) x.count x.reference ≡ some ms) × (x.reference + x.count ≤ (trailer_of f).members)
named (to_members ms are within) = (are, within)

module _ {f : List ℕ} {ts : List Ty} {bytes : List ℕ} {table : List Value} (basis : Basis f ts bytes table) (e : ℕ) where
  entered : (m : ℕ) (t : Ty) (ms : Members) → m < (trailer_of f).members → rest_is_zero (member_entry_at f m) ≡ true → lower (take e ts) (member_entry_at f m).type ≡ some t → Member t (given_size (member_entry_at f m)) (given_align (member_entry_at f m)) ms → Entered (member_bytes f) table (m * member_length f) t (given_size (member_entry_at f m)) (given_align (member_entry_at f m))
  entered m t ms h zeros is x =
      let r = read basis {e = e} m t h is in
      record {
        inside = r.inside;
        type_inside = r.type_inside;
        value_is = own_reference (member_length f) _ t r.is_layout;
        well_formed = x.well;
        size_is = ap given_size r.is_entry;
        align_is = ap given_align r.is_entry;
        rest_zero = ap rest_is_zero r.is_entry ∙ zeros;
        allowed = allowed_last x;
        size_fits = x.size_fits;
        align_fits = x.align_fits;
      }

  -- ---- all of them

  entries_from_lem : (c m : ℕ) (ms : Members) {end : Option ℕ} → members_from f (take e ts) c m ≡ some ms → m + c ≤ (trailer_of f).members → Ruled end ms → Entries (member_bytes f) table (member_length f) c (m * member_length f) ms
  unfolding members_from
  entries_from_lem zero m ms are within x = let q : ms ≡ no_more = cc in rw q none
  entries_from_lem (suc c) m ms are within x =
      let w = when_some _ _ are in
      let t = and_then_some _ _ w.1 in
      let rest = and_then_some _ _ t.after in
      let q = some-injective _ _ rest.after in
      let y = rw (← q) at x in
      let next : m * member_length f + member_length f ≡ suc m * member_length f = omega (arith, suc-mul m (member_length f)) in
      let later : Entries (member_bytes f) table (member_length f) c (m * member_length f + member_length f) rest.value =
      rw next (entries_from_lem c (suc m) rest.value rest.first (omega arith) (rest_ruled y)) in
      rw (← q) (more (entered m t.value rest.value (omega arith) w.0 t.first (first_ruled y)) later)

  -- ---- the struct

  pub struct_at : (k : ℕ) (ms : Members) → get_elem? ts e ≡ some (struct k ms) → Struct bytes table (value_at table e) ms
  unfolding value_of parts_of stride_in present kind_of
  struct_at k ms there =
      let t = struct k ms in
      let x = type_entry_at f e in
      let layout = basis_layout basis e t there in
      let well = basis_well_formed basis e t there in
      let from = named (basis_refers basis e t there) in
      let passed = struct_passed k ms well in
      let stride : (value_at table e).stride ≡ member_length f = ap (λ (l : Value). l.stride) layout in
      let reference : (value_at table e).reference ≡ x.reference = ap (λ (l : Value). l.reference) layout in
      let count : (value_at table e).count ≡ count_of ms = ap (λ (l : Value). l.count) layout in
      let given : count_of ms ≡ x.count = count_from f (take e ts) x.count x.reference ms from.0 in
      record {
        number = k;
        value_is = own_reference (member_length f) x.reference t layout;
        well_formed = well;
        kind_is = ap (λ (l : Value). l.kind) layout;
        count_is = count;
        entries = rw (stride, reference, count ∙ given, basis.members_are) (entries_from_lem x.count x.reference ms from.0 from.1 (struct_ruled k ms well));
        few = omega (arith, count, passed.few);
        inside = rw (stride, reference, count ∙ given, basis.members_are, length_member_bytes f ts basis.good_file)
            (omega (arith, mul-le-mul_right (member_length f) from.1, mul_comm (member_length f) (trailer_of f).members));
      }
