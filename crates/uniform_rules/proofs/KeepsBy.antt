-- The rules by the table (specs/Keeps) are the rules of an entry's type (crates/wgsl, specs/Uniform).
--
-- In order: the members of a struct, one in front of those after it, and all of them; every entry.
-- Assumes nothing.
use Prim.Native.Nat.{ℕ, zero, suc, ◌+◌, ◌*◌, ◌%◌, ◌≤◌, max}
use mathlib.Core.Bool.{true, ◌&&◌}
use mathlib.Core.List.{List}
use mathlib.Core.Logic.{⊎_elim}
use mathlib.Core.Option.{Option, some, some-injective}
use mathlib.Core.Path.{◌≡◌, refl, sym, ap, ◌∙◌}
use native.Mathlib.Nat.{suc-mul}
use native.Mathlib.Omega.{arith}
use borrow.Author.Tests.{ne_eqb}
use lib.Dec.{leb}
use lib.ListN.{take, get_elem?}
use Rattle.wgsl.specs.Round.{up}
use Rattle.wgsl.specs.Types.{Ty, struct, Members, no_more, member, is_runtime, everywhere, scalar_kind, kind_of, struct_kind}
use Rattle.wgsl.specs.Size.{is_present, present, given_or, size_of, align_of, member_start, member_end}
use Rattle.wgsl.specs.File.{trailer_of, member_entry_at, given_size, given_align, type_entry_at}
use Rattle.wgsl.specs.Rule.{is_last, members_from, is_multiple, is_well_formed, given_align_fits}
use Rattle.wgsl.specs.Uniform.{uniform_align, earliest_after, members_keep, keeps_uniform}
use Rattle.wgsl.proofs.Round.{up_multiple}
use Rattle.wgsl.proofs.Absent.{some_present, given_present}
use Rattle.wgsl.proofs.Align.{align_power, member_aligned}
use Rattle.wgsl.proofs.Shape.{multiple_trans}
use Rattle.wgsl.proofs.Members.{start_is as member-start}
use Rattle.wgsl.proofs.Said.{when_some, and_then_some}
use Rattle.wgsl.proofs.AtEntry.{Refers, to_none, to_vector, to_matrix, to_array, to_runtime, to_atomic, to_members}
use Rattle.file.specs.Members.{member_bytes, member_length}
use Rattle.layout_values.specs.declared.value.Value.{Value}
use Rattle.layout_values.specs.Value.{parts_of, stride_in, value_of, value_at}
use Rattle.wgsl.proofs.ScalarKind.{no_scalar_kind}
use Rattle.walk_trees.specs.Slot.{member_value, slot_at}
use Rattle.walk_shapes.specs.Basis.{Basis}
use Rattle.walk_shapes.proofs.Basis.{basis_layout, basis_well_formed, basis_refers}
use Rattle.walk_shapes.proofs.Says.{kind_is, struct_says}
use Rattle.walk_shapes.proofs.MemberRead.{Ruled, struct_ruled, first_ruled, rest_ruled, last_none, count_from, Read, read, first_placeable, first_start, first_end}
use Rattle.uniform_rules.specs.Keeps.{is_raised, start_keeps, earliest_by, slots_keep, SlotsAll, keeps_by, KeepsAsk}
use Rattle.uniform_rules.proofs.StartKeeps.{scalar_not_raised, start_is, earliest_is}

-- ---- the members of a struct

-- A member starts at a multiple of its type's own alignment.
own_multiple : (lo : ℕ) (t : Ty) (align : Option ℕ) (own : ℕ) → everywhere is_well_formed t ≡ true → align_of t ≡ some own → given_align_fits t align ≡ true → present (member_start (some lo) align (align_of t)) % own ≡ 0
unfolding member_start present
own_multiple lo t align own w is fits =
    let a = given_present align (align_of t) (some_present is) in
    let aligned = member_aligned t align a.0 (λ o h. align_power t o w h) fits a.1 in
    rw (member-start lo a.0 (given_or align (align_of t)) a.1)
    (multiple_trans own a.0 (up a.0 lo) (aligned.multiple own is) (up_multiple a.0 lo))

-- members, where the one before them ended at lo, as the table says them
pub record Kept (f : List ℕ) (table : List Value) (c m lo : ℕ) (ns : Members) : Type 0 where
  pub slots_all : SlotsAll (member_bytes f) table (member_length f) c (m * member_length f) lo
  pub keeps_is : (earliest : ℕ) → slots_keep (member_bytes f) table (member_length f) c (m * member_length f) lo earliest ≡ members_keep earliest (some lo) ns

module _ {f : List ℕ} {ts : List Ty} {ms : List ℕ} {table : List Value} (basis : Basis f ts ms table) (e : ℕ) where
  -- those after a member
  rest_kept : (c m lo : ℕ) (t : Ty) (ns : Members) → Read f ts table e m t → members_from f (take e ts) c (suc m) ≡ some ns → Ruled (some lo) (member t (given_size (member_entry_at f m)) (given_align (member_entry_at f m)) ns) → ((lo' : ℕ) → Ruled (some lo') ns → Kept f table c (suc m) lo' ns) →
      SlotsAll (member_bytes f) table (member_length f) c (m * member_length f + member_length f) (slot_at (member_bytes f) table (m * member_length f) lo).end
      × ((earliest : ℕ) → slots_keep (member_bytes f) table (member_length f) c (m * member_length f + member_length f) (slot_at (member_bytes f) table (m * member_length f) lo).end earliest ≡ members_keep earliest (member_end (some lo) (given_align (member_entry_at f m)) (align_of t) (given_size (member_entry_at f m)) (size_of t)) ns)
  unfolding SlotsAll slots_keep members_keep
  rest_kept c m lo t ns r are x more =
      let end = (slot_at (member_bytes f) table (m * member_length f) lo).end in
      let byte : m * member_length f + member_length f ≡ suc m * member_length f = sym (suc-mul m (member_length f)) in
      ⊎_elim
      (λ (p : is_present (size_of t) ≡ true).
      let next = first_end r x p in
      let y = more end (rw next at (rest_ruled x)) in
      rw (byte, next) (y.slots_all, y.keeps_is))
      (λ (p : (is_last ns ≡ true) × (is_runtime t ≡ true)).
      let last = last_none f (take e ts) c (suc m) ns are p.0 in
      rw (last.0, last.1) (tt, λ earliest. refl))
      (first_ruled x).sized_or_last

  -- one member, in front of those after it
  more_kept : (c m lo : ℕ) (t : Ty) (ns : Members) → Read f ts table e m t → members_from f (take e ts) c (suc m) ≡ some ns → Ruled (some lo) (member t (given_size (member_entry_at f m)) (given_align (member_entry_at f m)) ns) → ((lo' : ℕ) → Ruled (some lo') ns → Kept f table c (suc m) lo' ns) → Kept f table (suc c) m lo (member t (given_size (member_entry_at f m)) (given_align (member_entry_at f m)) ns)
  unfolding SlotsAll slots_keep members_keep
  more_kept c m lo t ns r are x more =
      let align = given_align (member_entry_at f m) in
      let s = slot_at (member_bytes f) table (m * member_length f) lo in
      let start : ℕ = present (member_start (some lo) align (align_of t)) in
      let own = first_ruled x in
      let multiple = own_multiple lo t align own.own own.well own.own_is own.align_fits in
      let here : (earliest : ℕ) → start_keeps (member_value (member_bytes f) table (m * member_length f)) earliest s.start ≡ (is_multiple (uniform_align t) start && leb earliest start) =
      λ earliest. rw (first_start r x, r.is_layout) (start_is _ _ t own.own start earliest own.well own.own_is multiple) in
      let next : (earliest : ℕ) → earliest_by (member_value (member_bytes f) table (m * member_length f)) earliest s.start ≡ max earliest (earliest_after start t) =
      λ earliest. rw (first_start r x, r.is_layout) (earliest_is _ _ t start earliest) in
      let after = rest_kept c m lo t ns r are x more in
      record {
        slots_all = (first_placeable r x, after.0);
        keeps_is = λ earliest. rw (here earliest, next earliest, after.1 (max earliest (earliest_after start t)));
      }

  kept : (c m lo : ℕ) (ns : Members) → members_from f (take e ts) c m ≡ some ns → m + c ≤ (trailer_of f).members → Ruled (some lo) ns → Kept f table c m lo ns
  unfolding members_from SlotsAll slots_keep members_keep
  kept zero m lo ns are within x = let q : ns ≡ no_more = cc in rw q (record { slots_all = tt; keeps_is = λ earliest. refl })
  kept (suc c) m lo ns are within x =
      let t = and_then_some _ _ (when_some _ _ are).1 in
      let rest = and_then_some _ _ t.after in
      let q = some-injective _ _ rest.after in
      rw (← q)
      (more_kept c m lo t.value rest.value (read basis m t.value (omega arith) t.first) rest.first (rw (← q) at x)
      (λ lo' y. kept c (suc m) lo' rest.value rest.first (omega arith) y))

-- ---- every entry

module _ {f : List ℕ} {ts : List Ty} {ms : List ℕ} {table : List Value} (basis : Basis f ts ms table) (e : ℕ) where
  -- the members of a struct
  struct_kept : {members : Members} → get_elem? ts e ≡ some (struct e members) → members_from f (take e ts) (type_entry_at f e).count (type_entry_at f e).reference ≡ some members → (type_entry_at f e).reference + (type_entry_at f e).count ≤ (trailer_of f).members → Kept f table (value_at table e).count (value_at table e).reference 0 members
  struct_kept {members} there are within =
      let x = struct_says basis e there in
      rw (x.1 ∙ count_from f (take e ts) _ _ members are, x.2)
      (kept basis e _ _ 0 members are within (struct_ruled e members (basis_well_formed basis e (struct e members) there)))

  is_kept : {t : Ty} → Refers f ts e (type_entry_at f e) t → get_elem? ts e ≡ some t → keeps_by ms table (value_at table e) ≡ keeps_uniform t
  unfolding keeps_by is_raised keeps_uniform value_of kind_of stride_in parts_of is_multiple
  is_kept (to_none s) there =
      rw (
        basis_layout basis e _ there,
        ne_eqb (scalar_kind s) 12 (no_scalar_kind s 12 (omega arith) (omega arith)),
        scalar_not_raised s,
        ne_eqb (scalar_kind s) 11 (no_scalar_kind s 11 (omega arith) (omega arith)),
      )
  is_kept (to_vector s low below) there = rw (basis_layout basis e _ there)
  is_kept (to_matrix s low below) there = rw (basis_layout basis e _ there)
  is_kept (to_array u low below) there = rw (basis_layout basis e _ there)
  is_kept (to_runtime u none low below) there = rw (basis_layout basis e _ there)
  is_kept (to_atomic s low below) there = rw (basis_layout basis e _ there)
  is_kept (to_members members are within) there =
      let k : (value_at table e).kind ≡ 12 = ap (λ (v : Value). v.kind) (basis_layout basis e _ there) in
      rw (k, (struct_says basis e there).0, basis.members_are) ((struct_kept there are within).keeps_is 0)

  all_placed : {t : Ty} → Refers f ts e (type_entry_at f e) t → get_elem? ts e ≡ some t → (value_at table e).kind ≡ struct_kind → SlotsAll ms table (value_at table e).stride (value_at table e).count ((value_at table e).reference * (value_at table e).stride) 0
  unfolding value_of kind_of
  all_placed (to_none s) there is = absurd (no_scalar_kind s 12 (omega arith) (omega arith) (sym (kind_is basis e _ there) ∙ is))
  all_placed (to_vector s low below) there is = absurd (omega (arith, kind_is basis e _ there))
  all_placed (to_matrix s low below) there is = absurd (omega (arith, kind_is basis e _ there))
  all_placed (to_array u low below) there is = absurd (omega (arith, kind_is basis e _ there))
  all_placed (to_runtime u none low below) there is = absurd (omega (arith, kind_is basis e _ there))
  all_placed (to_atomic s low below) there is = absurd (omega (arith, kind_is basis e _ there))
  all_placed (to_members members are within) there is =
      rw ((struct_says basis e there).0, basis.members_are) (struct_kept there are within).slots_all

  module _ {t : Ty} (there : get_elem? ts e ≡ some t) where
    -- The rules can be asked of every entry,
    pub keeps_ask : KeepsAsk ms table (value_at table e)
    keeps_ask = record { slots_all = all_placed (basis_refers basis e t there) there }

    -- and what the table says of them, its type says.
    pub keeps_is : keeps_by ms table (value_at table e) ≡ keeps_uniform t
    keeps_is = is_kept (basis_refers basis e t there) there
