-- The members of a struct of an accepted file, as member steps find them (specs/Way; 01, refusal 11).
--
-- In order: what is found of a member; a member that is there; none past the last; none outside a struct;
-- a step at an entry.
-- Assumes nothing.
use Rattle.std.specs.Prelude.{Ok}
use Prim.Native.Nat.{ℕ, zero, suc, ◌+◌, ◌*◌, ◌<◌, ◌≤◌}
use mathlib.Core.Bool.{true, ◌||◌}
use mathlib.Core.List.{List}
use mathlib.Core.Logic.{◌⊎◌, inl, inr, ⊎_elim}
use mathlib.Core.Option.{Option, some, some-injective}
use mathlib.Core.Path.{◌≡◌, refl, ◌∙◌, sym}
use native.Mathlib.Nat.{suc-mul}
use native.Mathlib.Omega.{arith}
use lib.ListN.{length, take, get_elem?}
use Rattle.wgsl.specs.Round.{limit}
use Rattle.wgsl.specs.Types.{Ty, scalar, vector, matrix, array, runtime, atomic, struct, Members, no_more, is_runtime, is_open, kind_of, struct_kind}
use Rattle.wgsl.specs.Types as types
use Rattle.wgsl.specs.Size.{is_present, size_of, align_of, has_layout}
use Rattle.wgsl.specs.Said.{good, refused}
use Rattle.wgsl.specs.File.{trailer_of, member_entry_at, given_size, given_align, type_entry_at}
use Rattle.wgsl.specs.Rule.{is_last, count_of, members_from}
use Rattle.wgsl.specs.Place.{Shape, field, extent_of, shape_of, column, fields_of, span_of}
use Rattle.wgsl.specs.Path.{member, enter}
use Rattle.wgsl.proofs.Absent.{hold_both, some_present}
use Rattle.wgsl.proofs.Said.{when_some, and_then_some}
use Rattle.wgsl.proofs.Members.{member_has}
use Rattle.wgsl.proofs.AtEntry.{Refers, to_none, to_vector, to_matrix, to_array, to_runtime, to_atomic, to_members}
use Rattle.file.specs.Members.{member_bytes, member_length}
use Rattle.layout_values.specs.declared.value.Value.{Value}
use Rattle.layout_values.specs.Value.{value_at}
use Rattle.wgsl.proofs.ScalarKind.{no_scalar_kind}
use Rattle.walk_trees.specs.Slot.{slot_at, SlotAsks, slot_in, SlotsAsk}
use Rattle.walk_shapes.specs.Basis.{Basis}
use Rattle.walk_shapes.proofs.Basis.{basis_inside, basis_well_formed, basis_refers}
use Rattle.walk_shapes.proofs.Says.{struct_says}
use Rattle.walk_shapes.proofs.MemberRead.{Ruled, struct_ruled, first_ruled, rest_ruled, last_none, count_from, Read, read, first_placeable, first_start, first_end}
use Rattle.walk_path.specs.declared.enter.Stand.TheVariants.{Entry}
use Rattle.walk_path.specs.Way.{size_at, Stands, at_entry, Standing, Enters}
use Rattle.walk_path.proofs.SizeAt.{step_inside, kind_there, inner_size}
use Rattle.walk_path.proofs.IndexStep.{stands_sound}

-- ---- what is found of member i

-- of the members whose entries, each of so many bytes, begin at byte m; the one before them ended at `end`; x is their shape
pub record MemberFound (ts : List Ty) (ms : List ℕ) (table : List Value) (n long m end i : ℕ) (x : Shape) : Type 0 where
  pub slots_ask : SlotsAsk ms table long m end i
  pub type : Ty
  pub there : get_elem? ts (slot_in ms table long m end i).ty ≡ some type
  pub laid : has_layout type ≡ true
  pub sized : (is_present (size_of type) ≡ true) ⊎ (is_runtime type ≡ true)
  pub enters : (j : ℕ) → enter j x (member i) ≡ good (record { offset = (slot_in ms table long m end i).start; shape = shape_of n type })

module _ {f : List ℕ} {ts : List Ty} {ms : List ℕ} {table : List Value} (basis : Basis f ts ms table) (n e : ℕ) where
  -- ---- a member that is there

  first_found : {m lo : ℕ} {t : Ty} {others : Members} (z : ℕ) → Read f ts table e m t → Ruled (some lo) (types.member t (given_size (member_entry_at f m)) (given_align (member_entry_at f m)) others) → MemberFound ts (member_bytes f) table n (member_length f) (m * member_length f) lo 0 (fields_of n z (some lo) (types.member t (given_size (member_entry_at f m)) (given_align (member_entry_at f m)) others))
  unfolding SlotsAsk slot_in slot_at has_layout fields_of enter
  first_found {m} {lo} {t} {others} z r x =
      let v = first_ruled x in
      record {
        slots_ask = first_placeable r x;
        type = t;
        there = r.there;
        laid = hold_both (is_present (align_of t)) (is_open t || is_present (size_of t)) (some_present v.own_is) (member_has t _ _ others v);
        sized =
            ⊎_elim (λ (p : is_present (size_of t) ≡ true). inl p)
            (λ (p : (is_last others ≡ true) × (is_runtime t ≡ true)). inr p.1) v.sized_or_last;
        enters = λ j. rw (first_start r x);
      }

  later_found : (m end : ℕ) {i : ℕ} {offset : ℕ} {y rest : Shape} → SlotAsks (member_bytes f) table (m * member_length f) end → MemberFound ts (member_bytes f) table n (member_length f) (suc m * member_length f) (slot_at (member_bytes f) table (m * member_length f) end).end i rest → MemberFound ts (member_bytes f) table n (member_length f) (m * member_length f) end (suc i) (field offset y rest)
  unfolding SlotsAsk slot_in enter
  later_found m end {i} {rest = rest} p x =
      let next : suc m * member_length f ≡ m * member_length f + member_length f = suc-mul m (member_length f) in
      let on : MemberFound ts (member_bytes f) table n (member_length f) (m * member_length f + member_length f) (slot_at (member_bytes f) table (m * member_length f) end).end i rest = rw next at x in
      record {
        slots_ask = (p, on.slots_ask);
        type = on.type;
        there = on.there;
        laid = on.laid;
        sized = on.sized;
        enters = on.enters;
      }

  -- one member, in front of those after it
  more_found : (c m lo z i : ℕ) (t : Ty) (others : Members) → Read f ts table e m t → members_from f (take e ts) c (suc m) ≡ some others → Ruled (some lo) (types.member t (given_size (member_entry_at f m)) (given_align (member_entry_at f m)) others) → i < suc c → ((lo' i' : ℕ) → Ruled (some lo') others → i' < c → MemberFound ts (member_bytes f) table n (member_length f) (suc m * member_length f) lo' i' (fields_of n z (some lo') others)) → MemberFound ts (member_bytes f) table n (member_length f) (m * member_length f) lo i (fields_of n z (some lo) (types.member t (given_size (member_entry_at f m)) (given_align (member_entry_at f m)) others))
  unfolding fields_of
  more_found c m lo z zero t others r are x h later = first_found z r x
  more_found c m lo z (suc i) t others r are x h later =
      ⊎_elim
      (λ (p : is_present (size_of t) ≡ true).
      let next = first_end r x p in
      later_found m lo (first_placeable r x)
      (rw next (later (slot_at (member_bytes f) table (m * member_length f) lo).end i (rw next at (rest_ruled x)) (omega arith))))
      (λ (p : (is_last others ≡ true) × (is_runtime t ≡ true)).
      absurd (omega (arith, (last_none f (take e ts) c (suc m) others are p.0).0)))
      (first_ruled x).sized_or_last

  found : (c m lo z i : ℕ) (members : Members) → members_from f (take e ts) c m ≡ some members → m + c ≤ (trailer_of f).members → Ruled (some lo) members → i < c → MemberFound ts (member_bytes f) table n (member_length f) (m * member_length f) lo i (fields_of n z (some lo) members)
  unfolding members_from
  found zero m lo z i members are within x h = absurd (omega arith)
  found (suc c) m lo z i members are within x h =
      let t = and_then_some _ _ (when_some _ _ are).1 in
      let rest = and_then_some _ _ t.after in
      let q = some-injective _ _ rest.after in
      let r = read basis m t.value (omega arith) t.first in
      rw (← q)
      (more_found c m lo z i t.value rest.value r rest.first (rw (← q) at x) h
      (λ lo' i' y g. found c (suc m) lo' z i' rest.value rest.first (omega arith) y g))

-- ---- none past the last

past : (n z i : ℕ) (end : Option ℕ) (members : Members) → count_of members ≤ i → (j : ℕ) → enter j (fields_of n z end members) (member i) ≡ refused 11 j
unfolding count_of fields_of enter
past n z i end no_more h j = refl
past n z zero end (types.member t size align members) h j = absurd (omega arith)
past n z (suc i) end (types.member t size align members) h j = past n z i _ members (omega arith) j

-- ---- none outside a struct

outside : (n i : ℕ) (t : Ty) → (kind_of t ≡ struct_kind → ⊥) → (j : ℕ) → enter j (shape_of n t) (member i) ≡ refused 11 j
unfolding kind_of shape_of column enter
outside n i (scalar s) h j = refl
outside n i (vector c s) h j = refl
outside n i (matrix c r s) h j = refl
outside n i (array c t) h j = refl
outside n i (runtime t) h j = refl
outside n i (atomic s) h j = refl
outside n i (struct c members) h j = absurd (h refl)

-- ---- a member step at an entry

module _ {f : List ℕ} {ts : List Ty} {ms : List ℕ} {table : List Value} (basis : Basis f ts ms table) (n e : ℕ) where
  -- A struct's layout names its members.
  struct_found : {t : Ty} → Refers f ts e (type_entry_at f e) t → get_elem? ts e ≡ some t → (value_at table e).kind ≡ struct_kind → (i : ℕ) → i < (value_at table e).count → MemberFound ts ms table n (value_at table e).stride ((value_at table e).reference * (value_at table e).stride) 0 i (shape_of n t)
  unfolding kind_of shape_of
  struct_found (to_none s) there is i h = absurd (no_scalar_kind s 12 (omega arith) (omega arith) (sym (kind_there basis e (scalar s) there) ∙ is))
  struct_found (to_vector s down below) there is i h = absurd (omega (arith, kind_there basis e (vector _ s) there))
  struct_found (to_matrix s down below) there is i h = absurd (omega (arith, kind_there basis e (matrix _ _ s) there))
  struct_found (to_array u down below) there is i h = absurd (omega (arith, kind_there basis e (array _ u) there))
  struct_found (to_runtime u none down below) there is i h = absurd (omega (arith, kind_there basis e (runtime u) there))
  struct_found (to_atomic s down below) there is i h = absurd (omega (arith, kind_there basis e (atomic s) there))
  struct_found (to_members members are within) there is i h =
      let low : i < (type_entry_at f e).count = omega (arith, (struct_says basis e there).1, count_from f (take e ts) (type_entry_at f e).count _ members are) in
      rw ((struct_says basis e there).0, (struct_says basis e there).2, basis.members_are)
      (found basis n e (type_entry_at f e).count (type_entry_at f e).reference 0 (extent_of n (struct e members)) i members are within
      (struct_ruled e members (basis_well_formed basis e (struct e members) there)) low)

  struct_past : {t : Ty} → Refers f ts e (type_entry_at f e) t → get_elem? ts e ≡ some t → (i : ℕ) → (value_at table e).count ≤ i → (j : ℕ) → enter j (shape_of n t) (member i) ≡ refused 11 j
  unfolding shape_of column enter
  struct_past (to_none s) there i h j = refl
  struct_past (to_vector s down below) there i h j = refl
  struct_past (to_matrix s down below) there i h j = refl
  struct_past (to_array u down below) there i h j = refl
  struct_past (to_runtime u none down below) there i h j = refl
  struct_past (to_atomic s down below) there i h j = refl
  struct_past (to_members members are within) there i h j = past n _ i (some 0) members (omega (arith, (struct_says basis e there).1)) j

module _ {f : List ℕ} {ts : List Ty} {ms : List ℕ} {table : List Value} (basis : Basis f ts ms table) where
  -- Outside a struct there is no member,
  pub member_outside : {n e : ℕ} {x : Shape} → Stands ts n (Entry e) x → ((value_at table e).kind ≡ struct_kind → ⊥) → (i j : ℕ) → enter j x (member i) ≡ refused 11 j
  member_outside {n} (at_entry {e} {t} there laid) h i j = outside n i t (λ q. h (kind_there basis e t there ∙ q)) j

  -- nor past the last one;
  pub member_past : {n e : ℕ} {x : Shape} → Stands ts n (Entry e) x → (i : ℕ) → (value_at table e).count ≤ i → (j : ℕ) → enter j x (member i) ≡ refused 11 j
  member_past {n} (at_entry {e} {t} there laid) i h j = struct_past basis n e (basis_refers basis e t there) there i h j

  -- any other is there.
  pub member_found : {n e : ℕ} {x : Shape} → Stands ts n (Entry e) x → {l : Value} → l ≡ value_at table e → l.kind ≡ struct_kind → (i : ℕ) → i < l.count → MemberFound ts ms table n l.stride (l.reference * l.stride) 0 i x
  member_found {n} (at_entry {e} {t} there laid) same is i h =
      rw same (struct_found basis n e (basis_refers basis e t there) there (rw same at is) i (rw same at h))

-- What a walk finds of a member: its entry and the bytes of it, within the limit.
module _ {f : List ℕ} {ts : List Ty} {ms : List ℕ} {table : List Value} {n e : ℕ} {x : Shape} {long m i : ℕ} (s : Standing f ts ms table n (Entry e) x) (found : MemberFound ts ms table n long m 0 i x) where
  pub found_inside : (slot_in ms table long m 0 i).ty < length table
  found_inside = basis_inside s.basis _ found.type found.there

  found_size : size_at table n (slot_in ms table long m 0 i).ty ≡ span_of (shape_of n found.type)
  found_size = inner_size s.basis n _ found.type found.there found.laid found.sized

  pub found_within : size_at table n (slot_in ms table long m 0 i).ty ≤ limit
  found_within =
      let inside = (step_inside 0 x (member i) _ (stands_sound s.basis s.stands) (found.enters 0)).1 in
      rw found_size (omega (arith, s.within))

  pub found_enters : Enters ts n (Ok (record { offset = (slot_in ms table long m 0 i).start; size = size_at table n (slot_in ms table long m 0 i).ty; stand = Entry (slot_in ms table long m 0 i).ty })) x (member i)
  unfolding Enters
  found_enters = (shape_of n found.type, at_entry found.there found.laid, found_size, found.enters)
