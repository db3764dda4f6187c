-- What an entry of an accepted file refers to, by its value (specs/Lowest), is what the file says (crates/wgsl, specs/Uniform).
--
-- In order: the types of a struct's members; every entry; that something is told of all of them.
-- Assumes nothing.
use Prim.Native.Nat.{ℕ, zero, suc, ◌+◌, ◌*◌, ◌<◌, ◌≤◌}
use mathlib.Core.Bool.{false}
use mathlib.Core.List.{List}
use mathlib.Core.Option.{some}
use mathlib.Core.Path.{◌≡◌, refl, sym, ap, ◌∙◌}
use native.Mathlib.Nat.{suc-mul}
use native.Mathlib.Omega.{arith}
use lib.ListN.{take, get_elem?}
use Rattle.wgsl.specs.Types.{Ty, struct, Members, is_scalar_kind, kind_of, struct_kind}
use Rattle.wgsl.specs.File.{trailer_of, MemberEntry, type_entry_at}
use Rattle.wgsl.specs.Rule.{members_from}
use Rattle.wgsl.specs.Uniform.{member_types, refers_to}
use Rattle.wgsl.proofs.Absent.{true_not_false}
use Rattle.wgsl.proofs.Said.{when_some, and_then_some}
use Rattle.wgsl.proofs.AtEntry.{Refers, to_none, to_vector, to_matrix, to_array, to_runtime, to_atomic, to_members}
use Rattle.wgsl.proofs.Reach.{links_of, links}
use Rattle.file.specs.Members.{member_bytes, member_length}
use Rattle.layout_values.specs.declared.value.Value.{Value}
use Rattle.layout_values.specs.Value.{value_of, value_at}
use Rattle.wgsl.proofs.ScalarKind.{scalar_kind_is, no_scalar_lem, no_scalar_kind}
use Rattle.walk_shapes.specs.Basis.{Basis}
use Rattle.walk_shapes.proofs.Basis.{basis_layout, basis_refers}
use Rattle.walk_shapes.proofs.MemberBytes.{member_bytes_at}
use Rattle.walk_shapes.proofs.MemberRead.{count_from, read}
use Rattle.walk_shapes.proofs.Says.{kind_is, reference_is, struct_says}
use Rattle.uniform.specs.Lowest.{types_at, TypesInside, refers_by, RefersInside}

-- ---- the types of a struct's members

types_at_lem : (f : List ℕ) (c m : ℕ) → m + c ≤ (trailer_of f).members → types_at (member_bytes f) (member_length f) c (m * member_length f) ≡ member_types f c m
unfolding types_at member_types
types_at_lem f zero m h = refl
types_at_lem f (suc c) m h =
    let byte : m * member_length f + member_length f ≡ suc m * member_length f = sym (suc-mul m (member_length f)) in
    let first = member_bytes_at f m (omega arith) in
    rw (byte, ap (λ (x : MemberEntry). x.type) first, types_at_lem f c (suc m) (omega arith))

module _ {f : List ℕ} {ts : List Ty} {ms : List ℕ} {table : List Value} (basis : Basis f ts ms table) (e : ℕ) where
  -- they are lower than the struct
  types_inside : (told c m : ℕ) (ns : Members) → e ≤ told → members_from f (take e ts) c m ≡ some ns → m + c ≤ (trailer_of f).members → TypesInside (member_bytes f) told (member_length f) c (m * member_length f)
  unfolding members_from TypesInside
  types_inside told zero m ns few are within = tt
  types_inside told (suc c) m ns few are within =
      let t = and_then_some _ _ (when_some _ _ are).1 in
      let rest = and_then_some _ _ t.after in
      let r = read basis {e = e} m t.value (omega arith) t.first in
      let byte : m * member_length f + member_length f ≡ suc m * member_length f = sym (suc-mul m (member_length f)) in
      (r.inside, omega (arith, r.lower_is), rw byte (types_inside told c (suc m) rest.value few rest.first (omega arith)))

  -- ---- every entry

  -- a struct's fields, as its value has them
  struct_fields : {members : Members} → get_elem? ts e ≡ some (struct e members) → members_from f (take e ts) (type_entry_at f e).count (type_entry_at f e).reference ≡ some members → ((value_at table e).stride ≡ member_length f) × ((value_at table e).count ≡ (type_entry_at f e).count) × ((value_at table e).reference ≡ (type_entry_at f e).reference)
  struct_fields {members} there are =
      let x = struct_says basis e there in
      (x.0, x.1 ∙ count_from f (take e ts) _ _ members are, x.2)

  refers_linked : {t : Ty} → Refers f ts e (type_entry_at f e) t → get_elem? ts e ≡ some t → refers_by ms (value_at table e) ≡ links_of f (type_entry_at f e) t
  unfolding refers_by links_of value_of kind_of
  refers_linked (to_none s) there = rw (basis_layout basis e _ there, scalar_kind_is s)
  refers_linked (to_vector s low below) there = rw (basis_layout basis e _ there, no_scalar_lem 7 (omega arith) (omega arith))
  refers_linked (to_matrix s low below) there = rw (basis_layout basis e _ there, no_scalar_lem 8 (omega arith) (omega arith))
  refers_linked (to_array u low below) there = rw (basis_layout basis e _ there, no_scalar_lem 9 (omega arith) (omega arith))
  refers_linked (to_runtime u none low below) there = rw (basis_layout basis e _ there, no_scalar_lem 10 (omega arith) (omega arith))
  refers_linked (to_atomic s low below) there = rw (basis_layout basis e _ there, no_scalar_lem 11 (omega arith) (omega arith))
  refers_linked (to_members members are within) there =
      let k : (value_at table e).kind ≡ 12 = ap (λ (v : Value). v.kind) (basis_layout basis e _ there) in
      let x = struct_fields there are in
      rw (k, no_scalar_lem 12 (omega arith) (omega arith), x.0, x.1, x.2, basis.members_are) (types_at_lem f _ _ within)

  pub refers_is : {t : Ty} → get_elem? ts e ≡ some t → refers_by ms (value_at table e) ≡ refers_to f e
  refers_is {t} there = refers_linked (basis_refers basis e t there) there ∙ sym (links f ts basis.good_file e there)

  -- ---- that something is told of all of them

  members_inside : {t : Ty} (told : ℕ) → e ≤ told → Refers f ts e (type_entry_at f e) t → get_elem? ts e ≡ some t → (value_at table e).kind ≡ struct_kind → TypesInside ms told (value_at table e).stride (value_at table e).count ((value_at table e).reference * (value_at table e).stride)
  unfolding kind_of
  members_inside told few (to_none s) there is = absurd (no_scalar_kind s 12 (omega arith) (omega arith) (sym (kind_is basis e _ there) ∙ is))
  members_inside told few (to_vector s low below) there is = absurd (omega (arith, kind_is basis e _ there))
  members_inside told few (to_matrix s low below) there is = absurd (omega (arith, kind_is basis e _ there))
  members_inside told few (to_array u low below) there is = absurd (omega (arith, kind_is basis e _ there))
  members_inside told few (to_runtime u none low below) there is = absurd (omega (arith, kind_is basis e _ there))
  members_inside told few (to_atomic s low below) there is = absurd (omega (arith, kind_is basis e _ there))
  members_inside told few (to_members members are within) there is =
      let x = struct_fields there are in
      rw (x.0, x.1, x.2, basis.members_are) (types_inside told _ _ members few are within)

  reference_inside : {t : Ty} (told : ℕ) → e ≤ told → Refers f ts e (type_entry_at f e) t → get_elem? ts e ≡ some t → is_scalar_kind (value_at table e).kind ≡ false → ((value_at table e).kind ≡ struct_kind → ⊥) → (value_at table e).reference < told
  unfolding kind_of
  reference_inside told few (to_none s) there h plain = true_not_false (scalar_kind_is s) (rw (kind_is basis e _ there) at h)
  reference_inside told few (to_vector s low below) there h plain = omega (arith, reference_is basis e _ there, low)
  reference_inside told few (to_matrix s low below) there h plain = omega (arith, reference_is basis e _ there, low)
  reference_inside told few (to_array u low below) there h plain = omega (arith, reference_is basis e _ there, low)
  reference_inside told few (to_runtime u none low below) there h plain = omega (arith, reference_is basis e _ there, low)
  reference_inside told few (to_atomic s low below) there h plain = omega (arith, reference_is basis e _ there, low)
  reference_inside told few (to_members members are within) there h plain = absurd (plain (kind_is basis e _ there))

  pub refers_inside : {t : Ty} (told : ℕ) → e ≤ told → get_elem? ts e ≡ some t → RefersInside ms told (value_at table e)
  refers_inside {t} told few there =
      record {
        members = members_inside told few (basis_refers basis e t there) there;
        reference = reference_inside told few (basis_refers basis e t there) there;
      }
