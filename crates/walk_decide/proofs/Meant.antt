-- The entry that a call speaks of (specs/Meant), from what `table::find` and `file::check_trailer` ensure.
--
-- In order: the members' part; an entry that is there; what it is; one that is not there.
-- Assumes nothing.
use Prim.Native.Nat.{ℕ, ◌*◌, ◌≤◌}
use mathlib.Core.Bool.{true}
use mathlib.Core.List.{List}
use mathlib.Core.Option.{some}
use mathlib.Core.Path.{◌≡◌, refl, sym, ap, ◌∙◌}
use native.Mathlib.Omega.{arith}
use native.Mathlib.Nat.{add-sub_cancel_left}
use lib.ListN.{length, get_elem?}
use Rattle.wgsl.specs.Types.{Ty, everywhere}
use Rattle.wgsl.specs.Said.{good, refused}
use Rattle.wgsl.specs.File.{trailer_of, length_by, check_trailer}
use Rattle.wgsl.specs.Rule.{is_well_formed, types_of}
use Rattle.wgsl.specs.Call.{entry_of}
use Rattle.wgsl.proofs.Said.{good_not_refused, then_good, then_cases, then_is, then_refused, or_refuse_good}
use Rattle.wgsl.proofs.Accepted.{accepted}
use Rattle.file.specs.Members.{members_start, member_bytes, member_length}
use Rattle.layout_values.specs.Value.{value_of, value_at, values_of}
use Rattle.layout_table.specs.declared.Ground.{Ground}
use Rattle.layout_table.specs.Table.{InTable, ground_of, ground_in}
use Rattle.walk_shapes.specs.Basis.{Basis}
use Rattle.walk_shapes.proofs.Basis.{basis_layout, basis_well_formed}
use Rattle.walk_decide.specs.Meant.{members_part, Meant}
use Rattle.walk_decide.proofs.Tailed.{layout_value}
use Rattle.layout_values.specs.declared.value.Value.{Value}

-- ---- the members' part

members_part_lem : (f : List ℕ) (e : ℕ) (t : Ty) {g : Ground} → g ≡ ground_of f e t → members_part f g ≡ member_bytes f
unfolding ground_of member_bytes
members_part_lem f e t q =
    rw (q, add-sub_cancel_left (members_start f) (member_length f * (trailer_of f).members)) refl

-- It lies inside the file.
members_inside : (f : List ℕ) (ts : List Ty) (e : ℕ) (t : Ty) → types_of f ≡ good ts → ((ground_of f e t).start ≤ (ground_of f e t).end) × ((ground_of f e t).end ≤ length f)
unfolding ground_of members_start length_by
members_inside f ts e t h = (omega arith, omega (arith, (accepted f ts h).trailer_good.long))

-- ---- an entry that is there

pub entry_found : (f : List ℕ) (e : ℕ) (table : List Value) (g : Ground) → good (record { ground = g; table = table }) ≡ ground_in f e → (t : Ty) × Meant f e g table t
unfolding ground_in entry_of
entry_found f e table g p =
    let y = then_good (types_of f) _ (sym p) in
    let x = then_good (entry_of f e) _ y.after in
    let there : get_elem? y.value e ≡ some x.value = or_refuse_good 8 0 (get_elem? y.value e) (sym (then_is _ y.first) ∙ x.first) in
    let is : InTable = record { ground = ground_of f e x.value; table = values_of f y.value } in
    let want : InTable = record { ground = g; table = table } in
    let both : is ≡ want = cc x.after in
    let ground : g ≡ ground_of f e x.value = sym (ap (λ (s : InTable). s.ground) both) in (
      x.value,
      record {
        types = y.value;
        basis = record { good_file = y.first; members_are = refl; table_is = sym (ap (λ (s : InTable). s.table) both) };
        there = there;
        is_entry = x.first;
        ground_is = ground;
        bytes_inside = rw ground (members_inside f y.value e x.value y.first);
      },
    )

-- ---- what it is

module _ {f : List ℕ} {e : ℕ} {g : Ground} {table : List Value} {t : Ty} (x : Meant f e g table t) where
  -- It stands on the members' part.
  pub entry_site : Basis f x.types (members_part f g) table
  entry_site = rw (members_part_lem f e t x.ground_is) x.basis

  -- Its layout stands in the table,
  pub entry_layout : g.value ≡ value_at table e
  unfolding ground_of
  entry_layout = ap (λ (y : Ground). y.value) x.ground_is ∙ sym (basis_layout x.basis e t x.there)

  -- and is its type's value.
  pub entry_value : g.value ≡ value_of g.value.stride g.value.reference t
  entry_value = rw entry_layout (layout_value x.basis e t x.there)

  pub entry_well_formed : everywhere is_well_formed t ≡ true
  entry_well_formed = basis_well_formed x.basis e t x.there

-- ---- one that is not there

pub entry_missing : (f : List ℕ) (e : ℕ) {number place : ℕ} → refused number place ≡ ground_in f e → entry_of f e ≡ refused number place
unfolding ground_in entry_of
entry_missing f e h =
    then_cases (types_of f) _ (sym h) (λ q. then_refused _ q)
    (λ s. then_cases (entry_of f e) _ s.after (λ q. q) (λ r. good_not_refused refl r.after))

-- Where the trailer is refused, no entry is there.
pub trailer_refused : (f : List ℕ) (e : ℕ) {number place : ℕ} → refused number place ≡ check_trailer f → entry_of f e ≡ refused number place
unfolding entry_of types_of
trailer_refused f e h = then_refused _ (then_refused _ (sym h))
