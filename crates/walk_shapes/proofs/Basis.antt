-- What a basis says of its entries (specs/Basis).
-- Assumes nothing.
use Prim.Native.Nat.{ℕ, ◌<◌, ◌≤◌}
use mathlib.Core.Bool.{true}
use mathlib.Core.List.{List}
use mathlib.Core.Option.{some}
use mathlib.Core.Path.{◌≡◌, refl}
use native.Mathlib.Omega.{arith}
use lib.ListN.{length, get_elem?}
use Rattle.wgsl.specs.Types.{Ty, everywhere}
use Rattle.wgsl.specs.File.{type_entry_at}
use Rattle.wgsl.specs.Rule.{is_well_formed}
use Rattle.wgsl.proofs.Accepted.{accepted, accepted_well_formed}
use Rattle.wgsl.proofs.AtEntry.{get_elem_low, Refers, refers}
use Rattle.file.specs.Members.{member_length}
use Rattle.layout_values.specs.Value.{value_at, value_of}
use Rattle.layout_values.proofs.ValuesOf.{length_table, table_at}
use Rattle.walk_shapes.specs.Basis.{Basis}
use Rattle.layout_values.specs.declared.value.Value.{Value}

module _ {f : List ℕ} {ts : List Ty} {ms : List ℕ} {table : List Value} (s : Basis f ts ms table) where
  few : length ts ≤ 256
  few = let a = accepted f ts s.good_file in omega (arith, a.count, a.trailer_good.high)

  module _ (e : ℕ) (t : Ty) (there : get_elem? ts e ≡ some t) where
    pub basis_inside : e < length table
    basis_inside = rw (s.table_is, length_table f ts few) (omega (arith, get_elem_low ts e there, few))

    pub basis_layout : value_at table e ≡ value_of (member_length f) (type_entry_at f e).reference t
    basis_layout = rw s.table_is (table_at f ts e t there)

    pub basis_well_formed : everywhere is_well_formed t ≡ true
    basis_well_formed = accepted_well_formed f ts s.good_file e t there

    pub basis_refers : Refers f ts e (type_entry_at f e) t
    basis_refers = refers (record { good_file = s.good_file; type_is = there; fields_are = refl })
