-- The entry that a call speaks of, found in the table: what writing, reading, testing, views and sets stand on.
-- Definitions only. Assumes nothing.
use Rattle.std.specs.Prelude.{ℕ, ◌-◌, ◌≤◌, ◌≡◌, List, length, take, drop}
use Rattle.std.proofs.Math.Option.{some}
use Rattle.std.proofs.Math.ListN.{get_elem?}
use Rattle.wgsl.specs.Types.{Ty}
use Rattle.wgsl.specs.Said.{good}
use Rattle.wgsl.specs.Call.{entry_of}
use Rattle.file.specs.Members.{member_bytes}
use Rattle.layout_table.specs.declared.Ground.{Ground}
use Rattle.layout_table.specs.Table.{ground_of}
use Rattle.walk_shapes.specs.Basis.{Basis}
use Rattle.layout_values.specs.declared.value.Value.{Value}

-- the part of the file that the code hands on as the member entries
abbrev pub members_part : List ℕ → Ground → List ℕ
members_part f g = take (g.end - g.start) (drop g.start f)

-- entry e of a file, of the type t
pub record Meant (f : List ℕ) (e : ℕ) (g : Ground) (table : List Value) (t : Ty) : Type 0 where
  pub types : List Ty
  pub basis : Basis f types (member_bytes f) table
  pub there : get_elem? types e ≡ some t
  pub is_entry : entry_of f e ≡ good t
  pub ground_is : g ≡ ground_of f e t
  pub bytes_inside : (g.start ≤ g.end) × (g.end ≤ length f)
