-- What the listing of a file asks: room, and the values of an accepted file's entries, as the table holds them.
-- Definitions only. Assumes nothing.
use Rattle.std.specs.Prelude.{ℕ, ◌≤◌, ◌≡◌, true, List, length}
use Rattle.std.proofs.Math.Option.{some}
use Rattle.std.proofs.Math.ListN.{get_elem?}
use Rattle.wgsl.specs.Types.{Ty, everywhere}
use Rattle.wgsl.specs.Rule.{is_well_formed}
use Rattle.wgsl.specs.File.{most_types}
use Rattle.layout_values.specs.Value.{values_of}
use Rattle.layout_values.specs.declared.value.Value.{Value}

-- room for any listing: its heading, and 256 lines
abbrev pub listing_room : ℕ
listing_room = 11_283

pub record Entries (f : List ℕ) (table : List Value) (types : ℕ) (ts : List Ty) : Type 0 where
  pub table_is : table ≡ values_of f ts
  pub count : types ≡ length ts
  pub few : types ≤ most_types
  pub well_formed : (k : ℕ) (t : Ty) → get_elem? ts k ≡ some t → everywhere is_well_formed t ≡ true
