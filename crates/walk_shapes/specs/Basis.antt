-- What every walk stands on: an accepted file, its member entries and its table.
-- Definitions only. Assumes nothing.
use Rattle.std.specs.Prelude.{ℕ, ◌≡◌, List}
use Rattle.wgsl.specs.Types.{Ty}
use Rattle.wgsl.specs.Said.{good}
use Rattle.wgsl.specs.Rule.{types_of}
use Rattle.file.specs.Members.{member_bytes}
use Rattle.layout_values.specs.Value.{values_of}
use Rattle.layout_values.specs.declared.value.Value.{Value}

pub record Basis (f : List ℕ) (ts : List Ty) (ms : List ℕ) (table : List Value) : Type 0 where
  pub good_file : types_of f ≡ good ts
  pub members_are : ms ≡ member_bytes f
  pub table_is : table ≡ values_of f ts
