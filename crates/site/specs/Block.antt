-- The entry of a block in the table (crates/wgsl, specs/Site).
-- Definitions only. Assumes nothing.
use Rattle.std.specs.Prelude.{ℕ, true, not, List, ◌≡◌}
use Rattle.wgsl.specs.Types.{Ty}
use Rattle.wgsl.specs.Said.{Said, good, ◌>>=◌, ◌>>◌, refuse}
use Rattle.wgsl.specs.Call.{allowed}
use Rattle.wgsl.specs.Site.{is_block, block_entry}
use Rattle.layout_table.specs.declared.Ground.{Ground}
use Rattle.layout_table.specs.Table.{InTable, ground_in}
use Rattle.walk_decide.specs.Meant.{Meant}
use Rattle.layout_values.specs.declared.value.Value.{Value}

-- 17, 9, 10, then 21
unfoldable pub block_allowed : ℕ → Ty → ℕ → Said (Unit {0})
block_allowed mask t bytes = do
  allowed true t bytes
  refuse 21 0 (not (is_block mask t))

-- the block, and the table that it stands in
unfoldable pub block_ground : List ℕ → ℕ → ℕ → ℕ → Said InTable
block_ground f e mask bytes = do
  t ← block_entry f e mask bytes
  ground_in f e

-- entry e is the block of the type t, found in the table
pub record BlockAt (f : List ℕ) (e : ℕ) (g : Ground) (table : List Value) (mask bytes : ℕ) (t : Ty) : Type 0 where
  pub meant : Meant f e g table t
  pub block : block_entry f e mask bytes ≡ good t
