-- Whether a member can be cleared (crates/wgsl, specs/Site, `clear_call`).
-- Definitions only. Assumes nothing.
use Rattle.std.specs.Prelude.{ℕ, List}
use Rattle.wgsl.specs.Said.{Said, good, ◌>>=◌}
use Rattle.wgsl.specs.Place.{Shape, shape_of}
use Rattle.wgsl.specs.Path as path
use Rattle.wgsl.specs.Path.{enter}
use Rattle.wgsl.specs.Site.{block_entry}

-- the shape has a member k: else 11
unfoldable pub there_in : Shape → ℕ → Said (Unit {0})
there_in x k = do
  m ← enter 0 x (path.member k)
  good tt

unfoldable pub can_clear : List ℕ → ℕ → ℕ → ℕ → Said (Unit {0})
can_clear f e k mask = do
  t ← block_entry f e mask 0
  there_in (shape_of 0 t) k
