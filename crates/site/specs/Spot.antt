-- A member of a block and what a path leads to in it, as the code has them (crates/wgsl, specs/Site).
-- Definitions only. Assumes nothing.
use Rattle.std.specs.Prelude.{ℕ, List, map}
use Rattle.wgsl.specs.Said.{Said, good, ◌>>=◌}
use Rattle.wgsl.specs.Place.{Shape, shape_of, span_of}
use Rattle.wgsl.specs.Path as path
use Rattle.wgsl.specs.Path.{enter, walk, step_of}
use Rattle.wgsl.specs.Site.{block_in}
use Rattle.said.specs.declared.target.Target.{Target}
use Rattle.said.specs.Target.{target_is}
use Rattle.site.specs.declared.spot.Spot.{Spot}

-- a member of the shape y that lies at an offset, and a target in it
abbrev pub spot_of : ℕ → Shape → Target → Spot
spot_of offset y t = record { from = offset; size = span_of y; target = t }

-- from there along a path
unfoldable pub spot_from : ℕ → Shape → List ℕ → Said Spot
spot_from offset y steps = do
  u ← walk 0 offset y (map step_of steps)
  good (spot_of offset y (target_is u))

-- from a struct's shape, to its member k
unfoldable pub spot_at : Shape → ℕ → List ℕ → Said Spot
spot_at x k steps = do
  m ← enter 0 x (path.member k)
  spot_from m.offset m.shape steps

-- of a block
unfoldable pub spot_call : List ℕ → ℕ → ℕ → List ℕ → ℕ → List ℕ → List ℕ → Said Spot
spot_call f e k steps mask factory site = do
  t ← block_in f e mask factory site
  spot_at (shape_of 0 t) k steps
