-- The part of a buffer that a view hands back, and where it lies.
-- Definitions only. Assumes nothing.
use Rattle.std.specs.Prelude.{ℕ, ◌-◌, ◌≤◌, ◌≡◌, List, length, take, drop}
use Rattle.wgsl.specs.Said.{Said}
use Rattle.wgsl.specs.Path.{Target}
use Rattle.wgsl.specs.Call.{part_of, part_start}
use Rattle.paths.specs.declared.view.Part.{Part}

-- the part p of a buffer b is the one that the call hands back
pub record PartIs (p : Part) (said : Said Target) (b : List ℕ) : Type 0 where
  pub start_is : p.from ≡ part_start said
  pub rises : p.from ≤ p.to
  pub inside : p.to ≤ length b
  pub bytes_are : take (p.to - p.from) (drop p.from b) ≡ part_of said b
