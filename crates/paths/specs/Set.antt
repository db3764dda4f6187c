-- What a set asks once its target is found (its steps are crates/wgsl's `set_target`, specs/Call).
-- Definitions only. Assumes nothing.
use Rattle.std.specs.Prelude.{ℕ, ◌+◌, ◌≤◌, ◌≡◌}
use Rattle.wgsl.specs.Round.{limit}
use Rattle.wgsl.specs.Said.{Said, good, refused}
use Rattle.wgsl.specs.Call.{Done}
use Rattle.wgsl.specs.Place.{span_of}
use Rattle.wgsl.specs.Path as path
use Rattle.wgsl.specs.Shapes.{Sound}
use Rattle.said.specs.declared.target.Target.{Target}
use Rattle.said.specs.Target.{target_is}

-- the target u as the code has it, inside a buffer of so many bytes
pub record InBuffer (t : Target) (u : path.Target) (bytes : ℕ) : Type 0 where
  pub is : t ≡ target_is u
  pub sound : Sound u.shape
  pub inside : u.offset + span_of u.shape ≤ bytes
  pub within : bytes ≤ limit

-- whether a set is good, and no more of it
unfoldable pub fit_of : Said Done → Said (Unit {0})
fit_of (good d) = good tt
fit_of (refused number place) = refused number place
