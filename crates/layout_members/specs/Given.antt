-- A number of a member that the file may give.
-- Definitions only. Assumes nothing.
use Rattle.std.specs.Prelude.{ℕ}
use Rattle.std.proofs.Math.Option.{Option, some}
use Rattle.wgsl.specs.Size.{given_or, present}

-- the number that the file gives, else the type's own
unfoldable pub or_own : Option ℕ → ℕ → ℕ
or_own given own = present (given_or given (some own))
