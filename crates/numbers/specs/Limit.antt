-- A number, if it is within the limit of 4,294,967,295.
-- Definitions only. Assumes nothing.
use Rattle.std.specs.Prelude.{ℕ, cond, None, Option, Some}
use Rattle.wgsl.specs.Round.{within_limit}

unfoldable pub limited : ℕ → Option ℕ
limited n = cond (within_limit n) (Some n) None
