-- A number below 0 is its pattern less 2 ^ 64 (`magnitude_is`).
use mathlib.Core.Path.{◌∙◌}
use native.Mathlib.Omega.{arith}
use mir.Facts.{of_z-to_z}
use Rattle.literals.proofs.Parts.{magnitude_is}
use Rattle.literals.proofs.int.magnitude.Goals as goal

pub returns : goal.returns
returns c =
    c.unsigned_abs.ensures.value
    ∙ rw (c.cast_signed.ensures, of_z-to_z c.ranges.bits) (magnitude_is c.args.bits (omega arith))
