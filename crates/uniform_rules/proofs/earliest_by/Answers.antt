-- What is rounded up is at most 2 ^ 32.
-- Assumes nothing.
use mathlib.Core.Path.{refl}
use native.Mathlib.Omega.{arith}
use Rattle.wgsl.proofs.Power.{power}
use Rattle.wgsl.proofs.Round.{up_least}
use Rattle.uniform_rules.proofs.earliest_by.Goals as goal

pub up_power-requires : goal.up_power-requires
up_power-requires c = (power 4, omega arith, omega arith)

pub overflow_add-result : goal.overflow_add-result
overflow_add-result c =
    record { fits = omega (arith, c.up_power.ensures, up_least 16 c.args.l.size 4294967296 (omega arith) refl (omega arith)) }
