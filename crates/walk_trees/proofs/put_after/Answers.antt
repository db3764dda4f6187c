use native.Mathlib.Omega.{arith}
use Rattle.wgsl.proofs.Power.{power_positive, power_bounded}
use Rattle.wgsl.proofs.Round.{up_not_below}
use Rattle.walk_trees.proofs.put_after.Goals as goal

pub up_power-start-requires : goal.up_power-start-requires
up_power-start-requires c =
    let a = c.args in
    let pos = power_positive c.requires.0 in
    (c.requires.0, omega (arith, power_bounded c.requires.0 (omega arith)), omega (arith, up_not_below a.align a.end pos))
