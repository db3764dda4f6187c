-- Bit 31 of a step of 32 bits is what is left when the other bits are shifted out; the number is under the mask.
use Prim.Native.Nat.{◌/◌, ◌^◌, ◌<◌}
use native.Mathlib.Omega.{arith}
use native.Mathlib.Nat.{mod-eq_of_lt}
use borrow.Author.Tests.{eq-eqb, ne_eqb}
use lib.Bits.{and_mask}
use Rattle.wgsl.specs.Path.{step_of}
use Rattle.walk_path.proofs.step.StepFromU32.from.Goals as goal

pub returns-then-s-eq1 : goal.returns-then-s-eq1
unfolding step_of
returns-then-s-eq1 c =
    let high : c.args.s / 2 ^ 31 < 2 = omega (arith, c.ranges.s) in
    rw (and_mask c.args.s 31, mod-eq_of_lt high, eq-eqb (c.args.s / 2 ^ 31) 1 c.if-s-eq1.true)

pub returns-else-s-eq1 : goal.returns-else-s-eq1
unfolding step_of
returns-else-s-eq1 c =
    let high : c.args.s / 2 ^ 31 < 2 = omega (arith, c.ranges.s) in
    rw (and_mask c.args.s 31, mod-eq_of_lt high, ne_eqb (c.args.s / 2 ^ 31) 1 c.if-s-eq1.false)
