-- The test is the minimum's.
use native.Mathlib.Omega.{arith}
use Rattle.wgsl.specs.BitField.{start_of}
use Rattle.bits.proofs.start_of.Goals as goal

pub returns-then-offset-lt32 : goal.returns-then-offset-lt32
unfolding start_of
returns-then-offset-lt32 c = omega arith

pub returns : goal.returns
unfolding start_of
returns c = omega arith
