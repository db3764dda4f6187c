-- The test is the minimum's.
use native.Mathlib.Omega.{arith}
use Rattle.wgsl.specs.BitField.{bits_of}
use Rattle.bits.proofs.bits_of.Goals as goal

pub returns-then-count-left : goal.returns-then-count-left
unfolding bits_of
returns-then-count-left c = omega arith

pub returns : goal.returns
unfolding bits_of
returns c = omega arith
