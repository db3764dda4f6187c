-- The sum is the one that `length_by` names.
use Prim.Native.Nat.{ℕ, ◌*◌}
use mathlib.Core.Path.{ap}
use native.Mathlib.Omega.{arith}
use Rattle.wgsl.specs.File.{length_by}
use Rattle.file.proofs.trailer.length_by.Goals as goal

pub returns : goal.returns
unfolding length_by
returns c = omega (arith, ap (λ (n : ℕ). n * c.args.members) c.member_length-length.ensures.0)
