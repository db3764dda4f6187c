-- Four bytes are `load 4`.
use native.Mathlib.Nat.{add_assoc}
use native.Mathlib.Omega.{arith}
use Rattle.wgsl.specs.Number.{load}
use Rattle.numbers.proofs.bytes.u32_at.Goals as goal

pub returns : goal.returns
unfolding load
returns c = simp add_assoc (omega (arith, c.from_le_bytes.ensures))
