-- A number of 64 bits has none from there on (`bit_above`).
use mathlib.Core.Path.{sym}
use native.Mathlib.Omega.{arith}
use Rattle.wgsl.proofs.Bit.{bit_above}
use Rattle.site.proofs.mask.is_set.Goals as goal

pub returns-then-k-gt63 : goal.returns-then-k-gt63
returns-then-k-gt63 c = sym (bit_above _ 64 _ (omega arith) (omega arith))
