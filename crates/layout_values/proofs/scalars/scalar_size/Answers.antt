-- Each answer is a law of `ScalarMade`.
use mathlib.Core.Path.{sym}
use native.Mathlib.Omega.{arith}
use Rattle.layout_values.proofs.ScalarMade.{width_four, width_two, width_eight, width_none}
use Rattle.layout_values.proofs.scalars.scalar_size.Goals as goal

pub returns-then-kind-le-F32 : goal.returns-then-kind-le-F32
returns-then-kind-le-F32 c = (λ s e. sym (width_four s (omega arith)), omega arith)

pub returns-then-kind-eq-F16 : goal.returns-then-kind-eq-F16
returns-then-kind-eq-F16 c = (λ s e. sym (width_two s (omega arith)), omega arith)

pub returns-then-kind-lt-I64 : goal.returns-then-kind-lt-I64
returns-then-kind-lt-I64 c = (λ s e. sym (width_none s (omega arith) (omega arith)), omega arith)

pub returns : goal.returns
returns c = (λ s e. sym (width_eight s (omega arith)), omega arith)
