use mathlib.Core.Path.{sym}
use native.Mathlib.Omega.{arith}
use Rattle.wgsl.proofs.ScalarKind.{low_scalar, no_scalar_lem, high_scalar}
use Rattle.file.proofs.kinds.is_scalar.Goals as goal

pub returns-then-kind-le-ABSTRACT_FLOAT : goal.returns-then-kind-le-ABSTRACT_FLOAT
returns-then-kind-le-ABSTRACT_FLOAT c = sym (low_scalar _ (omega arith))

pub returns-then-kind-lt-I64 : goal.returns-then-kind-lt-I64
returns-then-kind-lt-I64 c = sym (no_scalar_lem _ (omega arith) (omega arith))

pub returns : goal.returns
returns c = sym (high_scalar _ (omega arith))
