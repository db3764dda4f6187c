-- What ranks of the code say, in the words of crates/wgsl, and what its functions ask.
-- Definitions only. Assumes nothing.
use Rattle.std.specs.Prelude.{ℕ, ◌<◌, ◌≡◌, cond, List, eqb, length}
use Rattle.wgsl.specs.Types.{Scalar, Ty, vector, matrix, atomic, vector_kind, matrix_kind}
use Rattle.wgsl.specs.Said.{good}
use Rattle.wgsl.specs.File.{trailer_of, TypeEntry}
use Rattle.wgsl.specs.Rule.{types_of}

-- two entries of an accepted file, whose type entries begin at `start`
pub record Pair (f : List ℕ) (ts : List Ty) (start a b : ℕ) : Type 0 where
  pub accepted : types_of f ≡ good ts
  pub start_is : start ≡ (trailer_of f).start
  pub first : a < length ts
  pub second : b < length ts

-- the type over a scalar that the fields of an entry say: of kind 7 a vector, of kind 8 a matrix, else (11) an atomic
unfoldable pub over_scalar : TypeEntry → Scalar → Ty
over_scalar x s = cond (eqb x.kind vector_kind) (vector x.rows s) (cond (eqb x.kind matrix_kind) (matrix x.columns x.rows s) (atomic s))
