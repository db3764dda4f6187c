-- Conversion ranks and common types (01, "Sizes and places", the paragraph on ranks; WGSL, "Conversion rank").
--
-- In order: scalars; the outline of a type; ranks; the common type of two; of a list.
-- Definitions only. Assumes nothing.
use Rattle.std.specs.Prelude.{ℕ, List, [], ◌∷◌, Bool, true, false, cond, ◌&&◌, eqb}
use Rattle.std.proofs.Math.Option.{Option, none, some}
use Rattle.wgsl.specs.Types.{Scalar, bool, i32, u32, f32, f16, abstract_int, abstract_float, i64, u64, f64, Ty, scalar, vector, matrix, array, runtime, atomic, struct, scalar_kind, vector_kind, matrix_kind, array_kind, runtime_kind, atomic_kind, struct_kind}

-- "abstract int to i32 3, u32 4, abstract float 5, f32 6, f16 7"
unfoldable pub from_abstract_int : Scalar → Option ℕ
from_abstract_int bool = none
from_abstract_int i32 = some 3
from_abstract_int u32 = some 4
from_abstract_int f32 = some 6
from_abstract_int f16 = some 7
from_abstract_int abstract_int = some 0
from_abstract_int abstract_float = some 5
from_abstract_int i64 = none
from_abstract_int u64 = none
from_abstract_int f64 = none

-- "abstract float to f32 1, f16 2"
unfoldable pub from_abstract_float : Scalar → Option ℕ
from_abstract_float bool = none
from_abstract_float i32 = none
from_abstract_float u32 = none
from_abstract_float f32 = some 1
from_abstract_float f16 = some 2
from_abstract_float abstract_int = none
from_abstract_float abstract_float = some 0
from_abstract_float i64 = none
from_abstract_float u64 = none
from_abstract_float f64 = none

-- "equal types 0"
unfoldable pub if_same : Bool → Option ℕ
if_same true = some 0
if_same false = none

unfoldable pub scalar_rank : Scalar → Scalar → Option ℕ
scalar_rank bool b = if_same (eqb (scalar_kind bool) (scalar_kind b))
scalar_rank i32 b = if_same (eqb (scalar_kind i32) (scalar_kind b))
scalar_rank u32 b = if_same (eqb (scalar_kind u32) (scalar_kind b))
scalar_rank f32 b = if_same (eqb (scalar_kind f32) (scalar_kind b))
scalar_rank f16 b = if_same (eqb (scalar_kind f16) (scalar_kind b))
scalar_rank abstract_int b = from_abstract_int b
scalar_rank abstract_float b = from_abstract_float b
scalar_rank i64 b = if_same (eqb (scalar_kind i64) (scalar_kind b))
scalar_rank u64 b = if_same (eqb (scalar_kind u64) (scalar_kind b))
scalar_rank f64 b = if_same (eqb (scalar_kind f64) (scalar_kind b))

-- All of a type but the scalar that converts, as numbers: its kinds and counts from the outside in.
-- "Types are compared by structure, structs by entry number." Atomics convert to nothing else, so their scalar belongs to the outline.
unfoldable pub outline_of : Ty → List ℕ
outline_of (scalar s) = []
outline_of (vector n s) = vector_kind ∷ n ∷ []
outline_of (matrix c r s) = matrix_kind ∷ c ∷ r ∷ []
outline_of (array n t) = array_kind ∷ n ∷ outline_of t
outline_of (runtime t) = runtime_kind ∷ outline_of t
outline_of (atomic s) = atomic_kind ∷ scalar_kind s ∷ []
outline_of (struct k ms) = struct_kind ∷ k ∷ []

unfoldable pub leaf_of : Ty → Option Scalar
leaf_of (scalar s) = some s
leaf_of (vector n s) = some s
leaf_of (matrix c r s) = some s
leaf_of (array n t) = leaf_of t
leaf_of (runtime t) = leaf_of t
leaf_of (atomic s) = none
leaf_of (struct k ms) = none

unfoldable pub same_numbers : List ℕ → List ℕ → Bool
same_numbers [] [] = true
same_numbers [] (n ∷ ns) = false
same_numbers (m ∷ ms) [] = false
same_numbers (m ∷ ms) (n ∷ ns) = eqb m n && same_numbers ms ns

unfoldable pub leaf_rank : Option Scalar → Option Scalar → Option ℕ
leaf_rank (some a) (some b) = scalar_rank a b
leaf_rank (some a) none = none
leaf_rank none (some b) = none
leaf_rank none none = some 0

-- "Vectors, matrices and arrays of equal shape take their elements' rank (two runtime arrays have equal shape)."
unfoldable pub rank_of : Ty → Ty → Option ℕ
rank_of a b = cond (same_numbers (outline_of a) (outline_of b)) (leaf_rank (leaf_of a) (leaf_of b)) none

-- one that the common type may be: an entry's number and its type
pub record Candidate : Type 0 where
  pub number : ℕ
  pub type : Ty

unfoldable pub first_of : {A : Type 0} → Option ℕ → A → Option A → Option A
first_of (some r) a other = some a
first_of none a other = other

-- "Common type of a, b: b if a has a rank to b, else a if b has one to a."
unfoldable pub common_of : Candidate → Candidate → Option Candidate
common_of a b = first_of (rank_of a.type b.type) b (first_of (rank_of b.type a.type) a none)

-- "A list is folded from the left": the common type of a and the entries after it
unfoldable pub common_with : Option Candidate → List Candidate → Option Candidate
common_with a [] = a
common_with none (b ∷ bs) = none
common_with (some a) (b ∷ bs) = common_with (common_of a b) bs

unfoldable pub common_of_all : List Candidate → Option Candidate
common_of_all [] = none
common_of_all (a ∷ rest) = common_with (some a) rest
