-- WGSL types as trees (01, "The layout file", the table of kinds and the sentences after it).
--
-- In order: scalars; types and the members of a struct; their kinds; open types; what holds of every type within a type.
-- Not here: which trees a file may hold (`Rule`), sizes (`Size`).
-- Definitions only. Assumes nothing.
use Rattle.std.specs.Prelude.{ℕ, Bool, true, false, ◌&&◌, ◌||◌, leb}
use Rattle.std.proofs.Math.Option.{Option}

-- "kinds 0 to 6", in their order; E6: "kinds 13, 14, 15 for i64, u64, f64"
pub data Scalar : Type 0 where
  bool : Scalar
  i32 : Scalar
  u32 : Scalar
  f32 : Scalar
  f16 : Scalar
  abstract_int : Scalar
  abstract_float : Scalar
  i64 : Scalar
  u64 : Scalar
  f64 : Scalar

mutual
  -- scalars, then kinds 7 to 12 in their order
  pub data Ty : Type 0 where
    scalar : Scalar → Ty
    vector : ℕ → Scalar → Ty
    -- columns, rows
    matrix : ℕ → ℕ → Scalar → Ty
    array : ℕ → Ty → Ty
    runtime : Ty → Ty
    atomic : Scalar → Ty
    -- its entry number, by which structs are compared
    struct : ℕ → Members → Ty

  -- a member: its type, the size and the align that the file gives, if any; then the members after it
  pub data Members : Type 0 where
    no_more : Members
    member : Ty → Option ℕ → Option ℕ → Members → Members

-- ---- the kinds of the file, by name

-- "0 to 6: bool, i32, u32, f32, f16, abstract int, abstract float"
unfoldable pub scalar_kind : Scalar → ℕ
scalar_kind bool = 0
scalar_kind i32 = 1
scalar_kind u32 = 2
scalar_kind f32 = 3
scalar_kind f16 = 4
scalar_kind abstract_int = 5
scalar_kind abstract_float = 6
-- E6: "kinds 13, 14, 15 for i64, u64, f64"
scalar_kind i64 = 13
scalar_kind u64 = 14
scalar_kind f64 = 15

unfoldable pub is_scalar_kind : ℕ → Bool
is_scalar_kind kind = leb kind 6 || (leb 13 kind && leb kind 15)

-- "7 vector", "8 matrix", "9 array", "10 runtime array", "11 atomic", "12 struct"
abbrev pub vector_kind : ℕ
vector_kind = 7

abbrev pub matrix_kind : ℕ
matrix_kind = 8

abbrev pub array_kind : ℕ
array_kind = 9

abbrev pub runtime_kind : ℕ
runtime_kind = 10

abbrev pub atomic_kind : ℕ
atomic_kind = 11

abbrev pub struct_kind : ℕ
struct_kind = 12

-- the kind of a type
unfoldable pub kind_of : Ty → ℕ
kind_of (scalar s) = scalar_kind s
kind_of (vector n s) = vector_kind
kind_of (matrix c r s) = matrix_kind
kind_of (array n t) = array_kind
kind_of (runtime t) = runtime_kind
kind_of (atomic s) = atomic_kind
kind_of (struct k ms) = struct_kind

-- ---- open types

unfoldable pub is_runtime : Ty → Bool
is_runtime (scalar s) = false
is_runtime (vector n s) = false
is_runtime (matrix c r s) = false
is_runtime (array n t) = false
is_runtime (runtime t) = true
is_runtime (atomic s) = false
is_runtime (struct k ms) = false

-- whether the last member is a runtime array; `before` says whether the member before these is one
unfoldable pub ends_in_runtime : Bool → Members → Bool
ends_in_runtime before no_more = before
ends_in_runtime before (member t size align ms) = ends_in_runtime (is_runtime t) ms

-- "An open type is a runtime array or a struct ending in one."
unfoldable pub is_open : Ty → Bool
is_open (scalar s) = false
is_open (vector n s) = false
is_open (matrix c r s) = false
is_open (array n t) = false
is_open (runtime t) = true
is_open (atomic s) = false
is_open (struct k ms) = ends_in_runtime false ms

-- ---- every type within a type

-- the test p holds of a type and of every type within it
unfoldable mutual
  pub everywhere : (Ty → Bool) → Ty → Bool
  everywhere p (scalar s) = p (scalar s)
  everywhere p (vector n s) = p (vector n s)
  everywhere p (matrix c r s) = p (matrix c r s)
  everywhere p (array n t) = p (array n t) && everywhere p t
  everywhere p (runtime t) = p (runtime t) && everywhere p t
  everywhere p (atomic s) = p (atomic s)
  everywhere p (struct k ms) = p (struct k ms) && every_member p ms

  pub every_member : (Ty → Bool) → Members → Bool
  every_member p no_more = true
  every_member p (member t size align ms) = everywhere p t && every_member p ms
