-- Sizes, alignments, minimum sizes, strides and offsets (01, "Sizes and places"; WGSL, "Alignment and size", "Structure layout").
--
-- In order: absent numbers; scalars; vectors; every type; strides; minimum sizes; where members start; the numbers of a type that the
-- limit applies to; layouts.
-- Not here: rounding up and the limit (`Round`), where the scalars lie (`Place`).
-- Numbers are unbounded. `none` is 01's "absent".
-- Definitions only. Assumes nothing.
use Rattle.std.specs.Prelude.{ℕ, ◌+◌, ◌*◌, max, List, [], ◌∷◌, Bool, true, false, cond, ◌&&◌, ◌||◌, eqb}
use Rattle.std.proofs.Math.Option.{Option, none, some}
use Rattle.wgsl.specs.Round.{up, within_limit}
use Rattle.wgsl.specs.Types.{Scalar, bool, i32, u32, f32, f16, abstract_int, abstract_float, i64, u64, f64, Ty, scalar, vector, matrix, array, runtime, atomic, struct, Members, no_more, member, is_open, everywhere}

-- "A number made from an absent one is absent."
unfoldable pub both : (ℕ → ℕ → ℕ) → Option ℕ → Option ℕ → Option ℕ
both f (some a) (some b) = some (f a b)
both f (some a) none = none
both f none b = none

-- the number that the file gives, else the type's own
unfoldable pub given_or : Option ℕ → Option ℕ → Option ℕ
given_or (some given) own = some given
given_or none own = own

unfoldable pub is_present : Option ℕ → Bool
is_present (some n) = true
is_present none = false

-- a number that is known to be present
unfoldable pub present : Option ℕ → ℕ
present (some n) = n
present none = 0

-- "bool, i32, u32, f32, atomic: 4/4 (size/alignment). f16: 2/2. Abstract: neither."; E6: "i64, u64, f64: 8/8"
unfoldable pub width_of : Scalar → Option ℕ
width_of bool = some 4
width_of i32 = some 4
width_of u32 = some 4
width_of f32 = some 4
width_of f16 = some 2
width_of abstract_int = none
width_of abstract_float = none
width_of i64 = some 8
width_of u64 = some 8
width_of f64 = some 8

-- "For n = 3: 16 over i32, u32, f32; 8 over f16"; E4: "WGSL's alignment table lists bool beside i32 in the vector rows: 12/16."; E6: "of 3
-- size 24 and no alignment, as the Rust"
unfoldable pub vec3_align : Scalar → Option ℕ
vec3_align bool = some 16
vec3_align i32 = some 16
vec3_align u32 = some 16
vec3_align f32 = some 16
vec3_align f16 = some 8
vec3_align abstract_int = none
vec3_align abstract_float = none
vec3_align i64 = none
vec3_align u64 = none
vec3_align f64 = none

-- "Vector of n: size n x scalar size."
unfoldable pub vector_size : ℕ → Scalar → Option ℕ
vector_size n s = both ◌*◌ (some n) (width_of s)

-- "Alignment equals size for n = 2, 4."
unfoldable pub vector_align : ℕ → Scalar → Option ℕ
vector_align n s = cond (eqb n 3) (vec3_align s) (vector_size n s)

-- "a member starts at up(its align, end of the one before), and ends its .. size later"
unfoldable pub start_after : Option ℕ → Option ℕ → Option ℕ
start_after end align = both up align end

unfoldable pub end_after : Option ℕ → Option ℕ → Option ℕ → Option ℕ
end_after end align size = both ◌+◌ (start_after end align) size

-- Where a member starts and where it ends: its align and its size are those that the file gives, else those of its type. All that asks
-- where members lie asks these two: the size of a struct, the offsets, the shape that is written, read and walked, and its tail.
unfoldable pub member_start : Option ℕ → Option ℕ → Option ℕ → Option ℕ
member_start end align type_align = start_after end (given_or align type_align)

unfoldable pub member_end : Option ℕ → Option ℕ → Option ℕ → Option ℕ → Option ℕ → Option ℕ
member_end end align type_align size type_size = end_after end (given_or align type_align) (given_or size type_size)

unfoldable mutual
  pub size_of : Ty → Option ℕ
  size_of (scalar s) = width_of s
  size_of (vector n s) = vector_size n s
  -- "Matrix: columns x the alignment of a column vector"
  size_of (matrix c r s) = both ◌*◌ (some c) (vector_align r s)
  -- "Stride of an array: up(element alignment, element size). Array: count x stride"
  size_of (array n t) = both ◌*◌ (some n) (both up (align_of t) (size_of t))
  -- "A runtime array has that alignment and no size"
  size_of (runtime t) = none
  size_of (atomic s) = some 4
  -- "Size is up(alignment, end of the last); none if open." A runtime array has no size, so there the end is absent.
  size_of (struct k ms) = both up (members_align ms) (members_end (some 0) ms)

  pub align_of : Ty → Option ℕ
  align_of (scalar s) = width_of s
  align_of (vector n s) = vector_align n s
  -- "alignment that of the column"
  align_of (matrix c r s) = vector_align r s
  -- "alignment the element's"
  align_of (array n t) = align_of t
  align_of (runtime t) = align_of t
  align_of (atomic s) = some 4
  align_of (struct k ms) = members_align ms

  -- "Alignment is the largest of the members'."
  pub members_align : Members → Option ℕ
  members_align no_more = some 1
  members_align (member t size align ms) = both max (given_or align (align_of t)) (members_align ms)

  -- the end of the last member, where the one before the first ended at `end`
  pub members_end : Option ℕ → Members → Option ℕ
  members_end end no_more = end
  members_end end (member t size align ms) = members_end (member_end end align (align_of t) size (size_of t)) ms

-- "Stride of an array: up(element alignment, element size)", of an array of elements of this type
unfoldable pub stride_of : Ty → Option ℕ
stride_of t = both up (align_of t) (size_of t)

-- E1: "for any type with size and alignment, the size rounded up to the alignment; for a runtime array, its element's stride; else absent."
-- Of what is no runtime array that is the stride of an array of it.
unfoldable pub own_stride_of : Ty → Option ℕ
own_stride_of (scalar s) = stride_of (scalar s)
own_stride_of (vector n s) = stride_of (vector n s)
own_stride_of (matrix c r s) = stride_of (matrix c r s)
own_stride_of (array n t) = stride_of (array n t)
own_stride_of (runtime t) = own_stride_of t
own_stride_of (atomic s) = stride_of (atomic s)
own_stride_of (struct k ms) = stride_of (struct k ms)

-- "A runtime array has .. no size; its minimum size is one stride; any other type's is its size."
unfoldable pub min_size_of : Ty → Option ℕ
min_size_of (scalar s) = size_of (scalar s)
min_size_of (vector n s) = size_of (vector n s)
min_size_of (matrix c r s) = size_of (matrix c r s)
min_size_of (array n t) = size_of (array n t)
min_size_of (runtime t) = stride_of t
min_size_of (atomic s) = size_of (atomic s)
min_size_of (struct k ms) = size_of (struct k ms)

-- the offsets of the members, where the one before the first ended at `end`
unfoldable pub offsets_of : Option ℕ → Members → List (Option ℕ)
offsets_of end no_more = []
offsets_of end (member t size align ms) =
    member_start end align (align_of t) ∷ offsets_of (member_end end align (align_of t) size (size_of t)) ms

-- the numbers of a type beyond its size, alignment and minimum size: "offset and stride included"
unfoldable pub inner_numbers_of : Ty → List (Option ℕ)
inner_numbers_of (scalar s) = []
inner_numbers_of (vector n s) = []
inner_numbers_of (matrix c r s) = []
inner_numbers_of (array n t) = stride_of t ∷ []
inner_numbers_of (runtime t) = stride_of t ∷ []
inner_numbers_of (atomic s) = []
inner_numbers_of (struct k ms) = offsets_of (some 0) ms

unfoldable pub numbers_of : Ty → List (Option ℕ)
numbers_of t = size_of t ∷ align_of t ∷ min_size_of t ∷ inner_numbers_of t

unfoldable pub within_limits : List (Option ℕ) → Bool
within_limits [] = true
within_limits (none ∷ ns) = within_limits ns
within_limits (some n ∷ ns) = within_limit n && within_limits ns

-- "Every one of these numbers, offset and stride included, is at most 4,294,967,295, else refusal 7."
unfoldable pub fits_limit : Ty → Bool
fits_limit t = within_limits (numbers_of t)

-- "A type has a layout if it has an alignment and is open or has a size."
unfoldable pub has_layout : Ty → Bool
has_layout t = is_present (align_of t) && (is_open t || is_present (size_of t))

unfoldable pub is_stored : Scalar → Bool
is_stored bool = false
is_stored i32 = true
is_stored u32 = true
is_stored f32 = true
is_stored f16 = true
is_stored abstract_int = false
is_stored abstract_float = false
is_stored i64 = true
is_stored u64 = true
is_stored f64 = true

-- of a type itself, and not of those within it: its scalar is no bool and not abstract
unfoldable pub is_plain : Ty → Bool
is_plain (scalar s) = is_stored s
is_plain (vector n s) = is_stored s
is_plain (matrix c r s) = is_stored s
is_plain (array n t) = true
is_plain (runtime t) = true
is_plain (atomic s) = is_stored s
is_plain (struct k ms) = true

-- "It is storable if it has a layout and holds no bool and no abstract scalar."
unfoldable pub is_storable : Ty → Bool
is_storable t = has_layout t && everywhere is_plain t
