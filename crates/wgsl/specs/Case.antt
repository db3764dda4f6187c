-- The cases of document 01 that are proved, in its words and order ("Values on each side of an edge", those marked P).
--
-- As types where 01 speaks of types and offsets; through the bytes of a file and the calls' definitions where it speaks of a refusal, of
-- a read, of an offset along a path or of a rank, and the offsets of members both ways. One test, `cases_pass`, which the checker computes.
-- Definitions only. Assumes nothing.
use Rattle.std.specs.Prelude.{ℕ, suc, ◌+◌, ◌*◌, List, [], ◌∷◌, ◌++◌, Bool, true, false, ◌&&◌, replicate, eqb}
use Rattle.std.proofs.Math.Option.{Option, none, some}
use Rattle.wgsl.specs.Number.{bytes_of}
use Rattle.wgsl.specs.Types.{u32, f32, f16, Ty, scalar, vector, matrix, array, struct, Members, no_more, member}
use Rattle.wgsl.specs.Size.{size_of, align_of, offsets_of}
use Rattle.wgsl.specs.Said.{Said, good, refused}
use Rattle.wgsl.specs.Call.{size_call, answer_of, read_call, view_call, offset_of, rank_call}
use Rattle.wgsl.specs.Claim.{member_step}

-- ---- what a case says

unfoldable pub is : Option ℕ → ℕ → Bool
is (some m) n = eqb m n
is none n = false

unfoldable pub are : List (Option ℕ) → List ℕ → Bool
are [] [] = true
are [] (n ∷ ns) = false
are (m ∷ ms) [] = false
are (m ∷ ms) (n ∷ ns) = is m n && are ms ns

unfoldable pub says : Said ℕ → Said ℕ → Bool
says (good m) (good n) = eqb m n
says (good m) (refused number place) = false
says (refused number place) (good n) = false
says (refused number place) (refused number' place') = eqb number number' && eqb place place'

-- a type's size and alignment
unfoldable pub measures : Ty → ℕ → ℕ → Bool
measures t size align = is (size_of t) size && is (align_of t) align

-- a struct's offsets and size
unfoldable pub lies : Members → List ℕ → ℕ → Bool
lies ms offsets size = are (offsets_of (some 0) ms) offsets && is (size_of (struct 0 ms)) size

-- the offsets of a struct's members, by a view of each from member i on in a buffer of so many bytes
unfoldable pub leads_from : List ℕ → ℕ → ℕ → ℕ → List ℕ → Bool
leads_from file entry bytes i [] = true
leads_from file entry bytes i (offset ∷ offsets) =
    says (offset_of (view_call file entry (member_step i ∷ []) (replicate bytes 0))) (good offset)
    && leads_from file entry bytes (suc i) offsets

-- a struct's offsets and size, of an entry of a file
unfoldable pub leads : List ℕ → ℕ → List ℕ → ℕ → Bool
leads file entry offsets size = says (size_call file entry) (good size) && leads_from file entry size 0 offsets

-- ---- files

-- a type entry: kind, columns, rows, reference, count
unfoldable pub type_entry : ℕ → ℕ → ℕ → ℕ → ℕ → List ℕ
type_entry kind columns rows reference count =
    kind ∷ columns ∷ rows ∷ 0 ∷ bytes_of 2 reference ++ bytes_of 2 0 ++ bytes_of 4 count

-- a member entry: type, flags, size, align
unfoldable pub member_given : ℕ → ℕ → ℕ → ℕ → List ℕ
member_given type flags size align = bytes_of 2 type ++ bytes_of 2 flags ++ bytes_of 4 size ++ bytes_of 4 align

-- with nothing given
unfoldable pub member_entry : ℕ → List ℕ
member_entry type = member_given type 0 0 0

-- the trailer of t entries and m members that begin at byte 0
unfoldable pub trailer : ℕ → ℕ → List ℕ
trailer t m = bytes_of 2 t ++ bytes_of 2 m ++ bytes_of 4 0 ++ bytes_of 2 1

-- u32, then an array of so many
unfoldable pub array_of_u32 : ℕ → List ℕ
array_of_u32 count = type_entry 2 0 0 0 0 ++ type_entry 9 0 0 0 count ++ trailer 2 0

-- u32, f32, vec4 of it, a runtime array of that, and a struct of the first and the last
unfoldable pub open_struct : List ℕ
open_struct =
    type_entry 2 0 0 0 0
    ++ type_entry 3 0 0 0 0
    ++ type_entry 7 0 4 1 0
    ++ type_entry 10 0 0 2 0
    ++ type_entry 12 0 0 0 2
    ++ member_entry 0
    ++ member_entry 3
    ++ trailer 5 2

-- f32, and a matrix of 3 columns and 3 rows of it
unfoldable pub matrix_of_f32 : List ℕ
matrix_of_f32 = type_entry 3 0 0 0 0 ++ type_entry 8 3 3 0 0 ++ trailer 2 0

-- u32, f32, vec3 of it, and a struct of u32, vec3, f32
unfoldable pub struct_of_three : List ℕ
struct_of_three =
    type_entry 2 0 0 0 0
    ++ type_entry 3 0 0 0 0
    ++ type_entry 7 0 3 1 0
    ++ type_entry 12 0 0 0 3
    ++ member_entry 0
    ++ member_entry 2
    ++ member_entry 1
    ++ trailer 4 3

-- u32, and a struct of two of it, the first with a given size of 20
unfoldable pub struct_with_size : List ℕ
struct_with_size = type_entry 2 0 0 0 0 ++ type_entry 12 0 0 0 2 ++ member_given 0 1 20 0 ++ member_entry 0 ++ trailer 2 2

-- u32, and a struct of two of it, the second with a given align of 16
unfoldable pub struct_with_align : List ℕ
struct_with_align = type_entry 2 0 0 0 0 ++ type_entry 12 0 0 0 2 ++ member_entry 0 ++ member_given 0 2 0 16 ++ trailer 2 2

-- abstract int, f32
unfoldable pub abstract_and_f32 : List ℕ
abstract_and_f32 = type_entry 5 0 0 0 0 ++ type_entry 3 0 0 0 0 ++ trailer 2 0

-- what reading entry 4 of `open_struct` from so many bytes into nine words answers
unfoldable pub read_open : ℕ → Said ℕ
read_open bytes = answer_of (read_call open_struct 4 (replicate bytes 0) (replicate 9 0))

-- ---- the cases

unfoldable pub plain : Ty → Members → Members
plain t ms = member t none none ms

unfoldable pub cases : List Bool
cases =
    -- "P1 vec3 f32 12/16."
    measures (vector 3 f32) 12 16
    -- "P2 vec3 f16 6/8."
    ∷ measures (vector 3 f16) 6 8
    -- "P3 array of 4 vec3 f32: 64."
    ∷ is (size_of (array 4 (vector 3 f32))) 64
    -- "P4 matrix 3x3 f32: 48/16."
    ∷ measures (matrix 3 3 f32) 48 16
    -- "P5 matrix of 2 columns, 3 rows, f16: 16/8."
    ∷ measures (matrix 2 3 f16) 16 8
    -- "P6 struct u32, vec3 f32, f32: offsets 0, 16, 28, size 32."
    ∷ lies (plain (scalar u32) (plain (vector 3 f32) (plain (scalar f32) no_more))) (0 ∷ 16 ∷ 28 ∷ []) 32
    ∷ leads struct_of_three 3 (0 ∷ 16 ∷ 28 ∷ []) 32
    -- "P7 given size 20 on a u32, then a u32: offsets 0, 20, size 24."
    ∷ lies (member (scalar u32) (some 20) none (plain (scalar u32) no_more)) (0 ∷ 20 ∷ []) 24
    ∷ leads struct_with_size 1 (0 ∷ 20 ∷ []) 24
    -- "P8 u32, then u32 with align 16: offsets 0, 16, size 32."
    ∷ lies (plain (scalar u32) (member (scalar u32) none (some 16) no_more)) (0 ∷ 16 ∷ []) 32
    ∷ leads struct_with_align 1 (0 ∷ 16 ∷ []) 32
    -- "P9 array of 1,073,741,823 u32: 4,294,967,292; one more: refusal 7."
    ∷ says (size_call (array_of_u32 1_073_741_823) 1) (good 4_294_967_292)
    ∷ says (size_call (array_of_u32 1_073_741_824) 1) (refused 7 1)
    -- "P10 struct u32, runtime array of vec4 f32: 31 bytes refusal 15, 47 bytes one element, 48 two."
    ∷ says (read_open 31) (refused 15 0)
    ∷ says (read_open 47) (good (1 + 1 * 4))
    ∷ says (read_open 48) (good (1 + 2 * 4))
    -- "P11 matrix 3x3 f32, index 2, index 1: offset 36."
    ∷ says (offset_of (view_call matrix_of_f32 1 (2 ∷ 1 ∷ []) (replicate 48 0))) (good 36)
    -- "P12 abstract int to f32: 6."
    ∷ says (rank_call abstract_and_f32 0 1) (good 6)
    ∷ []

unfoldable pub all_pass : List Bool → Bool
all_pass [] = true
all_pass (c ∷ cs) = c && all_pass cs

unfoldable pub cases_pass : Bool
cases_pass = all_pass cases
