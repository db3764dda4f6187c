-- The cases of strides (02, E1), in its words where it has them.
--
-- As types, and through the bytes of files and the definitions of the layout answer and of the listing. One test, `stride_cases_pass`, which
-- the checker computes.
-- Definitions only. Assumes nothing.
use Rattle.std.specs.Prelude.{ℕ, List, [], ◌∷◌, ◌++◌, Bool, true, false, ◌&&◌, eqb}
use Rattle.std.proofs.Math.Option.{Option, none, some}
use Rattle.wgsl.specs.Types.{u32, f32, f16, abstract_int, scalar, vector, matrix, array, runtime, atomic, struct, no_more}
use Rattle.wgsl.specs.Size.{own_stride_of}
use Rattle.wgsl.specs.Said.{Said, good, refused}
use Rattle.wgsl.specs.Call.{Layout, layout_call}
use Rattle.wgsl.specs.Listing.{entries_text, newline, decimal, column, listing_of}
use Rattle.wgsl.specs.Case.{is, plain, type_entry, member_entry, trailer, open_struct, all_pass}

-- ---- what a case says

unfoldable pub is_absent : Option ℕ → Bool
is_absent (some n) = false
is_absent none = true

-- a layout answer is good and carries this stride, or none
unfoldable pub carries : Said Layout → Option ℕ → Bool
carries (good l) (some n) = is l.stride n
carries (good l) none = is_absent l.stride
carries (refused number place) stride = false

-- a text, byte by byte
unfoldable pub reads : List ℕ → List ℕ → Bool
reads [] [] = true
reads [] (n ∷ ns) = false
reads (m ∷ ms) [] = false
reads (m ∷ ms) (n ∷ ns) = eqb m n && reads ms ns

-- a line of the listing, of its four columns
unfoldable pub columns : ℕ → Option ℕ → Option ℕ → Option ℕ → List ℕ
columns k size align stride = decimal k ++ column size ++ column align ++ column stride ++ newline

-- ---- files

-- "For f32, vec3 of it, and a struct of both"
unfoldable pub listing_file : List ℕ
listing_file =
    type_entry 3 0 0 0 0
    ++ type_entry 7 0 3 0 0
    ++ type_entry 12 0 0 0 2
    ++ member_entry 0
    ++ member_entry 1
    ++ trailer 3 2

-- "01's listing gets 4, 16 and 32 at the ends of its three entry lines"
unfoldable pub listing_text : List ℕ
listing_text =
    entries_text
    ++ decimal 3
    ++ newline
    ++ columns 0 (some 4) (some 4) (some 4)
    ++ columns 1 (some 12) (some 16) (some 16)
    ++ columns 2 (some 32) (some 16) (some 32)

-- abstract int, vec2 of it, and an array of that
unfoldable pub absent_file : List ℕ
absent_file = type_entry 5 0 0 0 0 ++ type_entry 7 0 2 0 0 ++ type_entry 9 0 0 1 4 ++ trailer 3 0

unfoldable pub absent_text : List ℕ
absent_text =
    entries_text ++ decimal 3 ++ newline ++ columns 0 none none none ++ columns 1 none none none ++ columns 2 none none none

-- ---- the cases

unfoldable pub stride_cases : List Bool
stride_cases =
    -- "The bench scripts .. got vec3 of f16 wrong."
    is (own_stride_of (vector 3 f16)) 8
    ∷ is (own_stride_of (vector 3 f32)) 16
    -- "for any type with size and alignment, the size rounded up to the alignment"
    ∷ is (own_stride_of (scalar f16)) 2
    ∷ is (own_stride_of (vector 2 f16)) 4
    ∷ is (own_stride_of (matrix 3 3 f32)) 48
    ∷ is (own_stride_of (matrix 2 3 f16)) 16
    ∷ is (own_stride_of (atomic u32)) 4
    ∷ is (own_stride_of (array 4 (vector 3 f32))) 64
    ∷ is (own_stride_of (array 1_073_741_823 (scalar u32))) 4_294_967_292
    ∷ is (own_stride_of (struct 0 (plain (scalar u32) (plain (vector 3 f32) (plain (scalar f32) no_more))))) 32
    -- "for a runtime array, its element's stride"
    ∷ is (own_stride_of (runtime (vector 3 f32))) 16
    ∷ is (own_stride_of (runtime (vector 3 f16))) 8
    ∷ carries (layout_call open_struct 3) (some 16)
    -- "else absent": abstract, a vector and an array of it; an open struct
    ∷ is_absent (own_stride_of (scalar abstract_int))
    ∷ is_absent (own_stride_of (vector 3 abstract_int))
    ∷ is_absent (own_stride_of (array 4 (vector 3 abstract_int)))
    ∷ carries (layout_call open_struct 4) none
    -- "The program's lines gain a fourth column"
    ∷ reads (listing_of listing_file) listing_text
    ∷ reads (listing_of absent_file) absent_text
    ∷ []

unfoldable pub stride_cases_pass : Bool
stride_cases_pass = all_pass stride_cases
