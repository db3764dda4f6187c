-- The cases of cleaning (02, E9), on each side of an edge.
--
-- Through the bytes of a file and the definition of the call. One test, `clean_cases_pass`, which the checker computes.
-- Definitions only. Assumes nothing.
use Rattle.std.specs.Prelude.{ℕ, List, [], ◌∷◌, ◌++◌, Bool, false, ◌&&◌, replicate, eqb}
use Rattle.wgsl.specs.Said.{Said, good, refused}
use Rattle.wgsl.specs.Clean.{CleanDone, clean_call}
use Rattle.wgsl.specs.Case.{type_entry, member_entry, member_given, trailer, all_pass}
use Rattle.wgsl.specs.StrideCase.{reads}

-- ---- the file

-- u32; f16; vec3 of u32; f32; a struct of a u32, a vec3 and a u32; a matrix of 2 columns, 3 rows; an array of 2 vec3; a struct of a u32 with a
-- given size of 8 and an f16; a runtime array of vec3; a struct of a u32 and that; bool, and a struct of one; an array of 3 u32
unfoldable pub gappy : List ℕ
gappy =
    type_entry 2 0 0 0 0
    ++ type_entry 4 0 0 0 0
    ++ type_entry 7 0 3 0 0
    ++ type_entry 3 0 0 0 0
    ++ type_entry 12 0 0 0 3
    ++ type_entry 8 2 3 3 0
    ++ type_entry 9 0 0 2 2
    ++ type_entry 12 0 0 3 2
    ++ type_entry 10 0 0 2 0
    ++ type_entry 12 0 0 5 2
    ++ type_entry 0 0 0 0 0
    ++ type_entry 12 0 0 7 1
    ++ type_entry 9 0 0 0 3
    ++ member_entry 0
    ++ member_entry 2
    ++ member_entry 0
    ++ member_given 0 1 8 0
    ++ member_entry 1
    ++ member_entry 0
    ++ member_entry 8
    ++ member_entry 10
    ++ trailer 13 8

-- ---- what a case says

-- so many bytes of rubbish, and of none
unfoldable pub full : ℕ → List ℕ
full n = replicate n 255

unfoldable pub bare : ℕ → List ℕ
bare n = replicate n 0

-- cleaning changes so many bytes, the first at this offset, and leaves these
unfoldable pub cleans : Said CleanDone → ℕ → ℕ → List ℕ → Bool
cleans (good d) changed first bytes = eqb d.changed changed && eqb d.first first && reads d.contents bytes
cleans (refused number place) changed first bytes = false

unfoldable pub refuses : Said CleanDone → ℕ → Bool
refuses (good d) n = false
refuses (refused number place) n = eqb number n && eqb place 0

-- ---- the cases

unfoldable pub clean_cases : List Bool
clean_cases =
    -- a gap between members, and none at the end; the byte after the size stays
    cleans (clean_call gappy 4 (full 33)) 12 4 (full 4 ++ bare 12 ++ full 17)
    -- "the number of places where before and after differ": what is zero already is not counted
    ∷ cleans (clean_call gappy 4 (full 4 ++ bare 10 ++ 7 ∷ 0 ∷ full 16)) 1 14 (full 4 ++ bare 12 ++ full 16)
    -- "doing it again changes 0", and the first is "the extent itself if none"
    ∷ cleans (clean_call gappy 4 (full 4 ++ bare 12 ++ full 17)) 0 32 (full 4 ++ bare 12 ++ full 17)
    -- the fourth word of a vec3: after the last scalar it is not the vec3's, but a struct's or an array's
    ∷ cleans (clean_call gappy 2 (full 16)) 0 12 (full 16)
    -- matrix columns
    ∷ cleans (clean_call gappy 5 (full 32)) 8 12 (full 12 ++ bare 4 ++ full 12 ++ bare 4)
    -- between the elements of an array, and after the last one within the stride
    ∷ cleans (clean_call gappy 6 (full 32)) 8 12 (full 12 ++ bare 4 ++ full 12 ++ bare 4)
    ∷ cleans (clean_call gappy 6 (full 12 ++ bare 4 ++ full 16)) 4 28 (full 12 ++ bare 4 ++ full 12 ++ bare 4)
    -- the slack of a given size, and the end of a struct
    ∷ cleans (clean_call gappy 7 (full 13)) 6 4 (full 4 ++ bare 4 ++ full 2 ++ bare 2 ++ full 1)
    -- "For open types the extent is the array offset plus whole elements": 33 bytes are two of a vec3, and 47 of the struct one
    ∷ cleans (clean_call gappy 8 (full 33)) 8 12 (full 12 ++ bare 4 ++ full 12 ++ bare 4 ++ full 1)
    ∷ cleans (clean_call gappy 9 (full 47)) 16 4 (full 4 ++ bare 12 ++ full 12 ++ bare 4 ++ full 15)
    ∷ cleans (clean_call gappy 9 (bare 48)) 0 48 (bare 48)
    -- no gap at all, and a scalar
    ∷ cleans (clean_call gappy 12 (full 13)) 0 12 (full 13)
    ∷ cleans (clean_call gappy 0 (full 4)) 0 4 (full 4)
    -- "Refusals: 8, 17, 9, 10, 15"
    ∷ refuses (clean_call gappy 13 []) 8
    ∷ refuses (clean_call gappy 11 []) 10
    ∷ refuses (clean_call gappy 4 (full 31)) 15
    ∷ refuses (clean_call gappy 8 (full 15)) 15
    ∷ refuses (clean_call gappy 9 (full 31)) 15
    ∷ refuses (clean_call [] 0 []) 1
    ∷ []

unfoldable pub clean_cases_pass : Bool
clean_cases_pass = all_pass clean_cases
