-- The cases of the uniform profile (02, E5), on each side of an edge.
--
-- As types, and through the bytes of files and the definition of the call. One test, `uniform_cases_pass`, which the checker computes.
-- Definitions only. Assumes nothing.
use Rattle.std.specs.Prelude.{ℕ, List, [], ◌∷◌, ◌++◌, Bool, not}
use Rattle.std.proofs.Math.Option.{none, some}
use Rattle.wgsl.specs.Types.{u32, f32, f16, Ty, scalar, vector, matrix, array, atomic, struct, no_more, member}
use Rattle.wgsl.specs.Said.{good, refused}
use Rattle.wgsl.specs.Uniform.{is_uniform, uniform_call}
use Rattle.wgsl.specs.Case.{says, plain, type_entry, member_entry, member_given, trailer, open_struct, all_pass}

-- ---- types

-- a struct of one f32, of 4 bytes
unfoldable pub small : Ty
small = struct 0 (plain (scalar f32) no_more)

-- ---- files

-- u32; an array of 4, whose stride is 4; an atomic; f32; a struct of the atomic and the array, one of f32 alone, one of the atomic alone
unfoldable pub broken_file : List ℕ
broken_file =
    type_entry 2 0 0 0 0
    ++ type_entry 9 0 0 0 4
    ++ type_entry 11 0 0 0 0
    ++ type_entry 3 0 0 0 0
    ++ type_entry 12 0 0 0 2
    ++ type_entry 12 0 0 2 1
    ++ type_entry 12 0 0 3 1
    ++ member_entry 2
    ++ member_entry 1
    ++ member_entry 3
    ++ member_entry 2
    ++ trailer 7 4

-- f32; a struct of it; a struct of that struct and an f32; the same with a given size of 16 on the struct
unfoldable pub nested_file : List ℕ
nested_file =
    type_entry 3 0 0 0 0
    ++ type_entry 12 0 0 0 1
    ++ type_entry 12 0 0 1 2
    ++ type_entry 12 0 0 3 2
    ++ member_entry 0
    ++ member_entry 1
    ++ member_entry 0
    ++ member_given 1 1 16 0
    ++ member_entry 0
    ++ trailer 4 5

-- bool; a struct of it; a runtime array of it; a struct that ends in that
unfoldable pub unstored_file : List ℕ
unstored_file =
    type_entry 0 0 0 0 0
    ++ type_entry 12 0 0 0 1
    ++ type_entry 10 0 0 0 0
    ++ type_entry 12 0 0 1 1
    ++ member_entry 0
    ++ member_entry 2
    ++ trailer 4 2

-- ---- the cases

unfoldable pub uniform_cases : List Bool
uniform_cases =
    -- "no atomic anywhere"
    is_uniform (scalar f32)
    ∷ not (is_uniform (atomic u32))
    ∷ not (is_uniform (struct 1 (plain (struct 0 (plain (atomic u32) no_more)) no_more)))
    -- "every array's stride .. is a multiple of 16"
    ∷ not (is_uniform (array 4 (scalar f32)))
    ∷ not (is_uniform (array 4 (vector 3 f16)))
    ∷ is_uniform (array 4 (vector 4 f32))
    ∷ is_uniform (array 4 (vector 3 f32))
    ∷ is_uniform (array 4 (matrix 2 2 f32))
    ∷ not (is_uniform (array 2 (array 4 (scalar f32))))
    -- "its type's alignment, raised to a multiple of 16 for structs and arrays": mat2x2 at 8, but an array of it only at 16
    ∷ is_uniform (struct 0 (plain (vector 2 f32) (plain (matrix 2 2 f32) no_more)))
    ∷ not (is_uniform (struct 0 (plain (vector 2 f32) (plain (array 2 (matrix 2 2 f32)) no_more))))
    ∷ is_uniform (struct 0 (plain (vector 2 f32) (member (array 2 (matrix 2 2 f32)) none (some 16) no_more)))
    ∷ not (is_uniform (struct 1 (plain (scalar f32) (plain small (plain (scalar f32) no_more)))))
    ∷ is_uniform (struct 1 (plain (scalar f32) (member small none (some 16) no_more)))
    -- "a member after a struct member starts at least that struct's size, rounded up to 16, after its start"
    ∷ is_uniform (struct 1 (plain small no_more))
    ∷ not (is_uniform (struct 1 (plain small (plain (scalar f32) no_more))))
    ∷ not (is_uniform (struct 1 (member small (some 12) none (plain (scalar f32) no_more))))
    ∷ is_uniform (struct 1 (member small (some 16) none (plain (scalar f32) no_more)))
    ∷ is_uniform (struct 1 (plain small (member (scalar f32) none (some 16) no_more)))
    -- "The struct and array rules are stated once over depth."
    ∷ not (is_uniform (array 4 (struct 1 (member (struct 0 (plain (array 4 (scalar f32)) no_more)) (some 16) (some 16) no_more))))
    -- "the lowest broken entry .. among the one asked and those it reaches": the atomic is higher than the array, and is named only where
    -- the array is not reached
    ∷ says (uniform_call broken_file 4) (refused 19 1)
    ∷ says (uniform_call broken_file 6) (refused 19 2)
    ∷ says (uniform_call broken_file 2) (refused 19 2)
    ∷ says (uniform_call broken_file 5) (good 0)
    ∷ says (uniform_call nested_file 2) (refused 19 2)
    ∷ says (uniform_call nested_file 3) (good 0)
    -- "19, after 8, 9 and 10 ..; open types give 9"
    ∷ says (uniform_call broken_file 7) (refused 8 0)
    ∷ says (uniform_call open_struct 3) (refused 9 0)
    ∷ says (uniform_call open_struct 4) (refused 9 0)
    ∷ says (uniform_call unstored_file 3) (refused 9 0)
    ∷ says (uniform_call unstored_file 1) (refused 10 0)
    ∷ []

unfoldable pub uniform_cases_pass : Bool
uniform_cases_pass = all_pass uniform_cases
