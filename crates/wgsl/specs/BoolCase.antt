-- The cases of vectors of three bools (02, E4).
--
-- As types, and through the bytes of a file and the definitions of the calls and of the listing. One test, `bool_cases_pass`, which the
-- checker computes.
-- Definitions only. Assumes nothing.
use Rattle.std.specs.Prelude.{ℕ, List, [], ◌∷◌, ◌++◌, Bool, replicate}
use Rattle.std.proofs.Math.Option.{none, some}
use Rattle.wgsl.specs.Types.{bool, scalar, vector, array, no_more}
use Rattle.wgsl.specs.Size.{size_of, own_stride_of}
use Rattle.wgsl.specs.Said.{good, refused}
use Rattle.wgsl.specs.Call.{check_of, min_size_call, answer_of, read_call, write_call, view_call, offset_of, set_call}
use Rattle.wgsl.specs.Listing.{entries_text, newline, decimal, listing_of}
use Rattle.wgsl.specs.Case.{is, says, measures, lies, leads, plain, type_entry, member_entry, trailer, all_pass}
use Rattle.wgsl.specs.StrideCase.{reads, columns}

-- bool, vec3 of it, a struct of both, and a runtime array of vec3
unfoldable pub bool_file : List ℕ
bool_file =
    type_entry 0 0 0 0 0
    ++ type_entry 7 0 3 0 0
    ++ type_entry 12 0 0 0 2
    ++ type_entry 10 0 0 1 0
    ++ member_entry 1
    ++ member_entry 0
    ++ trailer 4 2

unfoldable pub bool_text : List ℕ
bool_text =
    entries_text
    ++ decimal 4
    ++ newline
    ++ columns 0 (some 4) (some 4) (some 4)
    ++ columns 1 (some 12) (some 16) (some 16)
    ++ columns 2 (some 16) (some 16) (some 16)
    ++ columns 3 none (some 16) (some 16)

unfoldable pub bool_cases : List Bool
bool_cases =
    -- "12/16"
    measures (vector 3 bool) 12 16
    ∷ is (own_stride_of (vector 3 bool)) 16
    ∷ is (size_of (array 4 (vector 3 bool))) 64
    -- "accept such members in structs"
    ∷ lies (plain (vector 3 bool) (plain (scalar bool) no_more)) (0 ∷ 12 ∷ []) 16
    ∷ leads bool_file 2 (0 ∷ 12 ∷ []) 16
    -- and as elements of a runtime array
    ∷ says (check_of bool_file) (good 4)
    ∷ says (min_size_call bool_file 3) (good 16)
    -- "Bool stays not storable"
    ∷ says (answer_of (write_call bool_file 1 (1 ∷ 0 ∷ 1 ∷ []) (replicate 16 0))) (refused 10 0)
    ∷ says (answer_of (read_call bool_file 1 (replicate 16 0) (0 ∷ 0 ∷ 0 ∷ []))) (refused 10 0)
    ∷ says (answer_of (set_call bool_file 1 (0 ∷ []) (1 ∷ []) (replicate 16 0))) (refused 10 0)
    -- a view asks for a layout alone
    ∷ says (offset_of (view_call bool_file 1 [] (replicate 12 0))) (good 0)
    ∷ says (offset_of (view_call bool_file 1 (2 ∷ []) (replicate 12 0))) (good 8)
    ∷ reads (listing_of bool_file) bool_text
    ∷ []

unfoldable pub bool_cases_pass : Bool
bool_cases_pass = all_pass bool_cases
