-- The cases of members that nobody names (02, E12), on each side of an edge.
--
-- Through the bytes of files and the definitions of the calls. One test, `stray_cases_pass`, which the checker computes.
-- Definitions only. Assumes nothing.
use Rattle.std.specs.Prelude.{ℕ, zero, suc, List, [], ◌∷◌, ◌++◌, Bool, replicate}
use Rattle.wgsl.specs.Said.{good, refused}
use Rattle.wgsl.specs.Call.{answer_of, check_of, size_call}
use Rattle.wgsl.specs.Form.{move_on_call, move_back_call}
use Rattle.wgsl.specs.Case.{says, type_entry, member_entry, trailer, all_pass}
use Rattle.wgsl.specs.FormCase.{trailer_at, named_member}

-- ---- files

-- so many members, each a u32
unfoldable pub members : ℕ → List ℕ
members zero = []
members (suc n) = member_entry 0 ++ members n

-- u32, two structs that name c members from r on and d members from s on, and m members
unfoldable pub two_structs : ℕ → ℕ → ℕ → ℕ → ℕ → List ℕ
two_structs r c s d m = type_entry 2 0 0 0 0 ++ type_entry 12 0 0 r c ++ type_entry 12 0 0 s d ++ members m ++ trailer 3 m

-- u32 and so many members
unfoldable pub no_struct : ℕ → List ℕ
no_struct m = type_entry 2 0 0 0 0 ++ members m ++ trailer 1 m

-- the entry after u32 has kind 16; one member that no struct names
unfoldable pub bad_entry : List ℕ
bad_entry = type_entry 2 0 0 0 0 ++ type_entry 16 0 0 0 0 ++ members 1 ++ trailer 2 1

-- u32, a struct of the first of two members, whose names are these, in form 2
unfoldable pub named_stray : ℕ → ℕ → List ℕ
named_stray a b = type_entry 2 0 0 0 0 ++ type_entry 12 0 0 0 1 ++ named_member 0 a ++ named_member 0 b ++ trailer_at 2 2 0 2

-- ---- the cases

unfoldable pub stray_cases : List Bool
stray_cases =
    -- one after the other, named twice, overlapping, and by the higher struct first
    says (check_of (two_structs 0 2 2 2 4)) (good 3)
    ∷ says (check_of (two_structs 0 4 0 4 4)) (good 3)
    ∷ says (check_of (two_structs 0 3 1 3 4)) (good 3)
    ∷ says (check_of (two_structs 3 1 0 3 4)) (good 3)
    -- "M = 0"
    ∷ says (check_of (no_struct 0)) (good 1)
    -- the first, one between, the last, and the lowest of several
    ∷ says (check_of (two_structs 1 1 2 2 4)) (refused 24 0)
    ∷ says (check_of (two_structs 0 1 2 2 4)) (refused 24 1)
    ∷ says (check_of (two_structs 0 1 1 2 4)) (refused 24 3)
    ∷ says (check_of (two_structs 3 1 0 1 6)) (refused 24 1)
    ∷ says (check_of (no_struct 2)) (refused 24 0)
    -- 24 before 8, "after all entries have passed 5 to 7"
    ∷ says (size_call (no_struct 1) 0) (refused 24 0)
    ∷ says (size_call (no_struct 1) 9) (refused 24 0)
    ∷ says (check_of bad_entry) (refused 5 1)
    -- "and E7's moves read it too": before 20 and 15
    ∷ says (answer_of (move_on_call (no_struct 1) [])) (refused 24 0)
    ∷ says (answer_of (move_back_call (named_stray 0 0) [])) (refused 24 1)
    ∷ says (answer_of (move_back_call (named_stray 7 7) (replicate 99 0))) (refused 24 1)
    ∷ []

unfoldable pub stray_cases_pass : Bool
stray_cases_pass = all_pass stray_cases
