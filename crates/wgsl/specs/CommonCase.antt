-- The cases of common types in any order and grouping (02, E13), on each side of an edge.
--
-- Through the bytes of a file and the definitions of the calls. One test, `common_cases_pass`, which the checker computes.
-- Definitions only. Assumes nothing.
use Rattle.std.specs.Prelude.{ℕ, List, [], ◌∷◌, ◌++◌, Bool}
use Rattle.wgsl.specs.Said.{good, refused}
use Rattle.wgsl.specs.Call.{rank_call, common_call}
use Rattle.wgsl.specs.Case.{says, type_entry, member_entry, trailer, all_pass}
use Rattle.wgsl.specs.CommonClaim.{Grouping, alone, together, part, part_and, grouping_call}

-- ---- a file

-- 0 abstract int, 1 abstract float, 2 i32, 3 u32, 4 f32, 5 f16, 6 i32 again; 7 and 8 two structs of the same member, an i32; 9 and 10 both
-- an array of two of the first; 11 a vec2 of abstract int, 12 one of f32
unfoldable pub operands : List ℕ
operands =
    type_entry 5 0 0 0 0 ++ type_entry 6 0 0 0 0 ++ type_entry 1 0 0 0 0 ++ type_entry 2 0 0 0 0 ++ type_entry 3 0 0 0 0 ++ type_entry 4 0 0 0 0
    ++ type_entry 1 0 0 0 0
    ++ type_entry 12 0 0 0 1
    ++ type_entry 12 0 0 0 1
    ++ type_entry 9 0 0 7 2
    ++ type_entry 9 0 0 7 2
    ++ type_entry 7 0 2 0 0
    ++ type_entry 7 0 2 4 0
    ++ member_entry 2
    ++ trailer 13 1

-- two parts: one of two numbers, and one alone
unfoldable pub pair_and : ℕ → ℕ → ℕ → Grouping ℕ
pair_and a b c = together (part_and (together (part_and (alone a) (part (alone b)))) (part (alone c)))

-- ---- the cases

unfoldable pub common_cases : List Bool
common_cases =
    -- "whatever the order .. of its members, repeats included"
    says (common_call operands (0 ∷ 1 ∷ 4 ∷ [])) (good 4)
    ∷ says (common_call operands (4 ∷ 0 ∷ 1 ∷ [])) (good 4)
    ∷ says (common_call operands (1 ∷ 4 ∷ 0 ∷ 4 ∷ 0 ∷ [])) (good 4)
    ∷ says (common_call operands (11 ∷ 12 ∷ [])) (good 12)
    ∷ says (common_call operands (12 ∷ 11 ∷ [])) (good 12)
    -- "or grouping"
    ∷ says (grouping_call operands (pair_and 0 1 4)) (good 4)
    ∷ says (grouping_call operands (pair_and 4 0 1)) (good 4)
    -- "where equal types have two entry numbers, the number may differ"
    ∷ says (common_call operands (2 ∷ 6 ∷ [])) (good 6)
    ∷ says (common_call operands (6 ∷ 2 ∷ [])) (good 2)
    ∷ says (common_call operands (9 ∷ 10 ∷ [])) (good 10)
    ∷ says (common_call operands (10 ∷ 9 ∷ [])) (good 9)
    ∷ says (grouping_call operands (pair_and 6 0 2)) (good 2)
    ∷ says (grouping_call operands (pair_and 0 2 6)) (good 6)
    -- "or refusal 18": structs of two numbers; an abstract int between i32 and f32; in a part, and of the whole
    ∷ says (common_call operands (7 ∷ 8 ∷ [])) (refused 18 0)
    ∷ says (common_call operands (2 ∷ 0 ∷ 4 ∷ [])) (refused 18 0)
    ∷ says (common_call operands (0 ∷ 4 ∷ 2 ∷ [])) (refused 18 0)
    ∷ says (grouping_call operands (pair_and 2 4 0)) (refused 18 0)
    ∷ says (grouping_call operands (pair_and 2 0 4)) (refused 18 0)
    -- "An empty list gives 18"
    ∷ says (common_call operands []) (refused 18 0)
    -- 8 before 18 of a list; part by part the first refusal is the answer
    ∷ says (common_call operands (2 ∷ 4 ∷ 13 ∷ [])) (refused 8 0)
    ∷ says (grouping_call operands (pair_and 2 4 13)) (refused 18 0)
    ∷ says (grouping_call operands (pair_and 13 2 4)) (refused 8 0)
    -- "the ranks add up"
    ∷ says (rank_call operands 0 1) (good 5)
    ∷ says (rank_call operands 1 5) (good 2)
    ∷ says (rank_call operands 0 5) (good 7)
    ∷ []

unfoldable pub common_cases_pass : Bool
common_cases_pass = all_pass common_cases
