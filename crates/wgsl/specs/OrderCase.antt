-- The cases of member orders (02, E10), on each side of an edge.
--
-- Through the bytes of a file and the definitions of the calls. One test, `order_cases_pass`, which the checker computes.
-- Definitions only. Assumes nothing.
use Rattle.std.specs.Prelude.{ℕ, List, [], ◌∷◌, ◌++◌, Bool, false, ◌&&◌, eqb}
use Rattle.wgsl.specs.Said.{Said, good, refused}
use Rattle.wgsl.specs.Call.{Done, answer_of}
use Rattle.wgsl.specs.Order.{plan_call, order_call}
use Rattle.wgsl.specs.Case.{says, type_entry, member_entry, member_given, trailer, all_pass}
use Rattle.wgsl.specs.StrideCase.{reads}

-- ---- the file

-- u32, f32, vec3 of it, vec4 and vec2 of u32, a runtime array of u32, bool; then structs: vec3, f32, vec3, f32; u32, vec4, u32; u32, vec2,
-- u32, runtime array; the same, the array with a given align of 64; bool, vec2, bool; u32 with a given size of 4,294,967,280, f32
unfoldable pub shuffled : List ℕ
shuffled =
    type_entry 2 0 0 0 0
    ++ type_entry 3 0 0 0 0
    ++ type_entry 7 0 3 1 0
    ++ type_entry 7 0 4 0 0
    ++ type_entry 7 0 2 0 0
    ++ type_entry 10 0 0 0 0
    ++ type_entry 0 0 0 0 0
    ++ type_entry 12 0 0 0 4
    ++ type_entry 12 0 0 4 3
    ++ type_entry 12 0 0 7 4
    ++ type_entry 12 0 0 11 4
    ++ type_entry 12 0 0 15 3
    ++ type_entry 12 0 0 18 2
    ++ member_entry 2
    ++ member_entry 1
    ++ member_entry 2
    ++ member_entry 1
    ++ member_entry 0
    ++ member_entry 3
    ++ member_entry 0
    ++ member_entry 0
    ++ member_entry 4
    ++ member_entry 0
    ++ member_entry 5
    ++ member_entry 0
    ++ member_entry 4
    ++ member_entry 0
    ++ member_given 5 2 0 64
    ++ member_entry 6
    ++ member_entry 4
    ++ member_entry 6
    ++ member_given 0 1 4_294_967_280 0
    ++ member_entry 1
    ++ trailer 13 20

-- ---- what a case says

-- the planner puts this order into a list of so many places, of which the later ones stay
unfoldable pub plans : Said Done → ℕ → List ℕ → Bool
plans (good d) count order = eqb d.value count && reads d.contents order
plans (refused number place) count order = false

-- ---- the cases

unfoldable pub order_cases : List Bool
order_cases =
    -- "by falling member alignment, ties as they stood": an order, and no gain (32 bytes as it stood, 48 as planned)
    plans (plan_call shuffled 7 (9 ∷ 9 ∷ 9 ∷ 9 ∷ 9 ∷ [])) 4 (0 ∷ 2 ∷ 1 ∷ 3 ∷ 9 ∷ [])
    ∷ says (order_call shuffled 7 (0 ∷ 2 ∷ 1 ∷ 3 ∷ [])) (refused 23 0)
    -- 48 bytes as it stood, and 32
    ∷ plans (plan_call shuffled 8 (9 ∷ 9 ∷ 9 ∷ [])) 3 (1 ∷ 0 ∷ 2 ∷ [])
    ∷ says (order_call shuffled 8 (1 ∷ 0 ∷ 2 ∷ [])) (good 32)
    ∷ says (order_call shuffled 8 (0 ∷ 2 ∷ 1 ∷ [])) (good 32)
    -- "a runtime array kept last", whatever its align; "for open structs, the array's offset": 20 as it stood
    ∷ plans (plan_call shuffled 9 (9 ∷ 9 ∷ 9 ∷ 9 ∷ [])) 4 (1 ∷ 0 ∷ 2 ∷ 3 ∷ [])
    ∷ says (order_call shuffled 9 (1 ∷ 0 ∷ 2 ∷ 3 ∷ [])) (good 16)
    ∷ plans (plan_call shuffled 10 (9 ∷ 9 ∷ 9 ∷ 9 ∷ [])) 4 (1 ∷ 0 ∷ 2 ∷ 3 ∷ [])
    ∷ says (order_call shuffled 10 (1 ∷ 0 ∷ 2 ∷ 3 ∷ [])) (refused 23 0)
    ∷ says (order_call shuffled 9 (3 ∷ 0 ∷ 1 ∷ 2 ∷ [])) (refused 23 0)
    -- a struct that holds bools
    ∷ says (order_call shuffled 11 (1 ∷ 0 ∷ 2 ∷ [])) (good 16)
    -- "every member position appears once", "wrong lengths included", "the end is smaller"
    ∷ says (order_call shuffled 8 (1 ∷ 1 ∷ 0 ∷ [])) (refused 23 0)
    ∷ says (order_call shuffled 8 (1 ∷ 0 ∷ 3 ∷ [])) (refused 23 0)
    ∷ says (order_call shuffled 8 (1 ∷ 0 ∷ [])) (refused 23 0)
    ∷ says (order_call shuffled 8 (1 ∷ 0 ∷ 2 ∷ 2 ∷ [])) (refused 23 0)
    ∷ says (order_call shuffled 8 []) (refused 23 0)
    ∷ says (order_call shuffled 8 (0 ∷ 1 ∷ 2 ∷ [])) (refused 23 0)
    ∷ says (order_call shuffled 8 (2 ∷ 1 ∷ 0 ∷ [])) (refused 23 0)
    -- numbers near the limit
    ∷ says (order_call shuffled 12 (1 ∷ 0 ∷ [])) (refused 23 0)
    -- "9 where the entry isn't a struct; then, from the planner, 14"
    ∷ says (order_call shuffled 3 []) (refused 9 0)
    ∷ says (answer_of (plan_call shuffled 5 [])) (refused 9 0)
    ∷ says (answer_of (plan_call shuffled 8 (9 ∷ 9 ∷ []))) (refused 14 0)
    ∷ says (answer_of (plan_call shuffled 13 [])) (refused 8 0)
    ∷ []

unfoldable pub order_cases_pass : Bool
order_cases_pass = all_pass order_cases
