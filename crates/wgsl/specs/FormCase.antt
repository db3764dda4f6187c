-- The cases of the two forms of a layout file (02, E7), on each side of an edge.
--
-- Through the bytes of files and the definitions of the calls. One test, `form_cases_pass`, which the checker computes.
-- Definitions only. Assumes nothing.
use Rattle.std.specs.Prelude.{ℕ, List, [], ◌∷◌, ◌++◌, Bool, ◌&&◌, replicate}
use Rattle.wgsl.specs.Number.{bytes_of}
use Rattle.wgsl.specs.Said.{Said, good, refused}
use Rattle.wgsl.specs.Call.{Done, check_of, contents_of, answer_of}
use Rattle.wgsl.specs.Form.{move_on_call, move_back_call}
use Rattle.wgsl.specs.Case.{says, leads, type_entry, member_entry, all_pass}
use Rattle.wgsl.specs.StrideCase.{reads}

-- ---- files

-- a trailer with a start and a form
unfoldable pub trailer_at : ℕ → ℕ → ℕ → ℕ → List ℕ
trailer_at t m start form = bytes_of 2 t ++ bytes_of 2 m ++ bytes_of 4 start ++ bytes_of 2 form

-- a member entry of a form 2 file
unfoldable pub named_member : ℕ → ℕ → List ℕ
named_member type name = member_entry type ++ bytes_of 4 name

-- u32, and a struct of three of them, behind five bytes that are not looked at
unfoldable pub two_entries : List ℕ
two_entries = 9 ∷ 8 ∷ 7 ∷ 6 ∷ 5 ∷ type_entry 2 0 0 0 0 ++ type_entry 12 0 0 0 3

unfoldable pub plain_file : List ℕ
plain_file = two_entries ++ member_entry 0 ++ member_entry 0 ++ member_entry 0 ++ trailer_at 2 3 5 1

unfoldable pub named_file : ℕ → ℕ → ℕ → List ℕ
named_file a b c = two_entries ++ named_member 0 a ++ named_member 0 b ++ named_member 0 c ++ trailer_at 2 3 5 2

-- the same bytes that call themselves the other form
unfoldable pub plain_as_named : List ℕ
plain_as_named = two_entries ++ member_entry 0 ++ member_entry 0 ++ member_entry 0 ++ trailer_at 2 3 5 2

unfoldable pub named_as_plain : List ℕ
named_as_plain = two_entries ++ named_member 0 0 ++ named_member 0 0 ++ named_member 0 0 ++ trailer_at 2 3 5 1

-- no members, in any form
unfoldable pub bare_file : ℕ → List ℕ
bare_file form = type_entry 2 0 0 0 0 ++ trailer_at 1 0 0 form

-- no types, in any form
unfoldable pub empty_file : ℕ → List ℕ
empty_file form = trailer_at 0 0 0 form

-- an entry of kind 16, and a name
unfoldable pub bad_and_named : List ℕ
bad_and_named = type_entry 16 0 0 0 0 ++ named_member 0 1 ++ trailer_at 1 1 0 2

-- ---- what a case says

-- a move into a buffer of so many bytes answers this length, fills it with these bytes, and leaves the rest
unfoldable pub fills : (List ℕ → Said Done) → ℕ → List ℕ → List ℕ → Bool
fills move length new rest =
    says (answer_of (move (new ++ rest))) (good length)
    && reads (contents_of [] (move (replicate length 255 ++ rest))) (new ++ rest)

-- neither form: every call refuses 2
unfoldable pub neither : ℕ → Bool
neither form =
    says (check_of (bare_file form)) (refused 2 0)
    && says (answer_of (move_on_call (bare_file form) (replicate 99 0))) (refused 2 0)
    && says (answer_of (move_back_call (bare_file form) (replicate 99 0))) (refused 2 0)

-- ---- the cases

unfoldable pub form_cases : List Bool
form_cases =
    -- "Form 2 has 16-byte member entries .. its length is S + 12 x T + 16 x M + 10": 5 + 24 + 48 + 10
    says (check_of plain_file) (good 2)
    ∷ says (check_of (named_file 7 8 9)) (good 2)
    ∷ says (check_of plain_as_named) (refused 4 0)
    ∷ says (check_of named_as_plain) (refused 4 0)
    -- "form 2 gives form 1's answers with names ignored"
    ∷ leads plain_file 1 (0 ∷ 4 ∷ 8 ∷ []) 12
    ∷ leads (named_file 7 8 9) 1 (0 ∷ 4 ∷ 8 ∷ []) 12
    -- "A move from form 1 to form 2 sets names to 0 and keeps the bytes before S"; "later output bytes stay"
    ∷ fills (move_on_call plain_file) 87 (named_file 0 0 0) (1 ∷ 2 ∷ 3 ∷ [])
    ∷ fills (move_on_call plain_file) 87 (named_file 0 0 0) []
    ∷ says (answer_of (move_on_call plain_file (replicate 86 0))) (refused 15 0)
    -- "and there and back gives the same bytes"
    ∷ fills (move_back_call (named_file 0 0 0)) 75 plain_file (1 ∷ 2 ∷ 3 ∷ [])
    ∷ fills (move_back_call (named_file 0 0 0)) 75 plain_file []
    ∷ says (answer_of (move_back_call (named_file 0 0 0) (replicate 74 0))) (refused 15 0)
    -- "exactly if all names of its M members are 0": the first, one whose low byte is 0, and the last
    ∷ says (answer_of (move_back_call (named_file 1 0 0) (replicate 75 0))) (refused 20 0)
    ∷ says (answer_of (move_back_call (named_file 0 16_777_216 0) (replicate 75 0))) (refused 20 0)
    ∷ says (answer_of (move_back_call (named_file 0 0 1) (replicate 75 0))) (refused 20 0)
    -- "20 .. after 1 to 7; 15 .. after that"
    ∷ says (answer_of (move_back_call (named_file 0 0 1) [])) (refused 20 0)
    ∷ says (answer_of (move_back_call bad_and_named [])) (refused 5 0)
    -- without members
    ∷ fills (move_on_call (bare_file 1)) 22 (bare_file 2) []
    ∷ fills (move_back_call (bare_file 2)) 22 (bare_file 1) []
    -- "a form 1 file given to the move back, or a form 2 file to the move on": 2, after 1, before 3 and 4
    ∷ says (answer_of (move_on_call (named_file 0 0 0) (replicate 99 0))) (refused 2 0)
    ∷ says (answer_of (move_back_call plain_file (replicate 99 0))) (refused 2 0)
    ∷ says (answer_of (move_on_call (replicate 9 0) [])) (refused 1 0)
    ∷ says (answer_of (move_back_call (replicate 9 0) [])) (refused 1 0)
    ∷ says (answer_of (move_on_call (empty_file 2) [])) (refused 2 0)
    ∷ says (answer_of (move_on_call (empty_file 1) [])) (refused 3 0)
    ∷ says (answer_of (move_back_call (empty_file 1) [])) (refused 2 0)
    ∷ says (answer_of (move_back_call (empty_file 2) [])) (refused 3 0)
    ∷ says (answer_of (move_on_call plain_as_named [])) (refused 2 0)
    ∷ says (answer_of (move_on_call named_as_plain [])) (refused 4 0)
    ∷ says (answer_of (move_back_call named_as_plain [])) (refused 2 0)
    ∷ says (answer_of (move_back_call plain_as_named [])) (refused 4 0)
    -- "2 now means neither 1 nor 2", both bytes of the form counted
    ∷ neither 0
    ∷ neither 3
    ∷ neither 257
    ∷ neither 258
    ∷ neither 65_535
    ∷ []

unfoldable pub form_cases_pass : Bool
form_cases_pass = all_pass form_cases
