-- The cases of scalars of 64 bits (02, E6), on each side of an edge.
--
-- As types, and through the bytes of files and the definitions of the calls. One test, `wide_cases_pass`, which the checker computes.
-- Definitions only. Assumes nothing.
use Rattle.std.specs.Prelude.{ℕ, List, [], ◌∷◌, ◌++◌, Bool, ◌&&◌, replicate}
use Rattle.wgsl.specs.Number.{bytes_of}
use Rattle.wgsl.specs.Types.{i64, u64, f64, f16, Scalar, scalar, vector, no_more}
use Rattle.wgsl.specs.Size.{size_of, align_of, own_stride_of}
use Rattle.wgsl.specs.Said.{good, refused}
use Rattle.wgsl.specs.Call.{check_of, contents_of, answer_of, read_call, write_call, view_call, offset_of, set_call, rank_call}
use Rattle.wgsl.specs.BitFieldCall.{extract_call}
use Rattle.wgsl.specs.Claim.{member_step}
use Rattle.wgsl.specs.Case.{is, says, measures, lies, leads, plain, type_entry, member_entry, trailer, all_pass}
use Rattle.wgsl.specs.StrideCase.{is_absent, reads}

-- ---- what a case says

-- "8/8, vector of 2 16/16, of 4 32/32, of 3 size 24 and no alignment"
unfoldable pub wide : Scalar → Bool
wide s =
    measures (scalar s) 8 8
    && measures (vector 2 s) 16 16
    && measures (vector 4 s) 32 32
    && is (size_of (vector 3 s)) 24
    && is_absent (align_of (vector 3 s))
    && is_absent (own_stride_of (vector 3 s))

-- ---- files

-- i64, f16, u64; a struct of the three; a runtime array of i64; abstract int; vec2 of i64
unfoldable pub wide_file : List ℕ
wide_file =
    type_entry 13 0 0 0 0
    ++ type_entry 4 0 0 0 0
    ++ type_entry 14 0 0 0 0
    ++ type_entry 12 0 0 0 3
    ++ type_entry 10 0 0 0 0
    ++ type_entry 5 0 0 0 0
    ++ type_entry 7 0 2 0 0
    ++ member_entry 0
    ++ member_entry 1
    ++ member_entry 2
    ++ trailer 7 3

-- f64, vec3 of it, and a struct of that
unfoldable pub vec3_member : List ℕ
vec3_member = type_entry 15 0 0 0 0 ++ type_entry 7 0 3 0 0 ++ type_entry 12 0 0 0 1 ++ member_entry 1 ++ trailer 3 1

-- f64, and a matrix of it; i64, and an atomic of it
unfoldable pub matrix_of_wide : List ℕ
matrix_of_wide = type_entry 15 0 0 0 0 ++ type_entry 8 2 2 0 0 ++ trailer 2 0

unfoldable pub atomic_of_wide : List ℕ
atomic_of_wide = type_entry 13 0 0 0 0 ++ type_entry 11 0 0 0 0 ++ trailer 2 0

-- no kind is above 15
unfoldable pub sixteen : List ℕ
sixteen = type_entry 16 0 0 0 0 ++ trailer 1 0

-- ---- words

-- those of the struct: 2 ^ 32 + 7, the f16 w, and 2 ^ 33 + 9
unfoldable pub five_words : ℕ → List ℕ
five_words w = 7 ∷ 1 ∷ w ∷ 9 ∷ 2 ∷ []

-- the bytes that they fill
unfoldable pub their_bytes : List ℕ
their_bytes =
    bytes_of 8 4_294_967_303 ++ bytes_of 2 65_535 ++ replicate 6 0 ++ bytes_of 8 8_589_934_601

-- ---- the cases

unfoldable pub wide_cases : List Bool
wide_cases =
    wide i64
    ∷ wide u64
    ∷ wide f64
    ∷ lies (plain (scalar i64) (plain (scalar f16) (plain (scalar u64) no_more))) (0 ∷ 8 ∷ 16 ∷ []) 24
    ∷ leads wide_file 3 (0 ∷ 8 ∷ 16 ∷ []) 24
    -- "They may be vector elements, not matrix or atomic ones", and vec3 of one is no member
    ∷ says (check_of wide_file) (good 7)
    ∷ says (check_of matrix_of_wide) (refused 5 1)
    ∷ says (check_of atomic_of_wide) (refused 5 1)
    ∷ says (check_of vec3_member) (refused 5 2)
    ∷ says (check_of sixteen) (refused 5 0)
    -- "A 64-bit scalar takes two words, low first"
    ∷ reads (contents_of [] (write_call wide_file 3 (five_words 65_535) (replicate 24 255))) their_bytes
    ∷ reads (contents_of [] (read_call wide_file 3 their_bytes (replicate 5 0))) (five_words 65_535)
    ∷ says (answer_of (read_call wide_file 3 their_bytes (replicate 4 0))) (refused 14 0)
    ∷ says (answer_of (write_call wide_file 3 (7 ∷ 65_535 ∷ 9 ∷ []) (replicate 24 0))) (refused 14 0)
    -- the place of a bad f16 counts words
    ∷ says (answer_of (write_call wide_file 3 (five_words 65_536) (replicate 24 0))) (refused 16 2)
    -- an odd number of words fills no array of i64
    ∷ says (answer_of (write_call wide_file 4 (1 ∷ 2 ∷ 3 ∷ []) (replicate 24 0))) (refused 14 0)
    ∷ says (answer_of (write_call wide_file 4 (1 ∷ 2 ∷ 3 ∷ 4 ∷ []) (replicate 24 0))) (good 16)
    -- "Setting takes a word list of that length": 14 for another, before 16
    ∷ says (answer_of (set_call wide_file 3 (member_step 2 ∷ []) (1 ∷ []) their_bytes)) (refused 14 0)
    ∷ says (answer_of (set_call wide_file 3 (member_step 2 ∷ []) (1 ∷ 2 ∷ []) their_bytes)) (good 16)
    ∷ says (answer_of (set_call wide_file 3 (member_step 2 ∷ []) (1 ∷ 2 ∷ 3 ∷ []) their_bytes)) (refused 14 0)
    ∷ says (answer_of (set_call wide_file 3 (member_step 1 ∷ []) (65_536 ∷ 0 ∷ []) their_bytes)) (refused 14 0)
    ∷ says (answer_of (set_call wide_file 3 (member_step 1 ∷ []) (65_536 ∷ []) their_bytes)) (refused 16 0)
    ∷ reads (contents_of [] (set_call wide_file 6 (1 ∷ []) (5 ∷ 6 ∷ []) (replicate 16 255))) (replicate 8 255 ++ bytes_of 4 5 ++ bytes_of 4 6)
    ∷ says (offset_of (view_call wide_file 6 (1 ∷ []) (replicate 16 0))) (good 8)
    -- bit fields stay those of i32 and u32
    ∷ says (extract_call wide_file 3 (member_step 0 ∷ []) their_bytes 0 8) (refused 14 0)
    -- ranks to themselves
    ∷ says (rank_call wide_file 0 0) (good 0)
    ∷ says (rank_call wide_file 0 2) (refused 18 0)
    ∷ says (rank_call wide_file 5 0) (refused 18 0)
    ∷ []

unfoldable pub wide_cases_pass : Bool
wide_cases_pass = all_pass wide_cases
