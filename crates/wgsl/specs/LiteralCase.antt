-- The cases of conversions (02, E14), on each side of an edge.
--
-- Patterns of floats are written as numbers; those of f64 are made of their parts. One test, `literal_cases_pass`, which the checker computes.
-- Definitions only. Assumes nothing.
use Rattle.std.specs.Prelude.{ℕ, ◌+◌, ◌-◌, ◌*◌, ◌^◌, List, [], ◌∷◌, Bool}
use Rattle.wgsl.specs.Said.{good, refused}
use Rattle.wgsl.specs.Literal.{convert_call}
use Rattle.wgsl.specs.Case.{says, all_pass}

-- (1 + fraction / 2 ^ 52) * 2 ^ (exponent - 1023)
unfoldable pub float_bits : ℕ → ℕ → ℕ
float_bits exponent fraction = exponent * 2 ^ 52 + fraction

-- the same below zero, and a negative abstract int
unfoldable pub negative_bits : ℕ → ℕ
negative_bits bits = 2 ^ 63 + bits

unfoldable pub minus : ℕ → ℕ
minus n = 2 ^ 64 - n

unfoldable pub literal_cases : List Bool
literal_cases =
    -- "to f16, 65,519 gives 65,504 and 65,520 is refused"
    says (convert_call 5 65_519 4) (good 31_743)
    ∷ says (convert_call 5 65_520 4) (refused 25 0)
    ∷ says (convert_call 5 (minus 65_519) 4) (good 64_511)
    ∷ says (convert_call 5 (minus 65_520) 4) (refused 25 0)
    -- 65,519.99.., the last below, and 65,520, as abstract floats
    ∷ says (convert_call 6 (float_bits 1_038 (1_023 * 2 ^ 42 + 2 ^ 41 - 1)) 4) (good 31_743)
    ∷ says (convert_call 6 (float_bits 1_038 (1_023 * 2 ^ 42 + 2 ^ 41)) 4) (refused 25 0)
    -- f16's least, 2 ^ -24; half of it, a tie to the even zero; a little above half; a subnormal, 3 * 2 ^ -24; a tie between 1 and 2
    ∷ says (convert_call 6 (float_bits 999 0) 4) (good 1)
    ∷ says (convert_call 6 (float_bits 998 0) 4) (good 0)
    ∷ says (convert_call 6 (float_bits 998 1) 4) (good 1)
    ∷ says (convert_call 6 (float_bits 1_000 (2 ^ 51)) 4) (good 3)
    ∷ says (convert_call 6 (float_bits 999 (2 ^ 51)) 4) (good 2)
    -- f32's least, half of it, and a little above
    ∷ says (convert_call 6 (float_bits 874 0) 3) (good 1)
    ∷ says (convert_call 6 (float_bits 873 0) 3) (good 0)
    ∷ says (convert_call 6 (float_bits 873 1) 3) (good 1)
    -- f64's own least is far below
    ∷ says (convert_call 6 1 3) (good 0)
    -- 2^24 + 1 and 2^24 + 3 to f32, 2^53 + 1 to f64, 2,049 to f16
    ∷ says (convert_call 5 16_777_217 3) (good 1_266_679_808)
    ∷ says (convert_call 5 16_777_219 3) (good 1_266_679_810)
    ∷ says (convert_call 5 9_007_199_254_740_993 6) (good (float_bits 1_076 0))
    ∷ says (convert_call 5 2_049 4) (good 26_624)
    -- an i64's least and greatest
    ∷ says (convert_call 5 (2 ^ 63) 6) (good (negative_bits (float_bits 1_086 0)))
    ∷ says (convert_call 5 (2 ^ 63 - 1) 6) (good (float_bits 1_086 0))
    ∷ says (convert_call 5 (2 ^ 63) 3) (good 3_741_319_168)
    ∷ says (convert_call 5 (2 ^ 63 - 1) 3) (good 1_593_835_520)
    ∷ says (convert_call 5 (2 ^ 63) 1) (refused 25 0)
    -- "Integers out of range are refused."
    ∷ says (convert_call 5 2_147_483_647 1) (good 2_147_483_647)
    ∷ says (convert_call 5 2_147_483_648 1) (refused 25 0)
    ∷ says (convert_call 5 (minus 2_147_483_648) 1) (good 2_147_483_648)
    ∷ says (convert_call 5 (minus 2_147_483_649) 1) (refused 25 0)
    ∷ says (convert_call 5 4_294_967_295 2) (good 4_294_967_295)
    ∷ says (convert_call 5 4_294_967_296 2) (refused 25 0)
    ∷ says (convert_call 5 (minus 1) 2) (refused 25 0)
    -- "Negative zero stays so", and a negative that rounds to zero is one; an integer zero is none
    ∷ says (convert_call 6 (negative_bits 0) 3) (good 2_147_483_648)
    ∷ says (convert_call 6 (negative_bits 0) 4) (good 32_768)
    ∷ says (convert_call 6 (negative_bits 1) 3) (good 2_147_483_648)
    ∷ says (convert_call 5 0 3) (good 0)
    -- f32's greatest, what still rounds to it, and half a step further
    ∷ says (convert_call 6 (float_bits 1_150 ((2 ^ 23 - 1) * 2 ^ 29)) 3) (good 2_139_095_039)
    ∷ says (convert_call 6 (float_bits 1_150 ((2 ^ 23 - 1) * 2 ^ 29 + 2 ^ 28 - 1)) 3) (good 2_139_095_039)
    ∷ says (convert_call 6 (float_bits 1_150 ((2 ^ 23 - 1) * 2 ^ 29 + 2 ^ 28)) 3) (refused 25 0)
    -- 1 + 2^-11 + 2^-40 to f16: low bits count
    ∷ says (convert_call 6 (float_bits 1_023 (2 ^ 41 + 2 ^ 12)) 4) (good 15_361)
    ∷ says (convert_call 6 (float_bits 1_023 (2 ^ 41)) 4) (good 15_360)
    -- "NaN and infinite abstract floats .. are refused"; "the same type unchanged"
    ∷ says (convert_call 6 (float_bits 2_047 0) 3) (refused 25 0)
    ∷ says (convert_call 6 (float_bits 2_047 1) 4) (refused 25 0)
    ∷ says (convert_call 6 (float_bits 2_047 1) 6) (good (float_bits 2_047 1))
    ∷ says (convert_call 4 (2 ^ 40 + 31_745) 4) (good 31_745)
    -- no such conversion, and no such kind
    ∷ says (convert_call 6 0 1) (refused 25 0)
    ∷ says (convert_call 1 0 3) (refused 25 0)
    ∷ says (convert_call 5 0 13) (refused 25 0)
    ∷ says (convert_call 7 0 7) (refused 25 0)
    ∷ says (convert_call 16 0 16) (refused 25 0)
    ∷ []

unfoldable pub literal_cases_pass : Bool
literal_cases_pass = all_pass literal_cases
