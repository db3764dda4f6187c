-- The cases of bit fields (02, E2), in its words where it has them.
--
-- One test, `field_cases_pass`, which the checker computes. A word with other bits set has the field from bit 4 on.
-- Definitions only. Assumes nothing.
use Rattle.std.specs.Prelude.{ℕ, List, [], ◌∷◌, Bool, false, eqb, ℤ, pos, negsuc}
use Rattle.wgsl.specs.BitField.{extracted_u32, extracted_i32, inserted, signed_of}
use Rattle.wgsl.specs.Case.{all_pass}

-- ---- what a case says

unfoldable pub is_number : ℤ → ℤ → Bool
is_number (pos m) (pos n) = eqb m n
is_number (pos m) (negsuc n) = false
is_number (negsuc m) (pos n) = false
is_number (negsuc m) (negsuc n) = eqb m n

-- a field of a word as a u32, and as an i32
unfoldable pub holds : ℕ → ℕ → ℕ → ℕ → Bool
holds e offset count n = eqb (extracted_u32 e offset count) n

unfoldable pub reads : ℕ → ℕ → ℕ → ℤ → Bool
reads e offset count z = is_number (signed_of (extracted_i32 e offset count)) z

-- a word with a field inserted
unfoldable pub puts : ℕ → ℕ → ℕ → ℕ → ℕ → Bool
puts e new offset count r = eqb (inserted e new offset count) r

-- ---- the cases

unfoldable pub field_cases : List Bool
field_cases =
    -- "A 12-bit field of 4,095 reads as -1,"
    reads 4095 0 12 (negsuc 0)
    ∷ reads 0xABCD_FFF5 4 12 (negsuc 0)
    ∷ holds 0xABCD_FFF5 4 12 4095
    -- "2,048 as -2,048,"
    ∷ reads 2048 0 12 (negsuc 2047)
    ∷ reads 0xABCD_8005 4 12 (negsuc 2047)
    -- "2,047 as itself."
    ∷ reads 2047 0 12 (pos 2047)
    ∷ reads 0xABCD_7FF5 4 12 (pos 2047)
    -- offset 31: the top bit, alone and where more are asked for
    ∷ holds 0x8000_0000 31 1 1
    ∷ holds 0x8000_0000 31 2 1
    ∷ reads 0x8000_0000 31 1 (negsuc 0)
    ∷ reads 0x7FFF_FFFF 31 1 (pos 0)
    ∷ puts 0x7FFF_FFFF 3 31 2 0xFFFF_FFFF
    -- offset 32: "extraction gives 0 for c = 0", and nothing is inserted
    ∷ holds 0xFFFF_FFFF 32 1 0
    ∷ reads 0xFFFF_FFFF 32 1 (pos 0)
    ∷ puts 0x1234_5678 0xFFFF_FFFF 32 1 0x1234_5678
    -- offset and count 4,294,967,295
    ∷ holds 0xFFFF_FFFF 4_294_967_295 4_294_967_295 0
    ∷ reads 0xFFFF_FFFF 4_294_967_295 4_294_967_295 (pos 0)
    ∷ puts 0x1234_5678 0xFFFF_FFFF 4_294_967_295 4_294_967_295 0x1234_5678
    ∷ holds 0xABCD_8005 4 4_294_967_295 0xABC_D800
    ∷ puts 0xABCD_8005 0x1234_5678 0 4_294_967_295 0x1234_5678
    -- count 32, signed
    ∷ reads 0xFFFF_FFFF 0 32 (negsuc 0)
    ∷ reads 0x8000_0000 0 32 (negsuc 2_147_483_647)
    ∷ reads 0x7FFF_FFFF 0 32 (pos 2_147_483_647)
    -- count 0
    ∷ holds 0xFFFF_FFFF 5 0 0
    ∷ reads 0xFFFF_FFFF 5 0 (pos 0)
    ∷ puts 0x1234_5678 0xFFFF_FFFF 5 0 0x1234_5678
    -- "Insertion puts the new value's low c bits at those places and changes no other bit."
    ∷ puts 0xABCD_1235 0xFFFF_F678 4 12 0xABCD_6785
    ∷ puts 0xFFFF_FFFF 0 4 12 0xFFFF_000F
    ∷ puts 0 0xFFFF_FFFF 4 12 0x0000_FFF0
    -- "Extracting a freshly inserted field gives it back, cut to c bits, and for i32 with the top one of them repeated above."
    ∷ holds (inserted 0xABCD_1235 0x1234_5800 4 12) 4 12 2048
    ∷ reads (inserted 0xABCD_1235 0x1234_5800 4 12) 4 12 (negsuc 2047)
    ∷ []

unfoldable pub field_cases_pass : Bool
field_cases_pass = all_pass field_cases
