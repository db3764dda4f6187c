-- Bit fields of a word of 32 bits (02, E2; WGSL, "extractBits", "insertBits").
--
-- In order: where a field lies; one bit; extraction; insertion; i32 as two's complement; what the laws say of bits.
-- A word is a number below 2 ^ 32. An i32 is worked on as its pattern, the word of the same bits.
-- Not here: the calls at a path (`BitFieldCall`).
-- Definitions only. Assumes nothing.
use Rattle.std.specs.Prelude.{ℕ, ◌+◌, ◌-◌, ◌*◌, ◌/◌, ◌%◌, ◌^◌, min, Bool, cond, ◌&&◌, eqb, ltb, leb, ℤ, pos, negsuc}

-- ---- where a field lies

-- "With o = min(offset, 32)"
unfoldable pub start_of : ℕ → ℕ
start_of offset = min offset 32

-- "and c = min(count, 32 - o)"
unfoldable pub bits_of : ℕ → ℕ → ℕ
bits_of offset count = min count (32 - start_of offset)

-- ---- one bit

-- bit j of a number is 1
unfoldable pub bit_at : ℕ → ℕ → Bool
bit_at n j = eqb (n / 2 ^ j % 2) 1

-- ---- extraction

-- "extraction gives 0 for c = 0, else the c bits from o"
unfoldable pub field_at : ℕ → ℕ → ℕ → ℕ
field_at e o c = e / 2 ^ o % 2 ^ c

-- "and a signed field repeats its top bit above"
unfoldable pub repeated_top : ℕ → ℕ → ℕ
repeated_top c v = cond (bit_at v (c - 1)) (v + (2 ^ 32 - 2 ^ c)) v

unfoldable pub extracted_u32 : ℕ → ℕ → ℕ → ℕ
extracted_u32 e offset count = field_at e (start_of offset) (bits_of offset count)

unfoldable pub extracted_i32 : ℕ → ℕ → ℕ → ℕ
extracted_i32 e offset count = repeated_top (bits_of offset count) (extracted_u32 e offset count)

-- ---- insertion

-- "Insertion puts the new value's low c bits at those places and changes no other bit."
unfoldable pub put_at : ℕ → ℕ → ℕ → ℕ → ℕ
put_at e new o c = e / 2 ^ (o + c) * 2 ^ (o + c) + new % 2 ^ c * 2 ^ o + e % 2 ^ o

unfoldable pub inserted : ℕ → ℕ → ℕ → ℕ → ℕ
inserted e new offset count = put_at e new (start_of offset) (bits_of offset count)

-- ---- i32 as two's complement

-- 01: "i32 as two's complement"
unfoldable pub pattern_of : ℤ → ℕ
pattern_of (pos n) = n
pattern_of (negsuc n) = 4_294_967_295 - n

unfoldable pub signed_of : ℕ → ℤ
signed_of p = cond (ltb p 2_147_483_648) (pos p) (negsuc (4_294_967_295 - p))

-- ---- what the laws say of bits

-- bit j lies in the field
unfoldable pub is_inside : ℕ → ℕ → ℕ → Bool
is_inside o c j = leb o j && ltb j (o + c)

-- bit j of an extracted field: "bits 0 .. c - 1 of the result are copied from bits o .. o + c - 1 of e", and above them is `above`
unfoldable pub bit_extracted : Bool → ℕ → ℕ → ℕ → ℕ → Bool
bit_extracted above e o c j = cond (ltb j c) (bit_at e (o + j)) above

-- bit j of a word with a field inserted
unfoldable pub bit_inserted : ℕ → ℕ → ℕ → ℕ → ℕ → Bool
bit_inserted e new o c j = cond (is_inside o c j) (bit_at new (j - o)) (bit_at e j)
