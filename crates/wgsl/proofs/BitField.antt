-- Laws of bit fields at an offset, of a count (specs/BitField).
--
-- In order: extraction bit by bit; extraction as a number; insertion bit by bit; no other word has these bits; extraction after insertion;
-- the whole word, and no bit; two's complement.
-- Each is stated over o and c first, in `FieldAt` and `PutAt`.
-- Not here: one bit of any number (`Bit`), 02's cases (`BitFieldCase`).
-- Assumes nothing.
use Prim.Native.Nat.{ℕ, ◌+◌, ◌-◌, ◌/◌, ◌%◌, ◌^◌, ◌<◌, ◌≤◌}
use mathlib.Core.Bool.{false, cond}
use mathlib.Core.Path.{◌≡◌, ap, sym, ◌∙◌}
use mathlib.Core.Logic.{⊎_elim}
use native.Mathlib.Omega.{arith}
use native.Mathlib.Nat.{mod-one, mod-eq_of_lt, div-one, add-zero}
use borrow.Author.Tests.{lt-ltb, le-ltb}
use lib.IntN.{ℤ, pos, negsuc, ◌-ℤ◌}
use lib.Signed.{mag}
use lib.Pow.{split}
use Rattle.wgsl.specs.BitField.{start_of, bits_of, bit_at, field_at, repeated_top, extracted_u32, extracted_i32, put_at, inserted, pattern_of, signed_of, bit_extracted, bit_inserted}
use Rattle.wgsl.proofs.Bit.{lt_or_le, bits_unique}
use Rattle.wgsl.proofs.FieldAt.{field_bounded, field_bit, signed_bit, repeated_number, repeated_whole}
use Rattle.wgsl.proofs.PutAt.{put_bit, put_word, field_put}

-- A field lies within the word.
pub field_within : (offset count : ℕ) → start_of offset + bits_of offset count ≤ 32
unfolding start_of bits_of
field_within offset count = omega arith

-- ---- extraction bit by bit

-- Bit j of an extracted field is bit o + j, and 0 past the field.
pub extract_bit : (e offset count j : ℕ) → bit_at (extracted_u32 e offset count) j ≡ bit_extracted false e (start_of offset) (bits_of offset count) j
unfolding extracted_u32
extract_bit e offset count j = field_bit e (start_of offset) (bits_of offset count) j

-- The same of a signed field, with the field's top bit past it.
pub extract_signed_bit : (e offset count j : ℕ) → 1 ≤ bits_of offset count → j < 32
    → bit_at (extracted_i32 e offset count) j
    ≡ bit_extracted (bit_at e (start_of offset + bits_of offset count - 1)) e (start_of offset) (bits_of offset count) j
unfolding extracted_i32 extracted_u32
extract_signed_bit e offset count j some word =
    signed_bit e (start_of offset) (bits_of offset count) j some (field_within offset count) word

-- ---- extraction as a number

-- A signed field read as a number: what its bits say, less 2 ^ c where the top one is set. For c = 0 it is 0.
pub extract_number : (e offset count : ℕ)
    → signed_of (extracted_i32 e offset count)
    ≡ cond (bit_at (extracted_u32 e offset count) (bits_of offset count - 1))
    (pos (extracted_u32 e offset count) -ℤ pos (2 ^ bits_of offset count)) (pos (extracted_u32 e offset count))
unfolding extracted_i32 extracted_u32
extract_number e offset count =
    let within = field_within offset count in
    repeated_number (bits_of offset count) _ (omega arith) (field_bounded e (start_of offset) (bits_of offset count))

-- ---- insertion bit by bit

-- Insertion puts the new value's low c bits at the field's places and changes no other bit.
pub insert_bit : (e new offset count j : ℕ)
    → bit_at (inserted e new offset count) j ≡ bit_inserted e new (start_of offset) (bits_of offset count) j
unfolding inserted
insert_bit e new offset count j = put_bit e new (start_of offset) (bits_of offset count) j

-- So insertion into a word gives a word.
pub inserted_word : (e new offset count : ℕ) → e < 2 ^ 32 → inserted e new offset count < 2 ^ 32
unfolding inserted
inserted_word e new offset count h = put_word e new (start_of offset) (bits_of offset count) (field_within offset count) h

-- ---- no other word has these bits

-- Two words with the same 32 bits are the same.
pub word_unique : (a b : ℕ) → a < 2 ^ 32 → b < 2 ^ 32 → ((j : ℕ) → j < 32 → bit_at a j ≡ bit_at b j) → a ≡ b
word_unique = bits_unique 32

-- So no other word has the bits that insertion puts.
pub insert_only : (e new offset count r : ℕ) → e < 2 ^ 32 → r < 2 ^ 32
    → ((j : ℕ) → j < 32 → bit_at r j ≡ bit_inserted e new (start_of offset) (bits_of offset count) j) → r ≡ inserted e new offset count
insert_only e new offset count r h l bits =
    word_unique r (inserted e new offset count) l (inserted_word e new offset count h)
    (λ j m. bits j m ∙ sym (insert_bit e new offset count j))

-- ---- extraction after insertion

-- What was inserted is extracted: the new value's low c bits,
pub extract_inserted : (e new offset count : ℕ) → extracted_u32 (inserted e new offset count) offset count ≡ new % 2 ^ bits_of offset count
unfolding extracted_u32 inserted
extract_inserted e new offset count = field_put e new (start_of offset) (bits_of offset count)

-- and of a signed field the same with the top bit repeated.
pub extract_inserted_signed : (e new offset count : ℕ)
    → extracted_i32 (inserted e new offset count) offset count ≡ repeated_top (bits_of offset count) (new % 2 ^ bits_of offset count)
unfolding extracted_i32
extract_inserted_signed e new offset count = ap (repeated_top (bits_of offset count)) (extract_inserted e new offset count)

-- ---- the whole word, and no bit

-- All 32 bits are the word itself.
pub extract_whole : (e offset count : ℕ) → e < 2 ^ 32 → start_of offset ≡ 0 → bits_of offset count ≡ 32
    → (extracted_u32 e offset count ≡ e) × (extracted_i32 e offset count ≡ e)
unfolding extracted_i32 extracted_u32 field_at
extract_whole e offset count h s b =
    let u : e / 2 ^ 0 % 2 ^ 32 ≡ e = rw (div-one e) (mod-eq_of_lt h) in
    (rw (s, b) u, rw (s, b, u) (repeated_whole e))

-- A field of no bit is 0, signed or not,
pub extract_none : (e offset count : ℕ) → bits_of offset count ≡ 0 → (extracted_u32 e offset count ≡ 0) × (extracted_i32 e offset count ≡ 0)
unfolding extracted_i32 extracted_u32 field_at repeated_top bit_at
extract_none e offset count b = (rw b (mod-one _), rw (b, mod-one (e / 2 ^ start_of offset)))

-- and inserting it changes nothing.
pub insert_none : (e new offset count : ℕ) → bits_of offset count ≡ 0 → inserted e new offset count ≡ e
unfolding inserted put_at
insert_none e new offset count b =
    rw (b, add-zero (start_of offset), mod-one new) (omega (arith, split e (start_of offset)))

-- ---- two's complement: what `pattern_of` and `signed_of` are, which the contracts of the calls on i32 cite. No proof needs it.

-- A word is the pattern of the number that it stands for,
pub signed_pattern : (p : ℕ) → p < 2 ^ 32 → pattern_of (signed_of p) ≡ p
unfolding pattern_of signed_of
signed_pattern p h =
    ⊎_elim (λ (l : p < 2147483648). rw (lt-ltb p 2147483648 l))
    (λ (l : 2147483648 ≤ p). rw (le-ltb p 2147483648 l) (omega arith)) (lt_or_le p 2147483648)

-- and a number from -2 ^ 31 up to 2 ^ 31 - 1 is what its pattern stands for.
pub pattern_signed : (z : ℤ) → mag z < 2 ^ 31 → signed_of (pattern_of z) ≡ z
unfolding pattern_of signed_of
pattern_signed (pos n) h = rw (lt-ltb n 2147483648 h)
pattern_signed (negsuc n) h =
    let e : 4294967295 - (4294967295 - n) ≡ n = omega arith in
    rw (le-ltb (4294967295 - n) 2147483648 (omega arith), e)

-- A pattern is a word.
pub pattern_word : (z : ℤ) → mag z < 2 ^ 31 → pattern_of z < 2 ^ 32
unfolding pattern_of
pattern_word (pos n) h = omega arith
pattern_word (negsuc n) h = omega arith
