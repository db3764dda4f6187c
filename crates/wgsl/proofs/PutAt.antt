-- A field put into a number at bit o (specs/BitField, `put_at`).
--
-- In order: bit by bit; into a word; the field at its place.
-- Not here: insertion at an offset (`BitField`).
-- Assumes nothing.
use Prim.Native.Nat.{ℕ, ◌+◌, ◌-◌, ◌*◌, ◌/◌, ◌%◌, ◌^◌, ◌<◌, ◌≤◌}
use mathlib.Core.Path.{◌≡◌, ap, ◌∙◌}
use mathlib.Core.Logic.{⊎_elim}
use native.Mathlib.Omega.{arith}
use native.Mathlib.Nat.{mod-lt}
use borrow.Author.Tests.{lt-ltb, le-ltb, le-leb, lt-leb}
use lib.Pow.{pow_pos, pow-add, shr_lt, high, low}
use lib.Arith.{digits_lt}
use Rattle.wgsl.specs.BitField.{bit_at, field_at, put_at, is_inside, bit_inserted}
use Rattle.wgsl.proofs.Bit.{lt_or_le, bit_shift, bit_mod, bit_low, bit_high}

put_is : (e new o c : ℕ) → put_at e new o c ≡ (e / 2 ^ (o + c) * 2 ^ c + new % 2 ^ c) * 2 ^ o + e % 2 ^ o
unfolding put_at
put_is e new o c = rw (pow-add 2 o c) (omega arith)

-- The new value's low c bits stand at the places from o on, and no other bit changes.
pub put_bit : (e new o c j : ℕ) → bit_at (put_at e new o c) j ≡ bit_inserted e new o c j
unfolding bit_inserted is_inside
put_bit e new o c j =
    let upper : ℕ = e / 2 ^ (o + c) * 2 ^ c + new % 2 ^ c in
    rw (put_is e new o c)
    (⊎_elim
    (λ (h : j < o). rw (lt-leb o j h) (bit_low upper o (e % 2 ^ o) j (mod-lt e (pow_pos o)) h ∙ bit_mod e o j h))
    (λ (h : o ≤ j).
    bit_high upper o (e % 2 ^ o) j (mod-lt e (pow_pos o)) h
    ∙ ⊎_elim
    (λ (l : j < o + c).
    let m : j - o < c = omega arith in
    rw (le-leb o j h, lt-ltb j (o + c) l)
    (bit_low (e / 2 ^ (o + c)) c (new % 2 ^ c) (j - o) (mod-lt new (pow_pos c)) m ∙ bit_mod new c (j - o) m))
    (λ (l : o + c ≤ j).
    let q : o + c + (j - o - c) ≡ j = omega arith in
    rw (le-leb o j h, le-ltb j (o + c) l)
    (bit_high (e / 2 ^ (o + c)) c (new % 2 ^ c) (j - o) (mod-lt new (pow_pos c)) (omega arith)
    ∙ (rw q at (bit_shift e (o + c) (j - o - c)))))
    (lt_or_le j (o + c)))
    (lt_or_le j o))

put_bounded : (k e new o c : ℕ) → e < 2 ^ (k + (o + c)) → put_at e new o c < 2 ^ (k + (o + c))
put_bounded k e new o c h =
    let q : 2 ^ k * 2 ^ c * 2 ^ o ≡ 2 ^ (k + (o + c)) = rw (pow-add 2 k (o + c), pow-add 2 o c) (omega arith) in
    rw (put_is e new o c)
    (rw q at (digits_lt (digits_lt (shr_lt k (o + c) h) (mod-lt new (pow_pos c))) (mod-lt e (pow_pos o))))

-- Putting a field into a word gives a word.
pub put_word : (e new o c : ℕ) → o + c ≤ 32 → e < 2 ^ 32 → put_at e new o c < 2 ^ 32
put_word e new o c within h =
    let q : 32 - (o + c) + (o + c) ≡ 32 = omega arith in
    let r : 2 ^ (32 - (o + c) + (o + c)) ≡ 2 ^ 32 = ap (λ (x : ℕ). 2 ^ x) q in
    rw r at (put_bounded (32 - (o + c)) e new o c (rw r h))

-- The field there is what was put.
pub field_put : (e new o c : ℕ) → field_at (put_at e new o c) o c ≡ new % 2 ^ c
unfolding field_at
field_put e new o c =
    rw (put_is e new o c, high (e / 2 ^ (o + c) * 2 ^ c + new % 2 ^ c) o (mod-lt e (pow_pos o)))
    (low (e / 2 ^ (o + c)) c (mod-lt new (pow_pos c)))
