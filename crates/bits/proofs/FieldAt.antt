-- What the shifts, masks and sums in 64 bits are, over o and c (specs/BitField of wgsl).
--
-- In order: a field by a mask; its top bit, and that bit repeated; a field taken out of a word and another put in.
-- Assumes nothing.
use Prim.Native.Nat.{ℕ, zero, suc, ◌+◌, ◌-◌, ◌*◌, ◌/◌, ◌%◌, ◌^◌, ◌<◌, ◌≤◌}
use mathlib.Core.Bool.{Bool, true, false, cond}
use mathlib.Core.Path.{◌≡◌, refl, sym}
use native.Mathlib.Omega.{arith}
use native.Mathlib.Nat.{mod-eq_of_lt, mul-div-mul_right, div-one, pow-suc}
use lib.Bits.{bit_and, and_mask}
use lib.Pow.{pow_pos, pow_mono, pow-add, shl_exact, shr_lt, split, mod-pow-add}
use Rattle.wgsl.specs.BitField.{bit_at, field_at, repeated_top, put_at}
use Rattle.wgsl.proofs.Bit.{digit_told}
use Rattle.wgsl.proofs.FieldAt.{field_bounded}
use Rattle.wgsl.proofs.PutAt.{put_word}

one_shifted : (c : ℕ) → c ≤ 32 → 1 * 2 ^ c % 2 ^ 64 ≡ 2 ^ c
one_shifted c h =
    let e : 1 * 2 ^ c ≡ 2 ^ c = omega arith in
    let l : 2 ^ c ≤ 2 ^ 32 = pow_mono h in
    rw e (mod-eq_of_lt (omega arith))

-- One bit shifted by c is not 0, so a mask can be made of it.
pub mask_fits : (c : ℕ) → c ≤ 32 → 1 ≤ 1 * 2 ^ c % 2 ^ 64
mask_fits c h = rw (one_shifted c h) (pow_pos c)

-- A shift and a mask cut out a field.
pub field_masked : (e o c : ℕ) → c ≤ 32 → bit_and (e / 2 ^ o) (1 * 2 ^ c % 2 ^ 64 - 1) ≡ field_at e o c
unfolding field_at
field_masked e o c h = rw (one_shifted c h) (and_mask (e / 2 ^ o) c)

-- The top bit of a field of c bits.
top_is : (c v : ℕ) → c ≤ 32 → v < 2 ^ c → v * 2 % 2 ^ 64 / 2 ^ c ≡ cond (bit_at v (c - 1)) 1 0
unfolding bit_at
top_is zero v h small = let z : v ≡ 0 = omega arith in rw z refl
top_is (suc d) v h small =
    let l : 2 ^ suc d ≤ 2 ^ 32 = pow_mono h in
    let e : suc d - 1 ≡ d = omega arith in
    let digit : v / 2 ^ d < 2 = shr_lt 1 d (rw (pow-add 2 1 d) (omega (arith, pow-suc 2 d))) in
    let one : v / 2 ^ d % 2 ≡ v / 2 ^ d = mod-eq_of_lt digit in
    rw (mod-eq_of_lt {n = v * 2} {m = 2 ^ 64} (omega arith), pow-suc 2 d, mul-div-mul_right {m = 2} v (2 ^ d) (omega arith), e, one)
    (sym (digit_told (v / 2 ^ d) digit))

-- what the sum with a top bit is
pub record Repeated (c v top : ℕ) : Type 0 where
  pub fits : v + top * 2 ^ 32 % 2 ^ 64 < 2 ^ 64
  pub below : top * 2 ^ c % 2 ^ 64 ≤ v + top * 2 ^ 32 % 2 ^ 64
  pub is : v + top * 2 ^ 32 % 2 ^ 64 - top * 2 ^ c % 2 ^ 64 ≡ repeated_top c v

-- It is repeated above by adding 2 ^ 32 and taking away 2 ^ c where it is set.
pub repeated_sum : (c v : ℕ) → c ≤ 32 → v < 2 ^ c → Repeated c v (v * 2 % 2 ^ 64 / 2 ^ c)
unfolding repeated_top
repeated_sum c v h small = rw (top_is c v h small) (go (bit_at v (c - 1)) refl)
  where
    l : 2 ^ c ≤ 2 ^ 32
    l = pow_mono h

    go : (b : Bool) → bit_at v (c - 1) ≡ b → Repeated c v (cond b 1 0)
    go true t = record { fits = omega (arith, l); below = rw (one_shifted c h) (omega (arith, l)); is = rw (t, one_shifted c h) (omega (arith, l)) }
    go false t = record { fits = omega (arith, l); below = omega arith; is = rw t (omega arith) }

-- A word is what lies above a field, the field, and what lies below it.
word_split : (e o c : ℕ) → e ≡ e / 2 ^ (o + c) * 2 ^ (o + c) + field_at e o c * 2 ^ o + e % 2 ^ o
unfolding field_at
word_split e o c =
    let f : c + o ≡ o + c = omega arith in
    omega (arith, split e (o + c), rw f at (mod-pow-add e c o))

-- what the sum with an old and a new field is
pub record Put (e new o c old fresh : ℕ) : Type 0 where
  pub below : old * 2 ^ o % 2 ^ 64 ≤ e
  pub is : e - old * 2 ^ o % 2 ^ 64 + fresh * 2 ^ o % 2 ^ 64 ≡ put_at e new o c
  pub word : e - old * 2 ^ o % 2 ^ 64 + fresh * 2 ^ o % 2 ^ 64 < 2 ^ 32

-- A field taken away and another one added is that one put in its place.
pub put_sum : (e new o c : ℕ) → o + c ≤ 32 → e < 2 ^ 32 → Put e new o c (field_at e o c) (field_at new 0 c)
unfolding put_at field_at
put_sum e new o c within word =
    let wide : c + o ≤ 64 = omega arith in
    let n : new / 2 ^ 0 ≡ new = div-one new in
    let old : field_at e o c * 2 ^ o % 2 ^ 64 ≡ field_at e o c * 2 ^ o = shl_exact c o 64 (field_bounded e o c) wide in
    let fresh : new % 2 ^ c * 2 ^ o % 2 ^ 64 ≡ new % 2 ^ c * 2 ^ o = shl_exact c o 64 (rw n at (field_bounded new 0 c)) wide in
    let s = word_split e o c in
    let is : e - field_at e o c * 2 ^ o + new % 2 ^ c * 2 ^ o ≡ put_at e new o c = omega arith in
    record { below = rw old (omega arith); is = rw (n, old, fresh) is; word = rw (n, old, fresh, is) (put_word e new o c within word) }
