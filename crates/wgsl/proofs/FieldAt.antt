-- A field of c bits from bit o on (specs/BitField, `field_at`), and with its top bit repeated (`repeated_top`).
--
-- In order: its bits; the bits of one whose top bit is repeated; that as a signed number; all 32 bits.
-- Not here: the field at an offset (`BitField`).
-- Assumes nothing.
use Prim.Native.Nat.{ℕ, zero, suc, ◌+◌, ◌-◌, ◌*◌, ◌/◌, ◌^◌, ◌<◌, ◌≤◌}
use mathlib.Core.Bool.{Bool, true, false, cond}
use mathlib.Core.Path.{◌≡◌, refl, ◌∙◌}
use mathlib.Core.Logic.{⊎_elim}
use native.Mathlib.Omega.{arith}
use native.Mathlib.Nat.{mod-lt, pow-suc}
use borrow.Author.Tests.{lt-ltb, le-ltb}
use lib.IntN.{pos, negsuc, ◌-ℤ◌}
use lib.Pow.{pow_pos, pow_mono, high_ones}
use Rattle.wgsl.specs.BitField.{bit_at, field_at, repeated_top, signed_of, bit_extracted}
use Rattle.wgsl.proofs.Bit.{lt_or_le, bit_shift, bit_mod, bit_ones, bit_above, bit_low, bit_high, top_set, top_clear}

-- A field of c bits is below 2 ^ c.
pub field_bounded : (e o c : ℕ) → field_at e o c < 2 ^ c
unfolding field_at
field_bounded e o c = mod-lt (e / 2 ^ o) (pow_pos c)

field_inside : (e o c j : ℕ) → j < c → bit_at (field_at e o c) j ≡ bit_at e (o + j)
unfolding field_at
field_inside e o c j h = bit_mod (e / 2 ^ o) c j h ∙ bit_shift e o j

-- Its bits are those from o on, and 0 past it.
pub field_bit : (e o c j : ℕ) → bit_at (field_at e o c) j ≡ bit_extracted false e o c j
unfolding bit_extracted
field_bit e o c j =
    ⊎_elim (λ (h : j < c). rw (lt-ltb j c h) (field_inside e o c j h))
    (λ (h : c ≤ j). rw (le-ltb j c h) (bit_above (field_at e o c) c j (field_bounded e o c) h)) (lt_or_le j c)

-- a field of c bits with ones above it
ones_above : (c v : ℕ) → c ≤ 32 → v + (2 ^ 32 - 2 ^ c) ≡ (2 ^ (32 - c) - 1) * 2 ^ c + v
ones_above c v h =
    let e : 32 - c + c ≡ 32 = omega arith in
    let f : 2 ^ 32 - 2 ^ c ≡ (2 ^ (32 - c) - 1) * 2 ^ c = rw e at (high_ones (32 - c) c) in
    omega arith

module _ (c v : ℕ) (short : c ≤ 32) (small : v < 2 ^ c) where
  repeated_high : (j : ℕ) → c ≤ j → j < 32 → bit_at (repeated_top c v) j ≡ bit_at v (c - 1)
  unfolding repeated_top
  repeated_high j h l = go (bit_at v (c - 1))
    where
      go : (b : Bool) → bit_at (cond b (v + (2 ^ 32 - 2 ^ c)) v) j ≡ b
      go true = rw (ones_above c v short) (bit_high (2 ^ (32 - c) - 1) c v j small h ∙ bit_ones (32 - c) (j - c) (omega arith))
      go false = bit_above v c j small h

  repeated_low : (j : ℕ) → j < c → bit_at (repeated_top c v) j ≡ bit_at v j
  unfolding repeated_top
  repeated_low j h = go (bit_at v (c - 1))
    where
      go : (b : Bool) → bit_at (cond b (v + (2 ^ 32 - 2 ^ c)) v) j ≡ bit_at v j
      go true = rw (ones_above c v short) (bit_low (2 ^ (32 - c) - 1) c v j small h)
      go false = refl

  -- With its top bit repeated it is a word.
  pub repeated_word : repeated_top c v < 2 ^ 32
  unfolding repeated_top
  repeated_word = go (bit_at v (c - 1))
    where
      p : 2 ^ c ≤ 2 ^ 32
      p = pow_mono short

      go : (b : Bool) → cond b (v + (2 ^ 32 - 2 ^ c)) v < 2 ^ 32
      go true = omega (arith, p)
      go false = omega (arith, p)

-- With its top bit repeated: that bit past it.
pub signed_bit : (e o c j : ℕ) → 1 ≤ c → o + c ≤ 32 → j < 32 → bit_at (repeated_top c (field_at e o c)) j ≡ bit_extracted (bit_at e (o + c - 1)) e o c j
unfolding bit_extracted
signed_bit e o c j some within word =
    let v = field_at e o c in
    let short : c ≤ 32 = omega arith in
    let top : o + (c - 1) ≡ o + c - 1 = omega arith in
    ⊎_elim
    (λ (h : j < c). rw (lt-ltb j c h) (repeated_low c v short (field_bounded e o c) j h ∙ field_inside e o c j h))
    (λ (h : c ≤ j). rw (le-ltb j c h)
    (repeated_high c v short (field_bounded e o c) j h word ∙ (rw top at (field_inside e o c (c - 1) (omega arith)))))
    (lt_or_le j c)

less : (v m : ℕ) → v < m → pos v -ℤ pos m ≡ negsuc (m - suc v)
less v zero h = absurd (omega arith)
less v (suc m) h = rw (lt-ltb v (suc m) h)

-- As a signed number it is what its bits say, less 2 ^ c where the top one is set.
pub repeated_number : (c v : ℕ) → c ≤ 32 → v < 2 ^ c → signed_of (repeated_top c v) ≡ cond (bit_at v (c - 1)) (pos v -ℤ pos (2 ^ c)) (pos v)
unfolding repeated_top signed_of bit_at
repeated_number zero v short small = let z : v ≡ 0 = omega arith in rw z refl
repeated_number (suc d) v short small = go (bit_at v (suc d - 1)) refl
  where
    e : suc d - 1 ≡ d
    e = omega arith

    p : 2 ^ d ≤ 2 ^ 31
    p = let l : d ≤ 31 = omega arith in pow_mono l

    go : (b : Bool) → bit_at v (suc d - 1) ≡ b → signed_of (cond b (v + (2 ^ 32 - 2 ^ suc d)) v) ≡ cond b (pos v -ℤ pos (2 ^ suc d)) (pos v)
    go true t =
        let set : 2 ^ d ≤ v = top_set d v (rw e at t) in
        let q : 2147483648 ≤ v + (2 ^ 32 - 2 ^ suc d) = omega (arith, p, pow-suc 2 d) in
        let n : 4294967295 - (v + (2 ^ 32 - 2 ^ suc d)) ≡ 2 ^ suc d - suc v = omega (arith, p, pow-suc 2 d) in
        rw (le-ltb (v + (2 ^ 32 - 2 ^ suc d)) 2147483648 q, less v (2 ^ suc d) small, n)
    go false t =
        let clear : v < 2 ^ d = top_clear d v small (rw e at t) in
        rw (lt-ltb v 2147483648 (omega (arith, p)))

-- Of all 32 bits nothing is repeated.
pub repeated_whole : (v : ℕ) → repeated_top 32 v ≡ v
unfolding repeated_top
repeated_whole v = go (bit_at v 31)
  where
    go : (b : Bool) → cond b (v + 0) v ≡ v
    go true = omega arith
    go false = refl
