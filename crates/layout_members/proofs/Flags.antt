-- The flags of a member entry (specs/File of crates/wgsl), tested by masks.
--
-- In order: each bit; the fields that are zero.
-- Assumes nothing.
use Prim.Native.Nat.{ℕ, ◌*◌, ◌/◌, ◌%◌, ◌<◌}
use mathlib.Core.Bool.{Bool, true, false, ◌||◌, and-false, or-true}
use mathlib.Core.Logic.{◌⊎◌, ⊎_elim}
use mathlib.Core.Path.{◌≡◌, refl, ap, ◌∙◌}
use native.Mathlib.Omega.{arith}
use borrow.Author.Tests.{eqb-true, eqb-false, eq-eqb, ne_eqb}
use lib.Bits.{bit_and, and_mask, and_high}
use lib.Dec.{eqb}
use Rattle.wgsl.specs.File.{MemberEntry, size_is_given, align_is_given, rest_is_zero}

-- Bit 0 says a size is given.
pub size_bit : (m : MemberEntry) → eqb (bit_and m.flags 1) 1 ≡ size_is_given m
unfolding size_is_given
size_bit m = ap (λ (x : ℕ). eqb x 1) (and_mask m.flags 1)

twice_one : (x : ℕ) → eqb (x * 2) 2 ≡ eqb x 1
twice_one x = go (eqb x 1) refl
  where
    go : (b : Bool) → eqb x 1 ≡ b → eqb (x * 2) 2 ≡ b
    go true e = eq-eqb (x * 2) 2 (omega (arith, eqb-true x 1 e))
    go false e = ne_eqb (x * 2) 2 (λ q. eqb-false x 1 e (omega arith))

-- Bit 1 says an align is given.
pub align_bit : (m : MemberEntry) → eqb (bit_and m.flags 2) 2 ≡ align_is_given m
unfolding align_is_given
align_bit m = ap (λ (x : ℕ). eqb x 2) (and_high m.flags 1 1) ∙ twice_one (m.flags / 2 % 2)

-- the other bits of 32
other_bits : (f : ℕ) → f < 4294967296 → bit_and f 4294967292 ≡ f / 4 * 4
other_bits f h =
    let e : f / 4 % 1073741824 ≡ f / 4 = omega arith in
    and_high f 30 2 ∙ ap (λ (x : ℕ). x * 4) e

-- Another bit is set.
pub rest_bits : (m : MemberEntry) → m.flags < 4294967296 → (bit_and m.flags 4294967292 ≡ 0 → ⊥) → rest_is_zero m ≡ false
unfolding rest_is_zero
rest_bits m h n =
    rw (ne_eqb (m.flags / 4) 0 (λ e. n (other_bits m.flags h ∙ omega arith)))

-- A size is not given, and not zero.
pub rest_size : (m : MemberEntry) → size_is_given m ≡ false → (m.size ≡ 0 → ⊥) → rest_is_zero m ≡ false
unfolding rest_is_zero
rest_size m g n = rw (g, ne_eqb m.size 0 n, and-false (eqb (m.flags / 4) 0))

module _ (m : MemberEntry) (h : m.flags < 4294967296) (z : bit_and m.flags 4294967292 ≡ 0) (s : (size_is_given m ≡ true) ⊎ (m.size ≡ 0)) where
  align_last : rest_is_zero m ≡ (align_is_given m || eqb m.align 0)
  unfolding rest_is_zero
  align_last =
      let four : m.flags / 4 ≡ 0 = omega (arith, other_bits m.flags h) in
      let size : (size_is_given m || eqb m.size 0) ≡ true =
      ⊎_elim (λ (g : size_is_given m ≡ true). rw g)
      (λ (e : m.size ≡ 0). rw (eq-eqb m.size 0 e) (or-true (size_is_given m))) s in
      rw (eq-eqb (m.flags / 4) 0 four, size)

  -- An align is given, or it is zero.
  pub rest_align_given : align_is_given m ≡ true → rest_is_zero m ≡ true
  rest_align_given g = align_last ∙ rw g

  pub rest_align_zero : align_is_given m ≡ false → rest_is_zero m ≡ eqb m.align 0
  rest_align_zero g = align_last ∙ rw g
