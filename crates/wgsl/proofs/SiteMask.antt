-- The mask of a site block, bit by bit (specs/Site).
--
-- In order: the lowest bit; a bit set; a bit dropped; masks stay as short as they were.
-- Assumes nothing.
use Prim.Native.Nat.{ℕ, zero, suc, ◌+◌, ◌-◌, ◌*◌, ◌/◌, ◌%◌, ◌^◌, ◌<◌, ◌≤◌}
use mathlib.Core.Bool.{Bool, true, false, cond, not, ◌&&◌, ◌||◌, or-false, and-true}
use mathlib.Core.Path.{◌≡◌, refl, ap, sym, ◌∙◌}
use mathlib.Core.Logic.{⊎_elim}
use native.Mathlib.Omega.{arith}
use native.Mathlib.Nat.{div-one, suc-mul, mul_comm, mul_assoc, mul-le-mul_right, add-zero, mod-lt, pow-suc}
use native.Mathlib.Numerals.{add-one}
use borrow.Author.Tests.{eq-eqb, ne_eqb, eqb-true, eqb-false}
use lib.Dec.{eqb}
use lib.Pow.{pow-add, split, shr_lt, shr-shr, pow_pos}
use Rattle.wgsl.specs.BitField.{bit_at}
use Rattle.wgsl.specs.Site.{with_bit, without_bit}
use Rattle.wgsl.proofs.Bit.{lt_or_le, bit_low, bit_high}

-- ---- the lowest bit

lowest_0 : (h : ℕ) → bit_at (h * 2 + 0) 0 ≡ false
unfolding bit_at
lowest_0 h = let e : (h * 2 + 0) % 2 ≡ 0 = omega arith in rw (div-one, e) refl

lowest_1 : (h : ℕ) → bit_at (h * 2 + 1) 0 ≡ true
unfolding bit_at
lowest_1 h = let e : (h * 2 + 1) % 2 ≡ 1 = omega arith in rw (div-one, e) refl

-- the others do not see it
others : (h d j : ℕ) → d < 2 → bit_at (h * 2 + d) (suc j) ≡ bit_at h j
others h d j l =
    let e : suc j - 1 ≡ j = omega arith in
    bit_high h 1 d (suc j) (omega (arith, l)) (omega arith) ∙ ap (bit_at h) e

up : (h j : ℕ) → bit_at (h * 2 + 1) j ≡ (bit_at (h * 2 + 0) j || eqb j 0)
up h zero = rw (lowest_1 h, lowest_0 h) refl
up h (suc j) =
    rw (ne_eqb (suc j) 0 (λ e. omega arith))
    (others h 1 j (omega arith) ∙ sym (others h 0 j (omega arith)) ∙ sym (or-false _))

down : (h j : ℕ) → bit_at (h * 2 + 0) j ≡ (bit_at (h * 2 + 1) j && not (eqb j 0))
down h zero = rw (lowest_1 h, lowest_0 h) refl
down h (suc j) =
    rw (ne_eqb (suc j) 0 (λ e. omega arith))
    (others h 0 j (omega arith) ∙ sym (others h 1 j (omega arith)) ∙ sym (and-true _))

-- ---- bit k of a mask

module _ (mask k : ℕ) where
  half : ℕ
  half = mask / 2 ^ k / 2

  below : ℕ
  below = mask % 2 ^ k

  -- the mask with bit k clear, and with it set
  abbrev with0 : ℕ
  with0 = (half * 2 + 0) * 2 ^ k + below

  abbrev with1 : ℕ
  with1 = (half * 2 + 1) * 2 ^ k + below

  clear_is : bit_at mask k ≡ false → mask ≡ with0
  unfolding bit_at half below
  clear_is e =
      let q : mask / 2 ^ k ≡ mask / 2 ^ k / 2 * 2 + 0 = omega (arith, eqb-false (mask / 2 ^ k % 2) 1 e) in
      sym (split mask k) ∙ ap (λ x. x * 2 ^ k + mask % 2 ^ k) q

  set_is : bit_at mask k ≡ true → mask ≡ with1
  unfolding bit_at half below
  set_is e =
      let q : mask / 2 ^ k ≡ mask / 2 ^ k / 2 * 2 + 1 = omega (arith, eqb-true (mask / 2 ^ k % 2) 1 e) in
      sym (split mask k) ∙ ap (λ x. x * 2 ^ k + mask % 2 ^ k) q

  one_more : with1 ≡ with0 + 2 ^ k
  one_more = omega (arith, suc-mul (half * 2) (2 ^ k), ap (λ x. x * 2 ^ k) (add-one (half * 2)), ap (λ x. x * 2 ^ k) (add-zero (half * 2)))

  below_low : below < 2 ^ k
  unfolding below
  below_low = mod-lt mask (pow_pos k)

  same_test : (j : ℕ) → k ≤ j → eqb (j - k) 0 ≡ eqb j k
  same_test j l = go (eqb j k) refl
    where
      go : (b : Bool) → eqb j k ≡ b → eqb (j - k) 0 ≡ b
      go true e = eq-eqb (j - k) 0 (omega (arith, eqb-true j k e))
      go false e = ne_eqb (j - k) 0 (λ z. omega (arith, eqb-false j k e, z, l))

  -- with it set the others are as they were
  set_bit : (j : ℕ) → bit_at with1 j ≡ (bit_at with0 j || eqb j k)
  set_bit j =
      ⊎_elim
      (λ (l : j < k).
      bit_low (half * 2 + 1) k below j below_low l
      ∙ sym (bit_low (half * 2 + 0) k below j below_low l)
      ∙ sym (ap (λ b. bit_at with0 j || b) (ne_eqb j k (λ e. omega arith)) ∙ or-false (bit_at with0 j)))
      (λ (l : k ≤ j).
      bit_high (half * 2 + 1) k below j below_low l
      ∙ up half (j - k)
      ∙ rw (same_test j l, bit_high (half * 2 + 0) k below j below_low l) refl)
      (lt_or_le j k)

  drop_bit : (j : ℕ) → bit_at with0 j ≡ (bit_at with1 j && not (eqb j k))
  drop_bit j =
      ⊎_elim
      (λ (l : j < k).
      bit_low (half * 2 + 0) k below j below_low l
      ∙ sym (bit_low (half * 2 + 1) k below j below_low l)
      ∙ sym (ap (λ b. bit_at with1 j && not b) (ne_eqb j k (λ e. omega arith)) ∙ and-true (bit_at with1 j)))
      (λ (l : k ≤ j).
      bit_high (half * 2 + 0) k below j below_low l
      ∙ down half (j - k)
      ∙ rw (same_test j l, bit_high (half * 2 + 1) k below j below_low l) refl)
      (lt_or_le j k)

  -- ---- a bit set

  -- "Other bits .. stay."
  pub bit_with : (j : ℕ) → bit_at (with_bit mask k) j ≡ (bit_at mask j || eqb j k)
  unfolding with_bit
  bit_with j = go (bit_at mask k) refl
    where
      held : (b : Bool) → eqb j k ≡ b → bit_at mask k ≡ true → bit_at mask j ≡ (bit_at mask j || b)
      held true q t = let e : bit_at mask j ≡ true = ap (bit_at mask) (eqb-true j k q) ∙ t in rw e refl
      held false q t = sym (or-false (bit_at mask j))

      go : (b : Bool) → bit_at mask k ≡ b → bit_at (cond b mask (mask + 2 ^ k)) j ≡ (bit_at mask j || eqb j k)
      go true e = held (eqb j k) refl e
      go false e =
          let is = clear_is e in
          ap (λ m. bit_at (m + 2 ^ k) j) is ∙ ap (λ m. bit_at m j) (sym one_more) ∙ set_bit j ∙ ap (λ m. bit_at m j || eqb j k) (sym is)

  -- ---- a bit dropped

  pub bit_without : (j : ℕ) → bit_at (without_bit mask k) j ≡ (bit_at mask j && not (eqb j k))
  unfolding without_bit
  bit_without j = go (bit_at mask k) refl
    where
      held : (b : Bool) → eqb j k ≡ b → bit_at mask k ≡ false → bit_at mask j ≡ (bit_at mask j && not b)
      held true q t = let e : bit_at mask j ≡ false = ap (bit_at mask) (eqb-true j k q) ∙ t in rw e refl
      held false q t = sym (and-true (bit_at mask j))

      go : (b : Bool) → bit_at mask k ≡ b → bit_at (cond b (mask - 2 ^ k) mask) j ≡ (bit_at mask j && not (eqb j k))
      go true e =
          let is = set_is e in
          let less : with1 - 2 ^ k ≡ with0 = omega (arith, one_more) in
          ap (λ m. bit_at (m - 2 ^ k) j) is ∙ ap (λ m. bit_at m j) less ∙ drop_bit j ∙ ap (λ m. bit_at m j && not (eqb j k)) (sym is)
      go false e = held (eqb j k) refl e

  -- ---- masks stay as short as they were

  pub with_short : (n : ℕ) → k < n → mask < 2 ^ n → with_bit mask k < 2 ^ n
  unfolding with_bit half
  with_short n l small = go (bit_at mask k) refl
    where
      go : (b : Bool) → bit_at mask k ≡ b → cond b mask (mask + 2 ^ k) < 2 ^ n
      go true e = small
      go false e =
          let p : ℕ = n - suc k in
          let long : p + (k + 1) ≡ n = omega (arith, l) in
          let w : 2 ^ (k + 1) ≡ 2 * 2 ^ k = ap (λ x. 2 ^ x) (add-one k) ∙ pow-suc 2 k ∙ mul_comm (2 ^ k) 2 in
          let fits : half < 2 ^ p = rw (shr-shr mask k 1) (shr_lt p (k + 1) (rw long small)) in
          let room = mul-le-mul_right (2 ^ (k + 1)) fits in
          let all : 2 ^ p * 2 ^ (k + 1) ≡ 2 ^ n = sym (pow-add 2 p (k + 1)) ∙ ap (λ x. 2 ^ x) long in
          let part : (half * 2 + 0) * 2 ^ k ≡ half * 2 ^ (k + 1) = ap (λ x. x * 2 ^ k) (add-zero (half * 2)) ∙ mul_assoc half 2 (2 ^ k) ∙ ap (λ x. half * x) (sym w) in
          omega (arith, clear_is e, below_low, part, room, suc-mul half (2 ^ (k + 1)), all, w)

  pub without_short : (n : ℕ) → mask < 2 ^ n → without_bit mask k < 2 ^ n
  unfolding without_bit
  without_short n small = go (bit_at mask k)
    where
      go : (b : Bool) → cond b (mask - 2 ^ k) mask < 2 ^ n
      go true = omega (arith, small)
      go false = small

  -- a bit that is set is worth no more than the mask
  pub held_below : bit_at mask k ≡ true → 2 ^ k ≤ mask
  held_below e = omega (arith, set_is e, one_more)
