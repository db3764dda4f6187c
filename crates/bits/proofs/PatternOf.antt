-- An i32 as the machine has it, and -1 less a number, which turns its bits round.
--
-- In order: -1 less a number; a number below 0; one that is not.
-- Assumes nothing.
use Prim.Native.Nat.{ℕ, zero, suc, ◌-◌, ◌^◌, ◌<◌}
use mathlib.Core.Bool.{true, false}
use mathlib.Core.Path.{◌≡◌, refl, ap}
use native.Mathlib.Omega.{arith}
use native.Mathlib.Nat.{zero-add}
use borrow.Author.Tests.{ltb-true, le-ltb}
use lib.IntN.{ℤ, pos, negsuc, ◌-ℤ◌}
use lib.Signed.{lt_z}
use mir.Syntax.{w32}
use mir.Val.{SFits, to_z, of_z}
use mir.Facts.{to_z-of_z, to_z_pos}
use Rattle.wgsl.proofs.Absent.{true_not_false}

less_pos : (n : ℕ) → negsuc 0 -ℤ pos n ≡ negsuc n
less_pos zero = refl
less_pos (suc n) = rw zero-add

-- -1 less a number that is not below 0
pub flipped : (n : ℕ) → n < 2 ^ 31 → negsuc 0 -ℤ to_z w32 n ≡ negsuc n
flipped n h = rw (to_z_pos w32 h) (less_pos n)

-- A number below 0: what -1 less it is, and that this comes back from the machine.
pub record Low (z : ℤ) : Type 0 where
  pub at : ℕ
  pub is : z ≡ negsuc at
  pub small : at < 2 ^ 31
  pub turned : negsuc 0 -ℤ to_z w32 (of_z w32 z) ≡ pos at
  pub back : to_z w32 (of_z w32 (negsuc 0 -ℤ to_z w32 (of_z w32 z))) ≡ pos at

pub low : (z : ℤ) → SFits w32 z → lt_z z (pos 0) ≡ true → Low z
low (pos n) h t = absurd (omega (arith, ltb-true n 0 t))
low (negsuc n) h t =
    let m : suc n - 1 ≡ n = omega arith in
    let d : negsuc 0 -ℤ negsuc n ≡ pos n = rw (le-ltb (suc n) 1 (omega arith)) (ap pos m) in
    let f : negsuc 0 -ℤ to_z w32 (of_z w32 (negsuc n)) ≡ pos n = rw (to_z-of_z {w = w32} {z = negsuc n} h) d in
    record { at = n; is = refl; small = h.sfits; turned = f; back = rw f (to_z_pos w32 h.sfits) }

-- A number that is not below 0.
pub record High (z : ℤ) : Type 0 where
  pub at : ℕ
  pub is : z ≡ pos at
  pub small : at < 2 ^ 31
  pub back : to_z w32 (of_z w32 z) ≡ pos at

pub high : (z : ℤ) → SFits w32 z → lt_z z (pos 0) ≡ false → High z
high (pos n) h t = record { at = n; is = refl; small = h.sfits; back = to_z_pos w32 h.sfits }
high (negsuc n) h t = true_not_false refl t
