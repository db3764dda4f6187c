-- Masking off the low k digits of a number of 64 bits leaves the multiple of 2 ^ k below it.
-- Assumes nothing.
use Prim.Native.Nat.{ℕ, ◌^◌, ◌<◌, ◌+◌, ◌-◌, ◌*◌, ◌/◌}
use native.Mathlib.Omega.{arith}
use mathlib.Core.Path.{◌≡◌, ap, sym, subst, ◌∙◌}
use lib.Bits.{bit_and, and_high}
use lib.Pow.{pow_pos, shr_mod}

pub cleared : (k m : ℕ) → k < 64 → m < 18446744073709551616 → bit_and m (18446744073709551615 - (2 ^ k - 1)) ≡ m / 2 ^ k * 2 ^ k
cleared k m l h =
    let j : ℕ = 64 - k in
    let e : j + k ≡ 64 = omega arith in
    let p = pow_pos k in
    let q : 2 ^ (j + k) ≡ 18446744073709551616 = ap (λ (x : ℕ). 2 ^ x) e in
    let s : 18446744073709551615 - (2 ^ k - 1) ≡ 2 ^ (j + k) - 2 ^ k = omega arith in
    let b : m < 2 ^ (j + k) = subst (λ (x : ℕ). m < x) (sym q) h in
    ap (λ (x : ℕ). bit_and m x) s ∙ (and_high m j k ∙ ap (λ (x : ℕ). x * 2 ^ k) (shr_mod j k b))
