-- Shifts of u64, in whole numbers.
use Prim.Native.Nat.{ℕ, zero, suc, ◌+◌, ◌-◌, ◌*◌, ◌%◌, ◌^◌, ◌≤◌, ◌<◌}
use mathlib.Core.Logic.{◌⊎◌, inl, inr, ⊎_elim}
use mathlib.Core.Path.{◌≡◌, ap, ◌∙◌}
use native.Mathlib.Omega.{arith}
use native.Mathlib.Nat.{one-mul}
use borrow.Author.Tests.{lt-ltb, le-ltb}
use lib.Bits.{bit_and, and_mask}
use lib.Count.{count_leading_zeros, leading_top, leading_of_zero}
use lib.Pow.{pow-lt, shl_exact}
use lib.Ieee.{size}
use lib.Ieee.Digits.{size-lt, size-le}
use Rattle.wgsl.specs.Literal.{stepped}

-- 1 shifted left
pub one_shl : (k : ℕ) → k < 64 → (1 * 2 ^ k) % 2 ^ 64 ≡ 2 ^ k
one_shl k h = shl_exact {a = 1} 1 k 64 (omega arith) (omega arith) ∙ one-mul (2 ^ k)

pub masked : (n k : ℕ) → k < 64 → bit_and n ((1 * 2 ^ k) % 2 ^ 64 - 1) ≡ n % 2 ^ k
masked n k h = ap (λ (x : ℕ). bit_and n (x - 1)) (one_shl k h) ∙ and_mask n k

two_halves : (k : ℕ) → 0 < k → 2 ^ (k - 1) + 2 ^ (k - 1) ≡ 2 ^ k
two_halves zero h = absurd (omega arith)
two_halves (suc k) h = let e : suc k - 1 ≡ k = omega arith in rw e (omega arith)

pub stepped_low : (q rest k : ℕ) → 0 < k → rest < 2 ^ (k - 1) → stepped q rest (2 ^ k) ≡ q
unfolding stepped
stepped_low q rest k p h = rw (lt-ltb (2 * rest) (2 ^ k) (omega (arith, two_halves k p)))

pub stepped_high : (q rest k : ℕ) → 0 < k → 2 ^ (k - 1) < rest → stepped q rest (2 ^ k) ≡ suc q
unfolding stepped
stepped_high q rest k p h = rw (le-ltb (2 * rest) (2 ^ k) (omega (arith, two_halves k p)), lt-ltb (2 ^ k) (2 * rest) (omega (arith, two_halves k p)))

pub stepped_tie : (q rest k : ℕ) → 0 < k → rest ≡ 2 ^ (k - 1) → stepped q rest (2 ^ k) ≡ q + q % 2
unfolding stepped
stepped_tie q rest k p h = rw (le-ltb (2 * rest) (2 ^ k) (omega (arith, two_halves k p)), le-ltb (2 ^ k) (2 * rest) (omega (arith, two_halves k p)))

-- 64 less the leading zeros is the number of digits
pub digits_are : (n : ℕ) → n < 2 ^ 64 → (count_leading_zeros 64 n ≤ 64) × (64 - count_leading_zeros 64 n ≡ size n)
digits_are n h = ⊎_elim (λ (z : n ≤ 0). none z) (λ (p : 0 < n). more p) (le_or_lt n 0)
  where
    le_or_lt : (m n : ℕ) → (m ≤ n) ⊎ (n < m)
    le_or_lt zero n = inl (omega arith)
    le_or_lt (suc m) zero = inr (omega arith)
    le_or_lt (suc m) (suc n) = ⊎_elim (λ (x : m ≤ n). inl (omega arith)) (λ (x : n < m). inr (omega arith)) (le_or_lt m n)

    none : n ≤ 0 → (count_leading_zeros 64 n ≤ 64) × (64 - count_leading_zeros 64 n ≡ size n)
    none z =
        let e : n ≡ 0 = omega arith in
        let s : size 0 ≤ 0 = size-le 0 0 (omega arith) in
        rw (e, leading_of_zero 64) (omega arith, omega arith)

    more : 0 < n → (count_leading_zeros 64 n ≤ 64) × (64 - count_leading_zeros 64 n ≡ size n)
    more p =
        let t = leading_top 64 n p h in
        let j = t.0 in
        let up : size n ≤ suc j = size-le n (suc j) t.3 in
        let down : suc j ≤ size n = ⊎_elim (λ (x : suc j ≤ size n). x) (λ (x : size n < suc j). absurd (omega (arith, size-lt n, t.2, pow_le (size n) j (omega arith)))) (le_or_lt (suc j) (size n)) in
        (omega (arith, t.1), omega (arith, t.1))
      where
        pow_le : (i j : ℕ) → i ≤ j → 2 ^ i ≤ 2 ^ j
        pow_le i j l = ⊎_elim (λ (x : j ≤ i). let e : i ≡ j = omega arith in rw e (omega arith)) (λ (x : i < j). omega (arith, pow-lt x)) (le_or_lt j i)
