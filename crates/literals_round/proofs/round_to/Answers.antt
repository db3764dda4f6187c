-- The digits past those that are kept, and what is kept of the rest (`Scaled`).
use Prim.Native.Nat.{ℕ, ◌+◌, ◌-◌, ◌*◌, ◌/◌, ◌%◌, ◌^◌, ◌<◌, ◌≤◌}
use mathlib.Core.Path.{◌≡◌, ap, sym, ◌∙◌}
use native.Mathlib.Omega.{arith}
use native.Mathlib.Nat.{mul-le-mul_left, mul-le-mul_right}
use lib.Ieee.{size}
use lib.Ieee.Digits.{size-le}
use lib.Pow.{shl_exact, pow_mono}
use Rattle.wgsl.specs.Literal.{rounded}
use Rattle.literals_round.proofs.Scaled.{stepped_most, quotient_below, rounded_is, rounded_none}
use Rattle.literals_round.proofs.round_to.Goals as goal

-- a number up to 2 ^ 63 has at most 64 digits
few : (n : ℕ) → n ≤ 9223372036854775808 → size n ≤ 64
few n h = size-le n 64 (omega arith)

-- no bit is shifted out
shifted : (k d : ℕ) → k ≤ 2110 → d ≤ 52 → k * 2 ^ d % 18446744073709551616 ≡ k * 2 ^ d
shifted k d h l = shl_exact {a = k} 12 d 64 (omega arith) (omega arith)

within : (k d : ℕ) → k ≤ 2110 → d ≤ 52 → k * 2 ^ d ≤ 2110 * 2 ^ 52
within k d h l = omega (arith, mul-le-mul_right (2 ^ d) h, mul-le-mul_left 2110 (pow_mono {i = d} {j = 52} l))

pub returns-then-number-eq0 : goal.returns-then-number-eq0
returns-then-number-eq0 c =
    let a = c.args in
    let none : a.number ≡ 0 = omega arith in
    sym (ap (λ n. rounded a.d (2 ^ a.unit) (n * 2 ^ a.power)) none ∙ rounded_none a.d a.unit a.power)

pub overflow_add-digits : goal.overflow_add-digits
overflow_add-digits c =
    let s = c in
    record { fits = omega (arith, c.digits.ensures, few s.args.number s.requires.0) }

pub overflow_add-unit-3 : goal.overflow_add-unit-3
overflow_add-unit-3 c =
    let s = c in
    record { fits = omega (arith, c.saturating_sub-k.ensures, c.digits.ensures, few s.args.number s.requires.0) }

pub overflow_add-result : goal.overflow_add-result
overflow_add-result c =
    let past = c in
    let s = past in
    let k = past.saturating_sub-k.result in
    let most : k ≤ 2110 = omega (arith, past.saturating_sub-k.ensures, past.digits.ensures, few s.args.number s.requires.0) in
    let some : 0 < s.args.number = omega arith in
    let q = quotient_below s.args.number s.args.power (s.args.unit + k) 53 some (omega (arith, past.saturating_sub-k.ensures, past.digits.ensures)) in
    rw c.from.ensures (record { fits = omega (arith, shifted k s.args.d most s.requires.3, within k s.args.d most s.requires.3, c.kept.ensures, q, stepped_most (s.args.number * 2 ^ s.args.power / 2 ^ (s.args.unit + k)) (s.args.number * 2 ^ s.args.power % 2 ^ (s.args.unit + k)) (2 ^ (s.args.unit + k))) })

pub returns : goal.returns
returns c =
    let past = c in
    let s = past in
    let k = past.saturating_sub-k.result in
    let most : k ≤ 2110 = omega (arith, past.saturating_sub-k.ensures, past.digits.ensures, few s.args.number s.requires.0) in
    let is : k ≡ size s.args.number + s.args.power - (s.args.unit + s.args.d + 1) = past.saturating_sub-k.ensures ∙ ap (λ n. n + s.args.power - (s.args.unit + s.args.d + 1)) past.digits.ensures in
    rw (c.from.ensures, shifted k s.args.d most s.requires.3, c.kept.ensures) (sym (rounded_is s.args.number s.args.power s.args.d s.args.unit k (omega arith) is))
