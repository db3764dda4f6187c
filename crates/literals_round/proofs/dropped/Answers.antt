-- What is left, beside half of the divisor (`Shifts`).
use Prim.Native.Nat.{ℕ, ◌*◌, ◌/◌, ◌%◌, ◌^◌, ◌-◌, ◌<◌}
use mathlib.Core.Path.{◌≡◌, sym}
use native.Mathlib.Omega.{arith}
use lib.Bits.{and_mask}
use Rattle.literals_round.proofs.Shifts.{one_shl, masked, stepped_low, stepped_high, stepped_tie}
use Rattle.literals_round.proofs.dropped.Goals as goal

half : (k : ℕ) → 0 < k → k < 64 → (1 * 2 ^ (k - 1)) % 2 ^ 64 ≡ 2 ^ (k - 1)
half k p h = one_shl (k - 1) (omega arith)

pub returns-then-rest-half : goal.returns-then-rest-half
returns-then-rest-half c =
    let k = c.args.drop in
    let pre = c.requires in
    sym (stepped_low _ _ k pre.0 (rw (masked c.args.number k pre.1, half k pre.0 pre.1) at c.if-rest-half.true))

pub returns-then-half-rest : goal.returns-then-half-rest
returns-then-half-rest c =
    let a = c in
    let k = a.args.drop in
    let h = stepped_high (a.args.number / 2 ^ k) (a.args.number % 2 ^ k) k a.requires.0 (rw (masked a.args.number k a.requires.1, half k a.requires.0 a.requires.1) at c.if-half-rest.true) in
    omega (arith, h)

pub returns : goal.returns
returns c =
    let a = c in
    let k = a.args.drop in
    let q = a.args.number / 2 ^ k in
    let lo = rw (masked a.args.number k a.requires.1, half k a.requires.0 a.requires.1) at c.if-rest-half.false in
    let hi = rw (masked a.args.number k a.requires.1, half k a.requires.0 a.requires.1) at c.if-half-rest.false in
    let tie : a.args.number % 2 ^ k ≡ 2 ^ (k - 1) = omega (arith, lo, hi) in
    rw (and_mask q 1) (sym (stepped_tie q (a.args.number % 2 ^ k) k a.requires.0 tie))
