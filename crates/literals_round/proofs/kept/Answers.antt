-- A divisor that divides, one that drops all bits, or some (`Scaled`).
use Prim.Native.Nat.{ℕ, ◌+◌, ◌-◌, ◌*◌, ◌/◌, ◌%◌, ◌^◌, ◌<◌}
use mathlib.Core.Path.{◌≡◌, sym, ◌∙◌}
use native.Mathlib.Omega.{arith}
use lib.Ieee.{size}
use lib.Ieee.Digits.{size-lt}
use lib.Pow.{shl_exact}
use Rattle.wgsl.specs.Literal.{stepped}
use Rattle.literals_round.proofs.Scaled.{divides, drops, drops_all}
use Rattle.literals_round.proofs.kept.Goals as goal

-- the unit is so much above the power
above : (n x u : ℕ) → x < u → stepped (n * 2 ^ x / 2 ^ u) (n * 2 ^ x % 2 ^ u) (2 ^ u) ≡ stepped (n / 2 ^ (u - x)) (n % 2 ^ (u - x)) (2 ^ (u - x))
above n x u l = let e : x + (u - x) ≡ u = omega arith in rw e at (drops n x (u - x))

pub returns-then-unit-power : goal.returns-then-unit-power
returns-then-unit-power c =
    let s = c in
    let n = s.args.number in
    let by = s.args.power - s.args.unit in
    shl_exact {a = n} (size n) by 64 (size-lt n) (omega (arith, s.requires.1)) ∙ sym (divides n s.args.power s.args.unit (omega arith))

pub returns-then-unit-power-gt63 : goal.returns-then-unit-power-gt63
returns-then-unit-power-gt63 c =
    let s = c in
    let a = s.args in
    sym (above a.number a.power a.unit (omega arith) ∙ drops_all a.number (a.unit - a.power) s.requires.0 (omega arith))

pub returns : goal.returns
returns c =
    let a = c.args in
    c.dropped.ensures ∙ sym (above a.number a.power a.unit (omega arith))
