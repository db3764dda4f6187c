use Prim.Native.Nat.{ℕ, ◌^◌, ◌<◌, ◌+◌, ◌-◌, ◌*◌, ◌/◌}
use native.Mathlib.Omega.{arith}
use mathlib.Core.Path.{◌≡◌, sym, subst}
use lib.Bits.{bit_and}
use Rattle.wgsl.specs.Round.{up}
use Rattle.wgsl.proofs.Power.{exponent_small}
use Rattle.numbers.proofs.Mask.{cleared}
use Rattle.numbers.proofs.power.up_power.Goals as goal

pub returns : goal.returns
unfolding up
returns c =
    let p = c.requires.0 in
    let k = p.exponent in
    let small : c.args.a < 2 ^ 32 = omega arith in
    let h : c.args.n + (c.args.a - 1) < 18446744073709551616 = omega arith in
    subst (λ (x : ℕ). bit_and (c.args.n + (x - 1)) (18446744073709551615 - (x - 1)) ≡ (c.args.n + (x - 1)) / x * x) (sym p.is)
    (cleared k (c.args.n + (2 ^ k - 1)) (omega (arith, exponent_small p small)) (subst (λ (x : ℕ). c.args.n + (x - 1) < 18446744073709551616) p.is h))
