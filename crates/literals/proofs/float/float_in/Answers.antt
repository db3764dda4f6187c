-- No finite number, or one taken apart (`Parts`).
use mathlib.Core.Path.{refl, ap, sym, ◌∙◌}
use native.Mathlib.Omega.{arith}
use lib.Dec.{leb}
use Prim.Native.Nat.{◌*◌, ◌%◌, ◌^◌}
use Rattle.wgsl.specs.Said.{or_refuse}
use Rattle.wgsl.specs.Rule.{and_then}
use Rattle.wgsl.specs.Literal.{in_format}
use Rattle.literals.specs.Formats.{number_in}
use Rattle.literals.proofs.Parts.{float_refused, float_parts, number_small, power_small}
use Rattle.literals.proofs.float.float_in.Goals as goal

pub returns-then-pattern-ge9218868437227405312 : goal.returns-then-pattern-ge9218868437227405312
unfolding and_then or_refuse
returns-then-pattern-ge9218868437227405312 c g is = rw (float_refused c.args.bits (omega arith)) refl

pub in_format-requires : goal.in_format-requires
in_format-requires c =
    let s = c in
    let m = s.args.bits % 9223372036854775808 in
    (s.requires, omega (arith, c.number_of.ensures, number_small m), omega (arith, c.power_of.ensures, power_small m (omega arith)))

pub returns : goal.returns
unfolding and_then
returns c g is =
    let s = c in
    let b = s.args.bits in
    let number = c.number_of.ensures in
    let power = c.power_of.ensures in
    c.in_format.ensures g is
    ∙ ap (λ n. or_refuse 25 0 (in_format g (record { negative = leb 9223372036854775808 b; worth = n * 2 ^ c.power_of.result }))) number
    ∙ ap (λ p. or_refuse 25 0 (in_format g (record { negative = leb 9223372036854775808 b; worth = number_in (b % 9223372036854775808) * 2 ^ p }))) power
    ∙ ap (λ o. or_refuse 25 0 (and_then o (in_format g))) (sym (float_parts b (omega arith)))
