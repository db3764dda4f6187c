-- A whole number of 2 ^ -1074 (`Parts`).
use mathlib.Core.Path.{ap, sym, ◌∙◌}
use native.Mathlib.Omega.{arith}
use lib.Dec.{leb}
use Prim.Native.Nat.{◌*◌, ◌^◌}
use Rattle.wgsl.specs.Said.{or_refuse}
use Rattle.wgsl.specs.Literal.{in_format}
use Rattle.literals.proofs.Parts.{whole_is, whole_small}
use Rattle.literals.proofs.int.int_in.Goals as goal

pub in_format-requires : goal.in_format-requires
in_format-requires c =
    let s = c in
    (s.requires, omega (arith, c.magnitude.ensures, whole_small s.args.bits (omega arith)), omega arith)

pub returns : goal.returns
returns c g is =
    let b = c.args.bits in
    c.in_format.ensures g is
    ∙ ap (λ n. or_refuse 25 0 (in_format g (record { negative = leb 9223372036854775808 b; worth = n * 2 ^ 1074 }))) c.magnitude.ensures
    ∙ ap (λ l. or_refuse 25 0 (in_format g l)) (sym (whole_is b))
