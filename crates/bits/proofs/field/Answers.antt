-- A shift and a mask cut out a field (`Words`).
use mathlib.Core.Path.{refl}
use native.Mathlib.Nat.{lt_of_lt_of_le}
use lib.Pow.{pow_mono}
use Rattle.wgsl.proofs.FieldAt.{field_bounded}
use Rattle.bits.proofs.FieldAt.{field_masked}
use Rattle.bits.proofs.field.Goals as goal

pub returns : goal.returns
returns c =
    let a = c.args in
    let is = field_masked a.e a.o a.c c.requires.1 in
    let small = field_bounded a.e a.o a.c in
    rw (c.wide.ensures.0, is) (refl, small, lt_of_lt_of_le small (pow_mono c.requires.1))
