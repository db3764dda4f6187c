-- The old field is taken away and the new one added (`Words`).
use Prim.Native.Nat.{◌+◌, ◌≤◌}
use native.Mathlib.Omega.{arith}
use Rattle.wgsl.specs.BitField.{inserted}
use Rattle.wgsl.proofs.BitField.{field_within}
use Rattle.bits.proofs.FieldAt.{Put, put_sum}
use Rattle.bits.proofs.insert_bits_u32.Goals as goal

put : (c : goal.After-wide)
    → Put c.wide.result c.args.newbits
    c.start_of-o.result c.bits_of-c.result
    c.field-old.result c.field-new.result
put c =
    let a = c.args in
    let o = c.start_of-o.result in
    let n = c.bits_of-c.result in
    let within : o + n ≤ 32 = omega (arith, field_within a.offset a.count) in
    rw (c.field-old.ensures.0, c.field-new.ensures.0, c.wide.ensures.0)
    (put_sum a.e a.newbits o n within (omega arith))

pub overflow_sub-result : goal.overflow_sub-result
overflow_sub-result c = (put c).below

pub overflow_cast-result-3 : goal.overflow_cast-result-3
overflow_cast-result-3 c = record { fits = (put c).word }

pub returns : goal.returns
unfolding inserted
returns c = cc (put c).is
