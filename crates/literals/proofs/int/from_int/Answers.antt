-- To itself, to five kinds, or to none (`Parts`).
use mathlib.Core.Path.{sym, ◌∙◌}
use native.Mathlib.Omega.{arith}
use Rattle.wgsl.specs.Types.{i32, u32, f32, f16, abstract_int, abstract_float, scalar_kind}
use Rattle.wgsl.specs.Said.{or_refuse}
use Rattle.wgsl.specs.Literal as literal
use Rattle.literals.proofs.Parts.{to_kind_lem, to_none, int_else}
use Rattle.literals.proofs.int.from_int.Goals as goal

pub returns-in-5 : goal.returns-in-5
unfolding scalar_kind literal.from_int or_refuse
returns-in-5 c = let a = c.args in sym (to_kind_lem literal.from_int a.bits abstract_int (omega arith))

pub returns-in-1 : goal.returns-in-1
unfolding scalar_kind literal.from_int
returns-in-1 c =
    let a = c.args in c.in_i32.ensures ∙ sym (to_kind_lem literal.from_int a.bits i32 (omega arith))

pub returns-in-2 : goal.returns-in-2
unfolding scalar_kind literal.from_int
returns-in-2 c =
    let a = c.args in c.in_u32.ensures ∙ sym (to_kind_lem literal.from_int a.bits u32 (omega arith))

pub returns-in-3 : goal.returns-in-3
unfolding scalar_kind literal.from_int
returns-in-3 c =
    let a = c.args in
    c.int_in.ensures literal.single c.single.ensures.0 ∙ sym (to_kind_lem literal.from_int a.bits f32 (omega arith))

pub returns-in-4 : goal.returns-in-4
unfolding scalar_kind literal.from_int
returns-in-4 c =
    let a = c.args in
    c.int_in-in-4.ensures literal.half c.half.ensures.0 ∙ sym (to_kind_lem literal.from_int a.bits f16 (omega arith))

pub returns-in-6 : goal.returns-in-6
unfolding scalar_kind literal.from_int
returns-in-6 c =
    let a = c.args in
    c.int_in-in-6.ensures literal.double c.double.ensures.0 ∙ sym (to_kind_lem literal.from_int a.bits abstract_float (omega arith))

pub returns-in_default : goal.returns-in_default
returns-in_default c =
    let a = c.args in
    sym (to_none literal.from_int a.bits a.to
    (int_else a.bits a.to (λ e. omega (arith, e)) (λ e. omega (arith, e)) (λ e. omega (arith, e)) (λ e. omega (arith, e)) (λ e. omega (arith, e)) (λ e. omega (arith, e))))
