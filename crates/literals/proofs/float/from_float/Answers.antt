-- To itself, to two kinds, or to none (`Parts`).
use mathlib.Core.Path.{sym, ◌∙◌}
use native.Mathlib.Omega.{arith}
use Rattle.wgsl.specs.Types.{f32, f16, abstract_float, scalar_kind}
use Rattle.wgsl.specs.Said.{or_refuse}
use Rattle.wgsl.specs.Literal as literal
use Rattle.literals.proofs.Parts.{to_kind_lem, to_none, float_else}
use Rattle.literals.proofs.float.from_float.Goals as goal

pub returns-in-6 : goal.returns-in-6
unfolding scalar_kind literal.from_float or_refuse
returns-in-6 c = let a = c.args in sym (to_kind_lem literal.from_float a.bits abstract_float (omega arith))

pub returns-in-3 : goal.returns-in-3
unfolding scalar_kind literal.from_float
returns-in-3 c =
    let a = c.args in
    c.float_in.ensures literal.single c.single.ensures.0 ∙ sym (to_kind_lem literal.from_float a.bits f32 (omega arith))

pub returns-in-4 : goal.returns-in-4
unfolding scalar_kind literal.from_float
returns-in-4 c =
    let a = c.args in
    c.float_in-in-4.ensures literal.half c.half.ensures.0 ∙ sym (to_kind_lem literal.from_float a.bits f16 (omega arith))

pub returns-in_default : goal.returns-in_default
returns-in_default c =
    let a = c.args in
    sym (to_none literal.from_float a.bits a.to (float_else a.bits a.to (λ e. omega (arith, e)) (λ e. omega (arith, e)) (λ e. omega (arith, e))))
