-- By the kind that is converted (`Parts`).
use mathlib.Core.Bool.{not}
use mathlib.Core.Path.{◌≡◌, ap, sym, ◌∙◌}
use native.Mathlib.Omega.{arith}
use Rattle.wgsl.specs.Literal.{convert_call}
use borrow.Author.Tests.{not-true, not-false}
use Rattle.literals.proofs.Parts.{int_call, float_call, other_call, none_call, same_call}
use Rattle.literals.proofs.convert.Goals as goal

pub returns-then-from-eq-ABSTRACT_INT : goal.returns-then-from-eq-ABSTRACT_INT
returns-then-from-eq-ABSTRACT_INT c =
    let a = c.args in
    let is : a.from ≡ 5 = omega arith in
    c.from_int.ensures ∙ sym (ap (λ k. convert_call k a.bits a.to) is ∙ int_call a.bits a.to (omega arith))

pub returns-then-from-eq-ABSTRACT_FLOAT : goal.returns-then-from-eq-ABSTRACT_FLOAT
returns-then-from-eq-ABSTRACT_FLOAT c =
    let a = c.args in
    let is : a.from ≡ 6 = omega arith in
    c.from_float.ensures ∙ sym (ap (λ k. convert_call k a.bits a.to) is ∙ float_call a.bits a.to (omega arith))

pub returns-then-from-to : goal.returns-then-from-to
returns-then-from-to c =
    let a = c.args in
    sym (other_call a.from a.bits a.to (λ e. omega (arith, e)) (λ e. omega (arith, e)) (λ e. omega (arith, e)))

pub returns-then-not-is_scalar : goal.returns-then-not-is_scalar
returns-then-not-is_scalar c =
    let a = c.args in
    sym (none_call a.from a.bits a.to (sym c.is_scalar.ensures ∙ not-true _ (ap not c.if-not-is_scalar.true)))

pub returns : goal.returns
returns c =
    let call = c in
    let a = call.args in
    let same : a.from ≡ a.to = omega arith in
    sym (ap (convert_call a.from a.bits) (sym same)
    ∙ same_call a.from a.bits (λ e. omega (arith, e)) (λ e. omega (arith, e)) (sym call.is_scalar.ensures ∙ not-false _ (ap not c.if-not-is_scalar.false)) c.low_bits.ensures)
