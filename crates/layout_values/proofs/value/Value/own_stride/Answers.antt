-- Each answer is a law of `StrideOf`.
use native.Mathlib.Omega.{arith}
use Rattle.layout_values.proofs.StrideOf.{stride_runtime, stride_unsized, stride_unaligned, stride_larger}
use Rattle.layout_values.proofs.value.Value.own_stride.Goals as goal

pub returns-then-self-eq-RUNTIME : goal.returns-then-self-eq-RUNTIME
returns-then-self-eq-RUNTIME c t is w = stride_runtime t _ is w c.if-self-eq-RUNTIME.true

pub returns-then-self-eq0 : goal.returns-then-self-eq0
returns-then-self-eq0 c t is w = stride_unsized t _ is w c.if-self-eq-RUNTIME.false c.if-self-eq0.true

pub returns-then-self-eq0-2 : goal.returns-then-self-eq0-2
returns-then-self-eq0-2 c t is w = stride_unaligned t _ is w c.if-self-eq-RUNTIME.false c.if-self-eq0-2.true

pub returns : goal.returns
returns c t is w =
    stride_larger t _ is w c.if-self-eq0.false c.if-self-eq0-2.false _ (omega (arith, c.max.ensures))
