-- Each answer is a law of `VectorAlign`, over the width that `scalar_size` ensures.
use mathlib.Core.Path.{sym}
use native.Mathlib.Omega.{arith}
use Rattle.layout_values.proofs.VectorAlign.{align_even, align_four, align_eight, times_bounded}
use Rattle.layout_values.proofs.scalars.vector_align.Goals as goal

pub returns-then-rows-ne3 : goal.returns-then-rows-ne3
returns-then-rows-ne3 c =
    let w = c.scalar_size-w in (
      λ s e. sym (align_even _ _ s (w.ensures.0 s e) c.if-rows-ne3.true),
      times_bounded _ _ (omega arith) w.ensures.1,
    )

pub returns-then-w-eq8 : goal.returns-then-w-eq8
returns-then-w-eq8 c =
    let w = c.scalar_size-w in
    (λ s e. sym (align_eight _ _ s (w.ensures.0 s e) (omega arith) c.if-w-eq8.true), omega arith)

pub returns : goal.returns
returns c =
    let w = c.scalar_size-w in
    (λ s e. sym (align_four _ _ s (w.ensures.0 s e) (omega arith) c.if-w-eq8.false), omega (arith, w.ensures.1))
