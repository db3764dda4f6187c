-- The layout is a law of `VectorMade`, over what `scalar_size`, `scalar_words`, `vector_align` and `unless_absent` ensure.
use mathlib.Core.Bool.{not}
use mathlib.Core.Path.{ap, sym}
use native.Mathlib.Omega.{arith}
use Rattle.layout_values.proofs.Unused.{unused_two, granted}
use Rattle.layout_referring.proofs.VectorMade.{vector_laid}
use Rattle.layout_referring.proofs.vector.Goals as goal

pub returns : goal.returns
returns c long t is =
    let a = c.vector_align-align.ensures in
    sym (vector_laid t _ is _ long _ (granted (unused_two _ _ c.zeros.ensures) (ap not c.if-not-zeros.false))
    (granted c.is_scalar.ensures (ap not c.if-not-is_scalar.false)) (omega arith) (omega arith) _ _ c.scalar_size-w.ensures.0 a.0 a.1
    _ (rw c.scalar_words.ensures.0 at c.unless_absent-unit.ensures))
