-- The layout is a law of `MatrixMade`, over what `suits_matrix`, `vector_align` and `unless_absent` ensure.
use mathlib.Core.Bool.{not}
use mathlib.Core.Path.{ap, sym, ◌∙◌}
use borrow.Author.Tests.{not-false}
use native.Mathlib.Omega.{arith}
use Rattle.layout_values.proofs.Unused.{unused_one, granted}
use Rattle.layout_referring.proofs.MatrixMade.{matrix_laid}
use Rattle.layout_referring.proofs.matrix.Goals as goal

pub returns : goal.returns
returns c long t is =
    let a = c.vector_align-align.ensures in
    let m = c.suits_matrix.ensures in
    let suits = not-false _ (ap not c.if-not-suits_matrix.false) in
    sym (matrix_laid t _ is _ long _ (omega arith) (omega arith)
    (granted (unused_one _ c.zeros.ensures) (ap not c.if-not-zeros.false)) (λ s e. sym (m.0 s e) ∙ suits) (m.1 suits)
    (omega arith) (omega arith) _ a.0 a.1 _ c.unless_absent-unit.ensures)
