-- Each answer is a law of `ScalarMade`, over what `scalar_size`, `stored_width` and `scalar_words` ensure.
use mathlib.Core.Bool.{not}
use mathlib.Core.Path.{ap}
use mathlib.Core.Path.{sym}
use Rattle.layout_values.proofs.Unused.{denied, granted}
use Rattle.layout_values.proofs.ScalarMade.{scalar_used, scalar_laid}
use Rattle.layout_values.proofs.scalars.scalar_entry.Goals as goal

pub returns-then-not-zeros : goal.returns-then-not-zeros
returns-then-not-zeros c long = sym (scalar_used _ long (denied c.zeros.ensures (ap not c.if-not-zeros.true)))

pub returns : goal.returns
returns c long =
    let w = c in
    let z = w in
    sym (scalar_laid _ long (granted z.zeros.ensures (ap not z.if-not-zeros.false)) z.requires _ _
    w.scalar_size-w.ensures.0 w.stored_width-narrow.ensures _ c.scalar_words-unit.ensures.0)
