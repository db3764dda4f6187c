-- Each answer is a law of `GivenFits`.
use mathlib.Core.Bool.{not}
use mathlib.Core.Path.{ap}
use mathlib.Core.Path.{sym, ◌∙◌}
use borrow.Author.Tests.{not-true, not-false}
use Rattle.layout_members.proofs.GivenFits.{align_not_given, align_no_power, align_multiple}
use Rattle.layout_members.proofs.align_fits.Goals as goal

pub returns-then-not-align_given : goal.returns-then-not-align_given
returns-then-not-align_given c t is w = sym (align_not_given t _ (sym c.align_given.ensures ∙ not-true _ (ap not c.if-not-align_given.true)))

pub returns-then-not-is_power : goal.returns-then-not-is_power
returns-then-not-is_power c t is w =
    let b = c in
    sym (align_no_power t _ (sym b.align_given.ensures ∙ not-false _ (ap not b.if-not-align_given.false))
    (sym c.is_power.ensures ∙ not-true _ (ap not c.if-not-is_power.true)))

pub returns : goal.returns
returns c t is w =
    let p = c in
    let b = p in
    sym (align_multiple _ t is w _
    (sym b.align_given.ensures ∙ not-false _ (ap not b.if-not-align_given.false))
    (sym p.is_power.ensures ∙ not-false _ (ap not p.if-not-is_power.false)))
