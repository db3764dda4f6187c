-- Each answer is a law of `GivenFits`.
use mathlib.Core.Bool.{not}
use mathlib.Core.Path.{ap}
use mathlib.Core.Path.{sym, ◌∙◌}
use borrow.Author.Tests.{not-true, not-false}
use Rattle.layout_members.proofs.GivenFits.{size_not_given, size_not_on_runtime, size_at_least}
use Rattle.layout_members.proofs.size_fits.Goals as goal

pub returns-then-not-size_given : goal.returns-then-not-size_given
returns-then-not-size_given c t is w = sym (size_not_given t _ (sym c.size_given.ensures ∙ not-true _ (ap not c.if-not-size_given.true)))

pub returns-then-l-eq-RUNTIME : goal.returns-then-l-eq-RUNTIME
returns-then-l-eq-RUNTIME c t is w =
    let b = c in
    sym (size_not_on_runtime _ t is w _ (sym b.size_given.ensures ∙ not-false _ (ap not b.if-not-size_given.false))
    c.if-l-eq-RUNTIME.true)

pub returns : goal.returns
returns c t is w =
    let b = c in
    sym (size_at_least _ t is w _ (sym b.size_given.ensures ∙ not-false _ (ap not b.if-not-size_given.false))
    c.if-l-eq-RUNTIME.false)
