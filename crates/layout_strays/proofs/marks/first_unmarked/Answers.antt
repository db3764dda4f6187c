-- All before m are marked (`Named`).
use mathlib.Core.Bool.{not}
use mathlib.Core.Path.{ap}
use mathlib.Core.Path.{sym, ◌∙◌}
use native.Mathlib.Omega.{arith}
use borrow.Author.Tests.{not-true}
use Rattle.layout_strays.proofs.Named.{verdict_stray, verdict_none}
use Rattle.layout_strays.proofs.marks.first_unmarked.Goals as goal

pub returns-then-not-is_marked : goal.returns-then-not-is_marked
returns-then-not-is_marked c f n marks =
    verdict_stray f n c.loop-m-test.true
    (sym (marks c.loop-m.m c.loop-m-test.true) ∙ sym c.is_marked.ensures ∙ not-true _ (ap not c.if-not-is_marked.true))
    (λ i h. sym (marks i (omega arith)) ∙ c.loop-m.invariant i h)

pub returns : goal.returns
returns c f n marks =
    verdict_none f n c.args.members (λ i h. sym (marks i h) ∙ c.loop-m.invariant i (omega (arith, c.loop-m-test.false)))
