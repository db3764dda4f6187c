-- Each answer is a law of `GivenFits`: a layout has 0 where a type's number is absent.
use mathlib.Core.Path.{sym}
use Rattle.layout_members.proofs.GivenFits.{unaligned_not_allowed, sized_allowed, last_allowed, not_last_allowed}
use Rattle.layout_members.proofs.is_allowed.Goals as goal

pub returns-then-l-eq0 : goal.returns-then-l-eq0
returns-then-l-eq0 c t is w = sym (unaligned_not_allowed _ t is w _ c.if-l-eq0.true)

pub returns-then-l-ne0 : goal.returns-then-l-ne0
returns-then-l-ne0 c t is w = sym (sized_allowed _ t is w _ c.if-l-eq0.false c.if-l-ne0.true)

pub returns-then-last : goal.returns-then-last
returns-then-last c t is w =
    let b = c in
    sym (last_allowed _ t is w _ b.if-l-eq0.false b.if-l-ne0.false c.if-last.true)

pub returns : goal.returns
returns c t is w =
    let b = c in
    sym (not_last_allowed _ t is w _ b.if-l-eq0.false b.if-l-ne0.false c.if-last.false)
