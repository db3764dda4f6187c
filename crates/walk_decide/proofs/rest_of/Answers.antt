-- By the kind: a runtime array itself, or the last member of a struct.
use borrow.Author.Tests.{eq-eqb, ne_eqb}
use Rattle.walk_decide.specs.Decide.{rest_from}
use Rattle.walk_decide.proofs.rest_of.Goals as goal

pub returns-then-l-eq-RUNTIME : goal.returns-then-l-eq-RUNTIME
unfolding rest_from
returns-then-l-eq-RUNTIME c = rw (eq-eqb _ 10 c.if-l-eq-RUNTIME.true)

pub returns : goal.returns
unfolding rest_from
returns c =
    let m = c in
    rw (ne_eqb _ 10 m.if-l-eq-RUNTIME.false, ← m.member_in-p.ensures, c.value_at.ensures)
