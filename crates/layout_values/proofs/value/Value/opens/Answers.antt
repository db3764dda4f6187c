-- What is open has an alignment and no size.
use mathlib.Core.Path.{sym}
use borrow.Author.Tests.{ne_eqb}
use Rattle.layout_values.proofs.ValueOf.{size_closed, open_told}
use Rattle.layout_values.proofs.value.Value.opens.Goals as goal

pub returns-then-self-eq0 : goal.returns-then-self-eq0
returns-then-self-eq0 c t is w = sym (open_told t _ is w c.if-self-eq0.true)

pub returns-else-self-eq0 : goal.returns-else-self-eq0
returns-else-self-eq0 c t is w = rw (ne_eqb _ 0 c.if-self-eq0.false) (sym (size_closed t _ is w c.if-self-eq0.false))
