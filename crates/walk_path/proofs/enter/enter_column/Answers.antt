-- A column's scalars lie one after the other, each of the size that the scalar's layout says.
use Rattle.walk_path.specs.Way.{Enters}
use Rattle.walk_path.proofs.IndexStep.{column_inside, column_past, scalar_enters}
use Rattle.walk_path.proofs.enter.enter_column.Goals as goal

pub returns-then-count-number : goal.returns-then-count-number
unfolding Enters
returns-then-count-number c f ts ms n x at = column_past at _ c.if-count-number.true

pub value_at-width-requires : goal.value_at-width-requires
value_at-width-requires c = let (f, ts, ms, n, x, at) = c.requires in column_inside at

pub returns : goal.returns
returns c f ts ms n x at = rw c.value_at-width.ensures (scalar_enters at _ c.if-count-number.false)
