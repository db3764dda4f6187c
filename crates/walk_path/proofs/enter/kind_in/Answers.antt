-- A scalar's layout says its kind; an atomic's refers to it; nothing else is one scalar.
use mathlib.Core.Path.{sym, ◌∙◌}
use Rattle.walk_path.proofs.IndexStep.{entry_inside, entry_found, column_no_scalar, no_scalar_lem, its_scalar, atomic_scalar}
use Rattle.walk_path.proofs.enter.kind_in.Goals as goal

pub value_at-r-requires : goal.value_at-r-requires
value_at-r-requires c =
    let (f, ts, ms, n, x, at) = c.requires in
    entry_inside (rw c.in-Entry.is at at)

pub returns-then-is_scalar : goal.returns-then-is_scalar
returns-then-is_scalar c f ts ms n x at =
    let layout = c.value_at-r.ensures in
    let low = rw layout at (sym c.is_scalar.ensures ∙ c.if-is_scalar.true) in
    rw layout (its_scalar (entry_found (rw c.in-Entry.is at at)) low)

pub value_at-requires : goal.value_at-requires
value_at-requires c =
    let layout = c.value_at-r.ensures in
    let (f, ts, ms, n, x, at) = c.requires in
    rw layout (atomic_scalar (entry_found (rw c.in-Entry.is at at)) (rw layout at c.if-r-eq-ATOMIC.true)).0

pub returns-then-r-eq-ATOMIC : goal.returns-then-r-eq-ATOMIC
returns-then-r-eq-ATOMIC c f ts ms n x at =
    let layout = c.value_at-r.ensures in
    rw (c.value_at.ensures, layout) (atomic_scalar (entry_found (rw c.in-Entry.is at at)) (rw layout at c.if-r-eq-ATOMIC.true)).1

pub returns-else-r-eq-ATOMIC : goal.returns-else-r-eq-ATOMIC
returns-else-r-eq-ATOMIC c f ts ms n x at =
    let layout = c.value_at-r.ensures in
    let high = rw layout at (sym c.is_scalar.ensures ∙ c.if-is_scalar.false) in
    sym (no_scalar_lem (entry_found (rw c.in-Entry.is at at)) high (rw layout at c.if-r-eq-ATOMIC.false))

pub returns-in-Column : goal.returns-in-Column
returns-in-Column c f ts ms n x at = sym (column_no_scalar (rw c.in-Column.is at at))
