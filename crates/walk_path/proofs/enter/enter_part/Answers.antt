-- A part lies its number of strides on: a column over the scalar's entry, or the entry itself.
use Rattle.walk_path.proofs.IndexStep.{entry_inside, part_inside, part_size, column_enters, part_enters}
use Rattle.walk_path.proofs.enter.enter_part.Goals as goal

pub value_at-r-requires : goal.value_at-r-requires
value_at-r-requires c = let (f, ts, ms, x, at, has) = c.requires in entry_inside at

pub value_at-requires : goal.value_at-requires
value_at-requires c =
    let (f, ts, ms, x, at, has) = c.requires in
    rw c.value_at-r.ensures (part_inside at has)

pub returns-then-r-eq-MATRIX : goal.returns-then-r-eq-MATRIX
returns-then-r-eq-MATRIX c =
    let is = rw c.value_at-r.ensures at c.if-r-eq-MATRIX.true in
    rw (c.value_at.ensures, c.value_at-r.ensures) (λ f ts ms x at has. column_enters at has is)

pub into_entry-requires : goal.into_entry-requires
into_entry-requires c =
    let (f, ts, ms, x, at, has) = c.requires in
    let other = rw c.value_at-r.ensures at c.if-r-eq-MATRIX.false in
    rw c.value_at-r.ensures (part_inside at has, part_size at has other)

pub returns : goal.returns
returns c =
    let other = rw c.value_at-r.ensures at c.if-r-eq-MATRIX.false in
    rw (c.into_entry.ensures, c.value_at-r.ensures) (λ f ts ms x at has. part_enters at has other)
