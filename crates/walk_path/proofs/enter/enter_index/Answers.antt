-- Kinds 7 to 10 have parts, which are numbered below their count.
use native.Mathlib.Omega.{arith}
use Rattle.walk_path.specs.Way.{Enters}
use Rattle.walk_path.proofs.IndexStep.{entry_inside, entry_found, no_index, past_end}
use Rattle.walk_path.proofs.enter.enter_index.Goals as goal

pub value_at-kind-requires : goal.value_at-kind-requires
value_at-kind-requires c = let (f, ts, ms, x, at) = c.requires in entry_inside at

pub returns-then-kind-lt-VECTOR : goal.returns-then-kind-lt-VECTOR
unfolding Enters
returns-then-kind-lt-VECTOR c f ts ms x at =
    let small = rw c.value_at-kind.ensures at c.if-kind-lt-VECTOR.true in
    no_index (entry_found at) (λ low high. omega (arith, small)) _

pub returns-then-kind-gt-RUNTIME : goal.returns-then-kind-gt-RUNTIME
unfolding Enters
returns-then-kind-gt-RUNTIME c f ts ms x at =
    let large = rw c.value_at-kind.ensures at c.if-kind-gt-RUNTIME.true in
    no_index (entry_found at) (λ low high. omega (arith, large)) _

pub parts_at-requires : goal.parts_at-requires
parts_at-requires c = let (f, ts, ms, x, at) = c.requires in entry_inside at

pub returns-then-parts_at-number : goal.returns-then-parts_at-number
unfolding Enters
returns-then-parts_at-number c f ts ms x at =
    let layout = c.value_at-kind.ensures in
    past_end (entry_found at) (rw layout at c.if-kind-lt-VECTOR.false) (rw layout at c.if-kind-gt-RUNTIME.false) _
    (rw c.parts_at.ensures at c.if-parts_at-number.true)

pub returns : goal.returns
returns c f ts ms x at =
    let layout = c.value_at-kind.ensures in
    c.enter_part.ensures f ts ms x at
    (record {
      low = rw layout at c.if-kind-lt-VECTOR.false;
      high = rw layout at c.if-kind-gt-RUNTIME.false;
      inside = rw c.parts_at.ensures at c.if-parts_at-number.false;
    })
