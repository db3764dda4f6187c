-- What covers its bytes is stored as one run; else the fixed part and the tail one after the other, over zeros, which is the whole
-- (crates/walk_decide, proofs/Whole).
-- Assumes nothing.
use mathlib.Core.Path.{◌∙◌}
use native.Mathlib.Omega.{arith}
use Rattle.wgsl.specs.Place.{shape_of}
use Rattle.walk_decide.proofs.Whole.{fixed_room, rest_room, covered_room, stored_cleared, stored_covered}
use Rattle.words.proofs.writing.store.Goals as goal

pub write_run-requires : goal.write_run-requires
write_run-requires c =
    let (t, n, w, l, is, room) = c.requires in
    rw c.run_at-width.ensures (covered_room w c.args.words.now l (omega (arith, is, room)) (rw c.run_at-width.ensures at c.if-width-ne0.true))

pub returns-then-width-ne0 : goal.returns-then-width-ne0
returns-then-width-ne0 c t n w l is room =
    rw c.run_at-width.ensures at c.write_run.ensures
    ∙ stored_covered w _ _ l (omega (arith, is, room)) (rw c.run_at-width.ensures at c.if-width-ne0.true)

pub write_entry-requires : goal.write_entry-requires
write_entry-requires c =
    let (t, n, w, l, is, room) = c.requires in
    (shape_of 0 t, w.tree, rw c.zero.auto.buf (fixed_room w (omega (arith, is, room)) (omega (arith, l))))

pub write_many-requires : goal.write_many-requires
write_many-requires c =
    let (t, n, w, l, is, room) = c.requires in
    (w.rest, w.many, rw (c.write_entry.auto.buf, c.zero.auto.buf) (rest_room w (omega (arith, is, room)) (omega (arith, l))))

pub returns : goal.returns
returns c t n w l is room =
    c.write_many.ensures.written w.rest w.many
    ∙ rw (c.write_entry.ensures.written (shape_of 0 t) w.tree) (stored_cleared w _ _ _ l (rw is at c.zero.ensures))
