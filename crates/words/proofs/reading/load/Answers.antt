-- The fixed part and the tail are loaded one after the other, which is the whole (crates/walk_decide, proofs/Whole).
-- Assumes nothing.
use mathlib.Core.Path.{◌∙◌}
use Rattle.wgsl.specs.Place.{shape_of}
use Rattle.walk_decide.proofs.Whole.{fixed_room, rest_room, loaded_whole}
use Rattle.words.proofs.reading.load.Goals as goal

pub read_entry-requires : goal.read_entry-requires
read_entry-requires c = let pre = c.requires in (shape_of 0 pre.0, pre.2.tree, fixed_room pre.2 pre.4 pre.3)

pub read_many-requires : goal.read_many-requires
read_many-requires c =
    let pre = c.requires in
    (pre.2.rest, pre.2.many, rw c.read_entry.auto.words (rest_room pre.2 pre.4 pre.3))

pub returns : goal.returns
returns c t n w h =
    c.read_many.ensures.filled w.rest w.many
    ∙ rw (c.read_entry.ensures.filled (shape_of 0 t) w.tree) (loaded_whole w _ _ h)
