-- The entry has what a step asks (`SpotCall`).
use Rattle.wgsl.specs.Place.{shape_of}
use Rattle.site.proofs.SpotCall.{standing}
use Rattle.site.proofs.clear.there_in.Goals as goal

pub member_there-requires : goal.member_there-requires
member_there-requires c =
    let start = c in
    let (t, mask, bytes, x) = start.requires in
    (start.args.file.now, x.meant.types, shape_of 0 t, standing x)

pub returns : goal.returns
returns c t mask bytes x = c.member_there.ensures _ x.meant.types (shape_of 0 t) (standing x)
