-- 15, or the member (`InBoth`, `SpotCall`).
use mathlib.Core.Path.{sym, ◌∙◌}
use Rattle.wgsl.specs.Place.{shape_of}
use Rattle.site.proofs.InBoth.{in_short, in_both}
use Rattle.site.proofs.SpotCall.{standing, size_is, in_these, spot_stopped, spot_goes}
use Rattle.site.proofs.spot.spot_in.Goals as goal

pub spot_at-requires : goal.spot_at-requires
spot_at-requires c =
    let (t, mask, x) = c.requires in
    (c.args.file.now, x.meant.types, shape_of 0 t, standing x)

pub returns-then-not-both_have : goal.returns-then-not-both_have
returns-then-not-both_have c t mask a b x la lb =
    let short = sym (rw (size_is x, ← la, ← lb) at c.both_have.ensures) ∙ c.if-not-both_have.true in
    spot_stopped _ _ _ _ mask a b (in_short _ _ mask a b (in_these a b x la lb) short)

pub returns : goal.returns
returns c t mask a b x la lb =
    let roomy = sym (rw (size_is x, ← la, ← lb) at c.both_have.ensures) ∙ c.if-not-both_have.false in
    c.spot_at.ensures _ x.meant.types (shape_of 0 t) (standing x)
    ∙ spot_goes _ _ _ _ mask a b (in_both _ _ mask a b (in_these a b x la lb) roomy)
