-- What the member step leads to (crates/walk_path, proofs/Enters), and then the path (`SpotFound`).
use mathlib.Core.Path.{◌∙◌}
use native.Mathlib.Omega.{arith}
use Rattle.walk_path.proofs.Enters.{next}
use Rattle.site.proofs.SpotFound.{member_there, member_none}
use Rattle.site.proofs.spot.spot_at.Goals as goal

pub spot_from-requires : goal.spot_from-requires
spot_from-requires c =
    let (f, ts, x, at) = c.requires in
    let there = next at (rw c.in-Ok.is at (c.enter.ensures f ts x at)) in
    (f, ts, there.y, there.at, there.size_is, omega (arith, there.inside, at.within))

pub returns-in-Err : goal.returns-in-Err
returns-in-Err c f ts x at = rw c.at.ensures (member_none x _ _ ts _ (rw c.in-Err.is at (c.enter.ensures f ts x at)))

pub returns : goal.returns
returns c f ts x at =
    let there = next at (rw c.in-Ok.is at (c.enter.ensures f ts x at)) in
    c.spot_from.ensures f ts there.y there.at there.size_is ∙ member_there x _ _ (there.enters 0)
