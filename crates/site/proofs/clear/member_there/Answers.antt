-- What the member step leads to (`ClearCall`).
use Rattle.walk_path.proofs.Enters.{next}
use Rattle.site.proofs.ClearCall.{there_good, there_none}
use Rattle.site.proofs.clear.member_there.Goals as goal

pub returns-in-Ok : goal.returns-in-Ok
returns-in-Ok c f ts x at = there_good x _ ((next at (rw c.in-Ok.is at (c.enter.ensures f ts x at))).enters 0)

pub returns-in-Err : goal.returns-in-Err
returns-in-Err c f ts x at = rw c.at.ensures (there_none x _ ts _ (rw c.in-Err.is at (c.enter.ensures f ts x at)))
