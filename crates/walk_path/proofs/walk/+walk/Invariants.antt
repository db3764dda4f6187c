use Prim.Native.Nat.{◌-◌}
use lib.ListN.{length}
use Rattle.walk_path.proofs.walk.+walk.Given as goal

abbrev pub decreases-walk : goal.decreases-walk
decreases-walk l = length l.path.now - l.k
