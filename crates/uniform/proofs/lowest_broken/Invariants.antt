use Prim.Native.Nat.{ℕ, ◌<◌}
use mathlib.Core.List.{List}
use mathlib.Core.Path.{◌≡◌}
use lib.ListN.{length, get_or}
use Rattle.wgsl.specs.Types.{Ty}
use Rattle.walk_shapes.specs.Basis.{Basis}
use Rattle.uniform.specs.Lowest.{IsLowest}
use Rattle.uniform.proofs.lowest_broken.Given as goal

abbrev pub invariant-loop-k : goal.invariant-loop-k
invariant-loop-k l =
    (length l.told ≡ 256)
    × ((f : List ℕ) (ts : List Ty) → Basis f ts l.members l.table → l.e < length ts → (j : ℕ) → j < l.k → IsLowest f ts j (get_or l.told j 0))
