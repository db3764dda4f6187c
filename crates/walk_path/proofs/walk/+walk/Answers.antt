-- A walk meets its contract: each step enters the place that it stands at, and the steps that are left get fewer.
use Prim.Native.Nat.{ℕ, ◌<◌}
use mathlib.Core.List.{List}
use native.Mathlib.Omega.{arith}
use lib.Arith.{lt_of_le-ne}
use lib.ListN.{length, get_or}
use Rattle.wgsl.specs.Types.{Ty}
use Rattle.wgsl.specs.Place.{Shape}
use Rattle.wgsl.specs.Path.{step_of}
use Rattle.walk_path.specs.Way.{Standing, Enters}
use Rattle.walk_path.proofs.Enters.{Next, next, walk_end, walk_on, walk_stops}
use Rattle.walk_path.proofs.walk.+walk.Goals.{After-enter, In-Ok}
use Rattle.walk_path.proofs.walk.+walk.Goals as goal

-- a step is left
more : (t : ℕ) (c : After-enter t) → c.args.k < length c.args.path.now
more t c =
    let (f, ts, x, at, size, low, inside) = c.requires in
    lt_of_le-ne inside c.if-k-path.false

-- what the step leads to
leads : (t : ℕ) (c : In-Ok t) →
    let a = c.args in
    (f : List ℕ) (ts : List Ty) (x : Shape) → Standing f ts a.members.now a.table.now a.n a.p x →
    Next f ts a.members.now a.table.now a.n c.in-Ok.inner x (step_of (get_or a.path.now a.k 0))
leads t c f ts x at = next at (rw (c.in-Ok.is, c.from.ensures) at (c.enter.ensures f ts x at))

pub returns-then-k-path : goal.returns-then-k-path
returns-then-k-path t c f ts x at size =
    rw (walk_end c.args.path.now c.args.k c.args.offset x c.if-k-path.true, size, c.kind_in.ensures f ts _ _ x at)

pub returns-in-Err : goal.returns-in-Err
returns-in-Err t c f ts x at size =
    rw c.at.ensures
    (walk_stops c.args.path.now c.args.k c.args.offset x (more t (goal.at.returns-in-Err t c).After-enter) ts c.args.n c.in-Err.step
    (rw (c.in-Err.is, c.from.ensures) at (c.enter.ensures f ts x at)))

pub overflow_add-offset : goal.overflow_add-offset
overflow_add-offset t c =
    let (f, ts, x, at, size, low, inside) = c.requires in
    record { fits = omega (arith, low, (leads t (goal.at.overflow_add-offset t c).In-Ok f ts x at).inside) }

pub walk-requires : goal.walk-requires
walk-requires t c =
    let (f, ts, x, at, size, low, inside) = c.requires in
    let there = leads t (goal.at.walk-requires t c).In-Ok f ts x at in
    let left = more t (goal.at.walk-requires t c).After-enter in (
      omega (arith, left, c.decreases),
      (f, ts, there.y, there.at, there.size_is, omega (arith, low, there.inside), omega (arith, left)),
    )

pub returns : goal.returns
returns t c f ts x at size =
    let there = leads t (goal.at.returns t c).In-Ok f ts x at in
    rw (walk_on c.args.path.now c.args.k c.args.offset x (more t (goal.at.returns t c).After-enter) _ there.y (there.enters c.args.k))
    (c.walk.ensures f ts there.y there.at there.size_is)
