-- The part is that of the target that `locate` finds, or of none (proofs/InBuffer). Assumes nothing.
use Prim.Native.Nat.{ℕ}
use native.Mathlib.Omega.{arith}
use lib.ListN.{replicate, length-replicate}
use Rattle.wgsl.specs.Call.{view_call, target_call}
use Rattle.paths.proofs.InBuffer.{part_there, part_none}
use Rattle.paths.proofs.view.part_at.Goals as goal

pub overflow_add-result : goal.overflow_add-result
unfolding view_call target_call
overflow_add-result c =
    -- any buffer of so many bytes will do
    let long = length-replicate {A = ℕ} c.args.bytes 0 in
    let part = part_there _ _ _ (replicate c.args.bytes 0) (rw c.in-Ok.is at (c.locate.ensures _ long)) in
    omega (arith, part.inside, long, c.ranges.bytes)

pub returns-in-Ok : goal.returns-in-Ok
unfolding view_call target_call
returns-in-Ok c b l = part_there _ _ _ b (rw c.in-Ok.is at (c.locate.ensures b l))

pub returns-in-Err : goal.returns-in-Err
unfolding view_call target_call
returns-in-Err c b l = part_none _ _ _ b (rw c.in-Err.is at (c.locate.ensures b l))
