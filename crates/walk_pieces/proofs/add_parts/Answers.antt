-- Where parts touch they are one run. Else each turn adds one of them (proofs/Added).
-- Assumes nothing.
use Prim.Native.Nat.{◌+◌, ◌*◌, ◌≤◌}
use mathlib.Core.Path.{refl}
use native.Mathlib.Nat.{mul_assoc}
use native.Mathlib.Omega.{arith}
use Rattle.wgsl.specs.Place.{repeated}
use Rattle.runs.specs.Run.{run_places, part_places}
use Rattle.runs.proofs.OverPlaces.{parts_touch}
use Rattle.walk_pieces.proofs.Added.{added_none, added_as, part_ends, added_part, added_parts}
use Rattle.walk_pieces.proofs.add_parts.Goals as goal

pub returns-then-p : goal.returns-then-p
returns-then-p c few =
    let p = c.args.p in
    let low : c.args.at + p.count * p.unit * p.width ≤ c.args.at + p.count * p.stride = rw (c.if-p.true, mul_assoc p.count p.unit p.width) (omega arith) in
    added_as (c.add_run.ensures few) low (λ q. rw (← parts_touch p.count p.unit p.width (q + c.args.at), ← c.if-p.true) refl)

pub loop-i-init : goal.loop-i-init
unfolding repeated
loop-i-init c few = added_none _ _ _

pub loop-i-preserved : goal.loop-i-preserved
loop-i-preserved c few =
    let p = c.args.p in
    added_part (λ b. run_places p.unit p.width b) p.count c.loop-i.i p.stride c.args.at
    (c.loop-i.invariant c.if-few-gt-MOST.false) (c.add_run-few.ensures few) (part_ends _ _ _ _ _ c.loop-i-test.true c.requires.fits)

pub returns : goal.returns
unfolding part_places
returns c few =
    let p = c.args.p in
    added_parts (λ b. run_places p.unit p.width b) p.count c.loop-i.i p.stride c.args.at (c.loop-i.invariant few) (omega arith)
