-- What is left of the planned order, from the place that is reached on, makes of the list what the whole of it makes of the list as it was.
-- Assumes nothing.
use Prim.Native.Nat.{suc, ◌+◌, ◌-◌}
use mathlib.Core.Path.{◌≡◌}
use native.Mathlib.Omega.{arith}
use Rattle.orders_plan.proofs.Planned.{plan_starts, key_is, plan_room, plan_next, last_room, plan_done}
use Rattle.orders_plan.proofs.plan_members.Goals as goal

pub loop-step-init : goal.loop-step-init
loop-step-init c = λ ms s. plan_starts s _

pub put_keyed-next-requires : goal.put_keyed-next-requires
put_keyed-next-requires c =
    let pre = c.requires in
    let left : 32 - c.loop-step.step ≡ suc (31 - c.loop-step.step) = omega arith in
    (pre.0, pre.1, rw (key_is (31 - c.loop-step.step) (omega arith)) (plan_room (rw left at (c.loop-step.invariant pre.0 pre.1)) pre.2))

pub loop-step-preserved : goal.loop-step-preserved
loop-step-preserved c = λ ms s.
    let left : 32 - c.loop-step.step ≡ suc (31 - c.loop-step.step) = omega arith in
    let after : 32 - (c.loop-step.step + 1) ≡ 31 - c.loop-step.step = omega arith in
    rw (c.put_keyed-next.ensures.place ms s, c.put_keyed-next.ensures.list ms s, key_is (31 - c.loop-step.step) (omega arith), after)
    (plan_next (rw left at (c.loop-step.invariant ms s)))

pub put_keyed-requires : goal.put_keyed-requires
put_keyed-requires c =
    let pre = c.requires in
    let none : 32 - c.loop-step.step ≡ 0 = omega arith in
    (pre.0, pre.1, last_room pre.1 (rw none at (c.loop-step.invariant pre.0 pre.1)) pre.2)

pub returns : goal.returns
returns c = λ ms s.
    let pre = c.requires in
    let none : 32 - c.loop-step.step ≡ 0 = omega arith in
    rw (c.put_keyed.ensures.list ms s)
    (plan_done s (rw none at (c.loop-step.invariant ms s)) (omega (arith, pre.2, pre.1.count_is, s.count_is)))
