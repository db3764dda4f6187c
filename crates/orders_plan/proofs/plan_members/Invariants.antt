use Prim.Native.Nat.{◌-◌}
use Rattle.wgsl.specs.Types.{Members}
use Rattle.orders_members.specs.Entries.{Struct}
use Rattle.orders_plan.proofs.Planned.{Plan}
use Rattle.orders_plan.proofs.plan_members.Given as goal

abbrev pub invariant-loop-step : goal.invariant-loop-step
invariant-loop-step l = (ms : Members) → Struct l.members l.table l.fn.l ms → Plan ms l.initial.order l.next (32 - l.step) l.order
