use Rattle.wgsl.specs.Types.{Members}
use Rattle.orders_members.specs.Entries.{Struct}
use Rattle.orders_plan.proofs.Left.{Left}
use Rattle.orders_plan.proofs.put_keyed.Given as goal

abbrev pub invariant-loop-i : goal.invariant-loop-i
invariant-loop-i l =
    (ms : Members) → Struct l.members l.table l.fn.l ms →
    Left (record { bytes = l.members; table = l.table; l = l.fn.l; key = l.key; old = l.initial.order; k = l.k; all = ms }) l.i l.next l.order
