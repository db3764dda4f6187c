use Rattle.wgsl.specs.Types.{Members}
use Rattle.orders_check.proofs.Entries.{Ordered}
use Rattle.orders_check.proofs.Walked.{Walked}
use Rattle.orders_check.proofs.end_in.Given as goal

abbrev pub invariant-loop-position : goal.invariant-loop-position
invariant-loop-position l =
    (ms : Members) → Ordered l.members l.table l.order l.first l.length l.last ms → Walked ms l.order l.position-index l.past
