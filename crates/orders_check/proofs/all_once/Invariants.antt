use Rattle.orders_check.proofs.Once.{Passed}
use Rattle.orders_check.proofs.all_once.Given as goal

abbrev pub invariant-loop-position : goal.invariant-loop-position
invariant-loop-position l = Passed l.order l.n l.seen l.position-index
