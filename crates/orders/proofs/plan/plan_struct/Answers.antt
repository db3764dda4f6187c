-- By how long the list is (proofs/OrderOf). Assumes nothing.
use native.Mathlib.Omega.{arith}
use Rattle.said.proofs.Answered.{answered_refused, answered_done}
use Rattle.orders.proofs.OrderOf.{plan_short, plan_there}
use Rattle.orders.proofs.plan.plan_struct.Goals as goal

pub returns-then-order-l : goal.returns-then-order-l
returns-then-order-l c = λ ms s. answered_refused _ (plan_short ms _ (omega (arith, c.if-order-l.true, s.count_is)))

pub returns : goal.returns
returns c = λ ms s. answered_done _ (plan_there ms _ (omega (arith, c.if-order-l.false, s.count_is))) s.count_is (c.plan_members.ensures ms s)
