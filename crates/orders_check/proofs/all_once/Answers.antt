-- The loop marks what it passed (`Passed`): a number too large or marked already is refused, any other is marked.
-- Assumes nothing.
use borrow.Author.Rules.{rules}
use mathlib.Core.Path.{refl}
use Rattle.orders_check.proofs.Once.{passed_none, passed_large, passed_again, passed_next}
use Rattle.orders_check.proofs.all_once.Goals as goal

pub loop-position-init : goal.loop-position-init
loop-position-init c = passed_none _ _

pub returns-then-n-p : goal.returns-then-n-p
returns-then-n-p c = passed_large c.loop-position.invariant _ refl c.loop-position-test.true c.if-n-p.true

pub returns-then-seen-p : goal.returns-then-seen-p
returns-then-seen-p c = passed_again c.loop-position.invariant _ refl c.loop-position-test.true (search rules) c.if-seen-p.true

pub loop-position-preserved : goal.loop-position-preserved
loop-position-preserved c =
    passed_next c.loop-position.invariant _ refl c.loop-position-test.true c.if-n-p.false (search rules) c.if-seen-p.false
