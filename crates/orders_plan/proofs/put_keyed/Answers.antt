-- The loop's invariant: the positions of the members that are left, from the place that is reached on, make of the list what those of all
-- members make of the list as it was. Assumes nothing.
use mathlib.Core.Path.{sym, ◌∙◌}
use native.Mathlib.Omega.{arith}
use borrow.Author.Rules.{rules}
use Rattle.orders_plan.proofs.Left.{all_left, same_long, first_left, place_left, left_keyed, left_other, none_left}
use Rattle.orders_plan.proofs.put_keyed.Goals as goal
use Rattle.orders_plan.proofs.put_keyed.Goals.{then-member_key-key, else-member_key-key}

pub loop-i-init : goal.loop-i-init
loop-i-init c = λ ms s. all_left _ s

pub overflow_add-first : goal.overflow_add-first
overflow_add-first c = record { fits = omega (arith, (first_left c.loop-i-test.true (c.loop-i.invariant c.requires.0 c.requires.1)).entered.inside, c.well_formed.0.0) }

pub member_key-requires : goal.member_key-requires
member_key-requires c =
    let f = first_left c.loop-i-test.true (c.loop-i.invariant c.requires.0 c.requires.1) in
    (f.type, f.size, f.align, f.entered)

pub bounds-order-next : goal.bounds-order-next
bounds-order-next c =
    let left = c.loop-i.invariant c.requires.0 c.requires.1 in
    let f = first_left c.loop-i-test.true left in
    let is = sym (c.member_key.ensures f.type f.size f.align f.entered) ∙ c.if-member_key-key.true in
    omega (arith, place_left f is, same_long left, c.requires.2)

pub offset_bounds-order-next : goal.offset_bounds-order-next
offset_bounds-order-next c = let below = bounds-order-next c in search rules

pub overflow_add-next : goal.overflow_add-next
overflow_add-next c = let below = bounds-order-next c in search rules

pub loop-i-preserved : goal.loop-i-preserved
loop-i-preserved c = λ ms s.
    let f = first_left c.loop-i-test.true (c.loop-i.invariant ms s) in
    let is = c.member_key.ensures f.type f.size f.align f.entered in
    elim c.if-member_key-key.branch [
      | then-member_key-key w ↦ rw (w.order-is, w.next-is) (left_keyed f (sym is ∙ w.if-member_key-key.true))
      | else-member_key-key w ↦ rw (w.order-is, w.next-is) (left_other f (λ k. w.if-member_key-key.false (is ∙ k)))
    ]

pub returns : goal.returns
returns c =
    record {
      place = (λ ms s. (none_left c.loop-i-test.false (c.loop-i.invariant ms s)).0);
      list = (λ ms s. (none_left c.loop-i-test.false (c.loop-i.invariant ms s)).1);
    }
