-- The members one after the other, in the order: after each turn the loop knows those so far (`Walked`), whatever the struct's members are.
--
-- In order: the loop; past it, where the last position is reached.
-- Assumes nothing.
use mathlib.Core.Path.{refl, sym, ◌∙◌}
use native.Mathlib.Omega.{arith}
use borrow.Author.Rules.{rules}
use Rattle.orders_check.proofs.Entries.{struct_some, ordered, before_last, before_is, at_last, entry_inside, entry_type, coming}
use Rattle.orders_check.proofs.LaidEnd.{ok_is}
use Rattle.orders_check.proofs.Walked.{walked_none, walked_meets, walked_next, walked_rule, walked_last, walked_all}
use Rattle.orders_check.proofs.end_in.Goals as goal

pub overflow_sub-last : goal.overflow_sub-last
overflow_sub-last c = struct_some c.requires.1

-- ---- the loop

pub loop-position-init : goal.loop-position-init
loop-position-init c = λ ms o. walked_none ms _ c.no_members-past.ensures

pub member_at-m-requires : goal.member_at-m-requires
member_at-m-requires c =
    let o = ordered c.requires.1 c.requires.2 c.requires.3 c.requires.1 in
    let more = before_last o _ c.loop-position-test.true in
    entry_inside o _ (omega arith) _ (before_is o _ c.loop-position-test.true)

pub overflow_mul-first : goal.overflow_mul-first
overflow_mul-first c = let inside = member_at-m-requires c in search rules

pub value_at-requires : goal.value_at-requires
value_at-requires c =
    let o = ordered c.requires.1 c.requires.2 c.requires.3 c.requires.1 in
    let more = before_last o _ c.loop-position-test.true in
    entry_type o _ (omega arith) _ (before_is o _ c.loop-position-test.true) _ c.member_at-m.ensures _ refl

pub step-requires : goal.step-requires
step-requires c =
    let o = ordered c.requires.1 c.requires.2 c.requires.3 c.requires.1 in
    let more = before_last o _ c.loop-position-test.true in
    let m = coming o _ (omega arith) _ (before_is o _ c.loop-position-test.true) _ c.member_at-m.ensures _ refl _ c.value_at.ensures in
    (_, _, walked_meets (c.loop-position.invariant _ o) m)

pub returns-in_err-past : goal.returns-in_err-past
returns-in_err-past c k ms new s are =
    let o = ordered c.requires.1 c.requires.2 c.requires.3 s in
    let more = before_last o _ c.loop-position-test.true in
    let d = c.loop-position.invariant ms o in
    let m = coming o _ (omega arith) _ (before_is o _ c.loop-position-test.true) _ c.member_at-m.ensures _ refl _ c.value_at.ensures in
    rw c.from_residual.ensures
    (walked_rule o d m (omega arith) k new _ more (c.step.ensures _ _ (walked_meets d m)) (sym c.ok.ensures.value ∙ c.in_err-past.was) are)

pub loop-position-preserved : goal.loop-position-preserved
loop-position-preserved c = λ ms o.
    let more = before_last o _ c.loop-position-test.true in
    let d = c.loop-position.invariant ms o in
    let m = coming o _ (omega arith) _ (before_is o _ c.loop-position-test.true) _ c.member_at-m.ensures _ refl _ c.value_at.ensures in
    walked_next o d m (omega arith) _ (sym (ok_is _ (sym c.ok.ensures.value ∙ c.in_ok-past.was)) ∙ c.step.ensures _ _ (walked_meets d m))

-- ---- past it

pub bounds-order-last : goal.bounds-order-last
bounds-order-last c = omega (arith, (ordered c.requires.1 c.requires.2 c.requires.3 c.requires.1).length_is)

pub member_at-m-requires-2 : goal.member_at-m-requires-2
member_at-m-requires-2 c = entry_inside (ordered c.requires.1 c.requires.2 c.requires.3 c.requires.1) _ (omega arith) _ refl

pub overflow_mul-first-2 : goal.overflow_mul-first-2
overflow_mul-first-2 c = let inside = member_at-m-requires-2 c in search rules

pub value_at-requires-2 : goal.value_at-requires-2
value_at-requires-2 c =
    entry_type (ordered c.requires.1 c.requires.2 c.requires.3 c.requires.1) _ (omega arith) _ refl _ c.member_at-m-2.ensures _ refl

pub end_after-requires : goal.end_after-requires
end_after-requires c =
    let o = ordered c.requires.1 c.requires.2 c.requires.3 c.requires.1 in
    let reached = at_last o _ c.loop-position.auto.position-index-end c.loop-position-test.false in
    let m = coming o _ (omega arith) _ refl _ c.member_at-m-2.ensures _ refl _ c.value_at-2.ensures in
    (_, _, walked_last o (rw reached at (c.loop-position.invariant _ o)) m (omega arith))

pub returns : goal.returns
returns c k ms new s are =
    let o = ordered c.requires.1 c.requires.2 c.requires.3 s in
    let reached = at_last o _ c.loop-position.auto.position-index-end c.loop-position-test.false in
    let d = rw reached at (c.loop-position.invariant ms o) in
    let m = coming o _ (omega arith) _ refl _ c.member_at-m-2.ensures _ refl _ c.value_at-2.ensures in
    rw (walked_all o d m (omega arith) new refl are)
    (c.end_after.ensures k _ _ (walked_last o d m (omega arith)))
