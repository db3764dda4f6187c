-- The loop's invariant: the members that are left, of which the one before ended at `end`, can be placed, and all keep the rule exactly if
-- these do.
-- Assumes nothing.
use Prim.Native.Nat.{◌-◌}
use mathlib.Core.Bool.{not}
use mathlib.Core.Path.{◌≡◌, ap, sym, ◌∙◌}
use native.Mathlib.Omega.{arith}
use borrow.Author.Tests.{not-true, not-false}
use Rattle.uniform_rules.specs.Keeps.{slots_keep}
use Rattle.uniform_rules.proofs.SlotsKeep.{slot_inside, slot_low, next_asks, rest_asks, keep_starts, keep_fails, keep_on}
use Rattle.uniform_rules.proofs.members_keep.Goals as goal

pub overflow_add-first : goal.overflow_add-first
overflow_add-first c = record { fits = omega (arith, (next_asks _ _ _ _ _ c.loop-i.i _ c.loop-i-test.true c.loop-i.invariant.0).inside, c.well_formed.0.0) }

pub slot_after-p-requires : goal.slot_after-p-requires
slot_after-p-requires c = next_asks _ _ _ _ _ c.loop-i.i _ c.loop-i-test.true c.loop-i.invariant.0

pub value_at-v-requires : goal.value_at-v-requires
value_at-v-requires c = slot_inside c.slot_after-p.ensures (next_asks _ _ _ _ _ c.loop-i.i _ c.loop-i-test.true c.loop-i.invariant.0)

pub returns-then-not-start_keeps : goal.returns-then-not-start_keeps
returns-then-not-start_keeps c =
    let fails = sym c.start_keeps.ensures ∙ not-true _ (ap not c.if-not-start_keeps.true) in
    sym (c.loop-i.invariant.1 ∙ keep_fails _ _ _ _ _ c.loop-i.i _ c.loop-i-test.true (record { slot_is = c.slot_after-p.ensures; value_is = c.value_at-v.ensures }) _ fails)

pub earliest_by-earliest-requires : goal.earliest_by-earliest-requires
earliest_by-earliest-requires c = (
  keep_starts _ _ _ (sym c.start_keeps.ensures ∙ not-false _ (ap not c.if-not-start_keeps.false)),
  slot_low c.slot_after-p.ensures (next_asks _ _ _ _ _ c.loop-i.i _ c.loop-i-test.true c.loop-i.invariant.0),
)

pub loop-i-preserved : goal.loop-i-preserved
loop-i-preserved c =
    let keeps = sym c.start_keeps.ensures ∙ not-false _ (ap not c.if-not-start_keeps.false) in (
      rest_asks _ _ _ _ _ c.loop-i.i _ c.loop-i-test.true c.loop-i.invariant.0 c.slot_after-p.ensures,
      c.loop-i.invariant.1
          ∙ rw c.earliest_by-earliest.ensures
          (keep_on _ _ _ _ _ c.loop-i.i _ c.loop-i-test.true (record { slot_is = c.slot_after-p.ensures; value_is = c.value_at-v.ensures }) _ keeps),
    )

pub returns : goal.returns
unfolding slots_keep
returns c =
    let none : c.args.l.count - c.loop-i.i ≡ 0 = omega arith in
    sym (rw none at c.loop-i.invariant.1)
