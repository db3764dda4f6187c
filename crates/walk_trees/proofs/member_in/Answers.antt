-- The loop's invariant: the member that is asked for is the one as far on from those that are left, of which the one before ended at `end`.
use Prim.Native.Nat.{◌+◌, ◌-◌, ◌*◌}
use mathlib.Core.Path.{◌≡◌, sym, ◌∙◌}
use native.Mathlib.Omega.{arith}
use Rattle.walk_trees.specs.Slot.{SlotAsks, slot_in}
use Rattle.walk_trees.proofs.SlotIn.{next_placeable, placeables_next, placed_next}
use Rattle.walk_trees.proofs.member_in.Goals.{After-loop-i}
use Rattle.walk_trees.proofs.member_in.Goals as goal

-- the member that is asked for can be placed
last : (c : After-loop-i) → SlotAsks c.args.members.now c.args.table.now (c.args.l.reference * c.args.l.stride + c.args.l.stride * c.args.number) c.loop-i.end
last c =
    let i : c.args.number ≡ c.loop-i.i = omega arith in
    rw i (next_placeable _ _ _ _ _ _ c.loop-i.invariant.0)

pub overflow_add-first : goal.overflow_add-first
overflow_add-first c = record { fits = omega (arith, (next_placeable _ _ _ _ _ _ c.loop-i.invariant.0).inside, c.well_formed.0.0) }

pub slot_after-end-requires : goal.slot_after-end-requires
slot_after-end-requires c = next_placeable _ _ _ _ _ _ c.loop-i.invariant.0

pub loop-i-preserved : goal.loop-i-preserved
loop-i-preserved c =
    let l = c.loop-i in
    let more = c.loop-i-test.true in
    let is = c.slot_after-end.ensures in
    (placeables_next _ _ _ _ _ l.i _ more is l.invariant.0, l.invariant.1 ∙ placed_next _ _ _ _ _ l.i _ more is)

pub overflow_add-first-2 : goal.overflow_add-first-2
overflow_add-first-2 c = record { fits = omega (arith, (last (goal.at.overflow_add-first-2 c).After-loop-i).inside, c.well_formed.0.0) }

pub slot_after-requires : goal.slot_after-requires
slot_after-requires c = last (goal.at.slot_after-requires c).After-loop-i

pub returns : goal.returns
unfolding slot_in
returns c =
    let i : c.loop-i.i ≡ c.args.number = omega arith in
    let none : c.args.number - c.args.number ≡ 0 = omega arith in
    c.slot_after.ensures ∙ sym (rw (i, none) at c.loop-i.invariant.1)
