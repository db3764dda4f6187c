use Prim.Native.Nat.{◌+◌, ◌*◌}
use Rattle.walk_trees.specs.Slot.{member_at}
use Rattle.walk_trees.proofs.Many.{depth}
use Rattle.walk.proofs.Steps.{Turn, Walk}
use Rattle.walk.proofs.+visit_entry_visit_many_visit_member_visit_struct.Given as goal

abbrev pub decreases-visit_entry : goal.decreases-visit_entry
decreases-visit_entry g l = 5 * l.e + 4

abbrev pub decreases-visit_many : goal.decreases-visit_many
decreases-visit_many g l = depth l.table.now l.r

abbrev pub decreases-visit_member : goal.decreases-visit_member
decreases-visit_member g l = 5 * (member_at l.members.now l.m).type + 5

abbrev pub decreases-visit_struct : goal.decreases-visit_struct
decreases-visit_struct g l = 5 * l.e + 3

abbrev pub invariant-visit_many-loop-i : goal.invariant-visit_many-loop-i
invariant-visit_many-loop-i g l = Turn g.V.Visitor.passes l.members l.table l.element l.q.stride l.at l.k l.initial.v l.i l.v

abbrev pub invariant-visit_struct-loop-i : goal.invariant-visit_struct-loop-i
invariant-visit_struct-loop-i g l =
    Walk g.V.Visitor.passes l.members l.table l.e l.fn.r l.at (g.V.Visitor.bytes l.initial.v) l.k (g.V.Visitor.words l.initial.v) l.initial.v l.i l.end l.next l.v
