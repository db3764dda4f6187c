use Prim.Native.Nat.{◌+◌, ◌*◌, ◌≤◌}
use Rattle.wgsl.specs.Place.{Shape, span_of, repeated, places_of}
use Rattle.walk_trees.specs.Tree.{Tree}
use Rattle.walk_pieces.specs.Piece.{most_pieces, Added}
use Rattle.walk_pieces.proofs.Added.{MembersAdded}
use Rattle.walk_trees.proofs.Many.{depth}
use Rattle.walk_pieces.proofs.+add_entry_add_many_add_struct.Given as goal

abbrev pub invariant-add_many-loop-i : goal.invariant-add_many-loop-i
invariant-add_many-loop-i l =
    (y : Shape) → Tree l.members l.table l.element y → span_of y ≤ l.stride → l.few ≤ most_pieces → Added l.k l.initial.pieces (λ q. repeated l.i l.stride (λ b. places_of y b) (q + l.at)) (l.at + l.fn.r.count * l.stride) l.few l.pieces

abbrev pub invariant-add_struct-loop-i : goal.invariant-add_struct-loop-i
invariant-add_struct-loop-i l =
    (x : Shape) → Tree l.members l.table l.e x → l.few ≤ most_pieces → MembersAdded l.members l.table l.e l.fn.r l.at l.k l.initial.pieces l.i l.end l.few l.pieces x

abbrev pub decreases-add_entry : goal.decreases-add_entry
decreases-add_entry l = 5 * l.e + 4

abbrev pub decreases-add_many : goal.decreases-add_many
decreases-add_many l = depth l.table.now l.r

abbrev pub decreases-add_struct : goal.decreases-add_struct
decreases-add_struct l = 5 * l.e + 3
