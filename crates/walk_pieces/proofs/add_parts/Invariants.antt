use Prim.Native.Nat.{◌+◌, ◌*◌, ◌≤◌}
use Rattle.wgsl.specs.Place.{repeated}
use Rattle.runs.specs.Run.{run_places}
use Rattle.walk_pieces.specs.Piece.{most_pieces, Added}
use Rattle.walk_pieces.proofs.add_parts.Given as goal

abbrev pub invariant-loop-i : goal.invariant-loop-i
invariant-loop-i l =
    l.few ≤ most_pieces → Added l.k l.initial.pieces (λ q. repeated l.i l.p.stride (λ b. run_places l.p.unit l.p.width b) (q + l.at)) (l.at + l.p.count * l.p.stride) l.few l.pieces
