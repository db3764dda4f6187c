use Rattle.runs.specs.Fold.{loading}
use Rattle.walk_pieces.specs.Piece.{pieces_places}
use Rattle.runs.proofs.OverPlaces.{Repeating}
use Rattle.words_pieces.proofs.reading.read_each.Given as goal

abbrev pub invariant-loop-i : goal.invariant-loop-i
invariant-loop-i l =
    Repeating (loading l.buf) (λ q. pieces_places l.few l.pieces q) l.p.count l.p.unit l.p.stride l.at l.k l.initial.words l.i l.words
