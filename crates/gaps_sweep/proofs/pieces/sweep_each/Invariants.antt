use Rattle.walk_pieces.specs.Piece.{pieces_places}
use Rattle.gaps_sweep.specs.Sweep.{swept_of}
use Rattle.gaps_sweep.proofs.Sweep.{RepeatSwept}
use Rattle.gaps_sweep.proofs.pieces.sweep_each.Given as goal

abbrev pub invariant-loop-i : goal.invariant-loop-i
invariant-loop-i l =
    RepeatSwept (λ q. pieces_places l.few l.pieces q) l.p.count l.p.unit l.p.stride l.at (swept_of l.initial.buf l.initial.r) l.i (swept_of l.buf l.r)
