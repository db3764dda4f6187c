use Rattle.gaps_sweep.specs.Sweep.{swept_of}
use Rattle.gaps_sweep.proofs.Sweep.{PiecesSwept}
use Rattle.gaps_sweep.proofs.pieces.sweep_pieces.Given as goal

abbrev pub invariant-loop-j : goal.invariant-loop-j
invariant-loop-j l = PiecesSwept l.few l.pieces l.at (swept_of l.initial.buf l.initial.r) l.j (swept_of l.buf l.r)
