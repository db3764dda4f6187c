-- Each turn of the loop sweeps before one piece (`PiecesSwept`, proofs/Sweep).
-- Assumes nothing.
use Rattle.gaps_sweep.proofs.Sweep.{pieces_start, pieces_next}
use Rattle.gaps_sweep.proofs.pieces.sweep_pieces.Goals as goal

pub loop-j-init : goal.loop-j-init
loop-j-init c = pieces_start _ _ _ c.requires.1

pub loop-j-preserved : goal.loop-j-preserved
loop-j-preserved c = pieces_next c.loop-j.invariant c.loop-j-test.true c.piece_at-p.ensures c.sweep_run-r.ensures
