-- Each turn of the loop sweeps one element (`RepeatSwept`, proofs/Sweep).
-- Assumes nothing.
use Rattle.gaps_sweep.proofs.Sweep.{repeat_next}
use Rattle.gaps_sweep.proofs.pieces.sweep_each.Goals as goal

pub loop-i-preserved : goal.loop-i-preserved
loop-i-preserved c =
    repeat_next c.loop-i.invariant (c.requires.0.2.room c.loop-i.i c.loop-i-test.true).unit_is c.loop-i-test.true
    c.sweep_pieces-r.ensures
