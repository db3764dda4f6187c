-- Each turn of the loop reads one element (`Repeating`, crates/runs, proofs/OverPlaces).
-- Assumes nothing.
use Rattle.runs.proofs.OverPlaces.{repeating_next, repeating_all}
use Rattle.words_pieces.proofs.reading.read_each.Goals as goal

pub loop-i-preserved : goal.loop-i-preserved
loop-i-preserved c = repeating_next c.loop-i.invariant (c.requires.room c.loop-i.i c.loop-i-test.true).unit_is c.loop-i-test.true c.read_pieces.ensures

pub returns : goal.returns
returns c = repeating_all c.loop-i.invariant c.loop-i-test.false
