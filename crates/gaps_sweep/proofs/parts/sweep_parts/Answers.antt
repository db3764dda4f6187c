-- Where parts touch they are one run. Else each turn of the loop does one part of what is left (`RepeatSwept`, proofs/Sweep).
-- Assumes nothing.
use Rattle.runs.specs.Run.{part_places}
use Rattle.runs.proofs.OverPlaces.{run_length, parts_touch}
use Rattle.gaps_sweep.proofs.Sweep.{repeat_next, repeat_all}
use Rattle.gaps_sweep.proofs.parts.sweep_parts.Goals as goal

pub returns-then-p : goal.returns-then-p
returns-then-p c =
    let p = c.args.p in
    rw (c.if-p.true, parts_touch p.count p.unit p.width c.args.at) c.sweep_run.ensures

pub loop-i-preserved : goal.loop-i-preserved
loop-i-preserved c =
    repeat_next c.loop-i.invariant (λ q. run_length c.args.p.unit c.args.p.width q) c.loop-i-test.true c.sweep_run-r.ensures

pub returns : goal.returns
unfolding part_places
returns c = repeat_all c.loop-i.invariant c.loop-i-test.false
