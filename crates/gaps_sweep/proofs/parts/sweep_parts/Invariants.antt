use Rattle.runs.specs.Run.{run_places}
use Rattle.gaps_sweep.specs.Sweep.{swept_of}
use Rattle.gaps_sweep.proofs.Sweep.{RepeatSwept}
use Rattle.gaps_sweep.proofs.parts.sweep_parts.Given as goal

abbrev pub invariant-loop-i : goal.invariant-loop-i
invariant-loop-i l =
    RepeatSwept (λ q. run_places l.p.unit l.p.width q) l.p.count l.p.unit l.p.stride l.at (swept_of l.initial.buf l.initial.r) l.i (swept_of l.buf l.r)
