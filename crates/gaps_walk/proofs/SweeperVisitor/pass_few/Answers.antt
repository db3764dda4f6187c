use Rattle.gaps_sweep.proofs.Sweep.{sweep_keeps, keeps_countable}
use Rattle.gaps_walk.proofs.SweeperVisitor.pass_few.Goals as goal

pub invariant_of-self : goal.invariant_of-self
invariant_of-self c = record { countable = keeps_countable (sweep_keeps _ c.sweep_run-self.ensures) c.args.self.now.countable }
