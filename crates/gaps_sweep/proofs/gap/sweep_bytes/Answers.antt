-- Each turn of the loop sweeps one byte of what is left.
-- Assumes nothing.
use mathlib.Core.Path.{refl, sym, ◌∙◌}
use Rattle.gaps_sweep.specs.Sweep.{swept_of, swept_to}
use Rattle.gaps_sweep.proofs.Sweep.{keeps_byte, keeps_countable, sweep_next, sweep_none}
use Rattle.gaps_sweep.proofs.gap.sweep_bytes.Goals as goal

pub loop-i-init : goal.loop-i-init
unfolding swept_to
loop-i-init c = (refl, c.requires.1)

pub loop-i-preserved : goal.loop-i-preserved
loop-i-preserved c =
    let l = c.loop-i in (
      rw c.sweep_byte-r.ensures (sweep_next _ l.i _ c.loop-i-test.true ∙ l.invariant.0),
      rw c.sweep_byte-r.ensures (keeps_countable (keeps_byte l.i (swept_of l.buf l.r)) l.invariant.1),
    )

pub returns : goal.returns
returns c = sym (sweep_none _ c.loop-i.i _ c.loop-i-test.false) ∙ c.loop-i.invariant.0
