-- What was passed is zero.
-- Assumes nothing.
use mathlib.Core.Path.{sym, ◌∙◌}
use Rattle.gaps_sweep.proofs.Sweep.{load_zero, zero_on}
use Rattle.gaps_sweep.proofs.gap.are_zero.Goals as goal

pub loop-i-preserved : goal.loop-i-preserved
loop-i-preserved c =
    let l = c.loop-i in
    let call = c.u32_at in
    let b = c.args.buf.now in
    zero_on b _ l.i _ l.invariant (load_zero 4 b l.i (sym call.ensures ∙ c.if-u32_at-ne0.false))
