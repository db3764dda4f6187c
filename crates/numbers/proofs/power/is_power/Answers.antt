-- One bit is set of powers of two alone.
use mathlib.Core.Path.{◌∙◌}
use Rattle.numbers.proofs.OneBit.{one_is_power}
use Rattle.numbers.proofs.power.is_power.Goals as goal

pub returns : goal.returns
returns c = c.is_power_of_two.ensures ∙ one_is_power c.args.a c.ranges.a.fits
