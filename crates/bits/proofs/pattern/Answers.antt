-- Of a number below 0, -1 less it is not below 0, and its bits are all the others (`Signs`).
use mathlib.Core.Path.{ap, sym}
use mir.Facts.{to_z-of_z}
use Rattle.wgsl.specs.BitField.{pattern_of}
use Rattle.bits.proofs.PatternOf.{Low, low, High, high}
use Rattle.bits.proofs.pattern.Goals as goal

below : (c : goal.Then-e-lt0) → Low c.args.e
below c = low _ c.ranges.e (rw (to_z-of_z c.ranges.e) at c.if-e-lt0.true)

above : (c : goal.Else-e-lt0) → High c.args.e
above c = high _ c.ranges.e (rw (to_z-of_z c.ranges.e) at c.if-e-lt0.false)

pub returns-then-e-lt0 : goal.returns-then-e-lt0
unfolding pattern_of
returns-then-e-lt0 c = rw (below c).back (ap pattern_of (sym (below c).is))

pub returns : goal.returns
unfolding pattern_of
returns c = rw (above c).back (ap pattern_of (sym (above c).is))
