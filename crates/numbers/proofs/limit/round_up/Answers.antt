-- A power of two of 32 bits is at most 2 ^ 31, so that `up_power` has room; what it gives is a number of 32 bits, or past the limit.
use mathlib.Core.Path.{ap, ◌∙◌}
use native.Mathlib.Omega.{arith}
use Rattle.numbers.specs.Limit.{limited}
use Rattle.wgsl.proofs.Power.{power_bounded}
use borrow.Author.Rules.{rules}
use Rattle.numbers.proofs.Limited.{limited_ok}
use Rattle.numbers.proofs.limit.round_up.Goals as goal

pub up_power-requires : goal.up_power-requires
up_power-requires c =
    let a = c.before in
    let p = a.requires in
    (rw a.wide.ensures.0 p, omega (arith, power_bounded p (search rules), a.wide.ensures.0), omega arith)

pub returns : goal.returns
returns c =
    c.ok.ensures.value ∙ limited_ok _ _ c.try_from.ensures
    ∙ ap limited (rw (c.wide.ensures.0, c.wide-2.ensures.0) at c.up_power.ensures)
