-- A bit that is set stays, and one that is clear is added (`with_short`).
use mathlib.Core.Path.{refl, sym, ◌∙◌}
use native.Mathlib.Omega.{arith}
use Rattle.wgsl.specs.Site.{with_bit}
use Rattle.wgsl.proofs.SiteMask.{with_short}
use Rattle.site.proofs.IsBlock.{one_shifted}
use Rattle.site.proofs.mask.with_bit.Goals as goal

pub returns-then-bit : goal.returns-then-bit
unfolding with_bit
returns-then-bit c = let is = sym c.bit.ensures ∙ c.if-bit.true in rw is refl

pub overflow_add-result : goal.overflow_add-result
unfolding with_bit
overflow_add-result c =
    let x = c in
    let is = sym c.bit.ensures ∙ c.if-bit.false in
    let short = rw is at (with_short x.args.mask x.args.k 64 x.requires (omega arith)) in
    record { fits = omega (arith, one_shifted x.args.k x.requires, short) }

pub returns : goal.returns
unfolding with_bit
returns c =
    let x = c in
    let is = sym c.bit.ensures ∙ c.if-bit.false in
    rw (is, one_shifted x.args.k x.requires) refl
