-- A bit that is set is taken away (`held_below`), and one that is clear stays so.
use mathlib.Core.Path.{refl, sym, ◌∙◌}
use native.Mathlib.Omega.{arith}
use Rattle.wgsl.specs.Site.{without_bit}
use Rattle.wgsl.proofs.SiteMask.{held_below}
use Rattle.site.proofs.IsBlock.{one_shifted}
use Rattle.site.proofs.mask.without_bit.Goals as goal

pub overflow_sub-result : goal.overflow_sub-result
overflow_sub-result c =
    let x = c in
    let is = sym c.bit.ensures ∙ c.if-bit.true in
    omega (arith, one_shifted x.args.k x.requires, held_below x.args.mask x.args.k is)

pub returns-then-bit : goal.returns-then-bit
unfolding without_bit
returns-then-bit c =
    let x = c in
    let is = sym c.bit.ensures ∙ c.if-bit.true in
    rw (is, one_shifted x.args.k x.requires) refl

pub returns : goal.returns
unfolding without_bit
returns c = let is = sym c.bit.ensures ∙ c.if-bit.false in rw is refl
