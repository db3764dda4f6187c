-- By whether it is open (specs/Promise). Assumes nothing.
use mathlib.Core.Path.{ap, sym, ◌∙◌}
use Rattle.wgsl.proofs.Tail.{closed_extent}
use Rattle.layout_values.specs.declared.value.Value.{Value}
use Rattle.layout_values.specs.Value.{value_of}
use Rattle.orders.proofs.check.end_now.Goals as goal

pub returns : goal.returns
unfolding value_of
returns c =
    λ t x.
    let closed_is = sym (c.opens.ensures t x.value_is x.well_formed) ∙ c.if-opens.false in
    ap (λ (l : Value). l.size) x.value_is ∙ sym (closed_extent 0 t closed_is)
