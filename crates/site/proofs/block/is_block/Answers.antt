-- By the type that the value is of (`IsBlock`).
use Prim.Native.Nat.{◌^◌}
use mathlib.Core.Path.{ap, sym, ◌∙◌}
use native.Mathlib.Omega.{arith}
use lib.Dec.{ltb}
use Rattle.layout_values.specs.declared.value.Value.{Value}
use Rattle.layout_values.specs.Value.{value_of}
use Rattle.site.proofs.IsBlock.{struct_by_kind, no_struct_lem, open_struct_lem, many_members, block_by_mask}
use Rattle.site.proofs.block.is_block.Goals as goal

pub returns-then-l-ne-STRUCT : goal.returns-then-l-ne-STRUCT
unfolding value_of
returns-then-l-ne-STRUCT c t is well = sym (no_struct_lem _ t (λ e. omega (arith, e, ap (λ (l : Value). l.kind) is)))

pub returns-then-opens : goal.returns-then-opens
returns-then-opens c t is well = sym (open_struct_lem _ t (sym (c.opens.ensures t is well) ∙ c.if-opens.true))

pub returns-then-l-gt-MOST_SETTINGS : goal.returns-then-l-gt-MOST_SETTINGS
unfolding value_of
returns-then-l-gt-MOST_SETTINGS c t is well =
    let s = struct_by_kind t (omega (arith, ap (λ (l : Value). l.kind) is)) in
    sym (many_members _ s (omega (arith, ap (λ (l : Value). l.count) is)))

pub returns : goal.returns
unfolding value_of
returns c t is well =
    let count = ap (λ (l : Value). l.count) is in
    let s = struct_by_kind t (omega (arith, ap (λ (l : Value). l.kind) is)) in
    let closed = sym (c.opens.ensures t is well) ∙ c.if-opens.false in
    c.within.ensures ∙ ap (λ n. ltb c.args.mask (2 ^ n)) count ∙ sym (block_by_mask _ s closed (omega (arith, count)))
