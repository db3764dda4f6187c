-- The loop's invariant: of every entry below `k` the lowest broken one is told, whatever file the table is that of.
use mathlib.Core.Path.{◌∙◌}
use native.Mathlib.Omega.{arith}
use lib.ListN.{length-set}
use Rattle.uniform.proofs.LowestBy.{few_entries, lowest_asks, told_on}
use Rattle.uniform.proofs.lowest_broken.Goals as goal

pub overflow_add-k-end : goal.overflow_add-k-end
overflow_add-k-end c = record { fits = omega (arith, few_entries c.requires.2 _ c.requires.3) }

pub lowest_at-requires : goal.lowest_at-requires
lowest_at-requires c =
    let (f, ts, basis, low) = c.requires in
    lowest_asks basis c.loop-k.k (omega arith) _ c.loop-k.invariant.0

pub offset_bounds-told-k : goal.offset_bounds-told-k
offset_bounds-told-k c = record { fits = omega (arith, few_entries c.requires.2 _ c.requires.3) }

pub bounds-told-k : goal.bounds-told-k
bounds-told-k c = omega (arith, few_entries c.requires.2 _ c.requires.3)

pub loop-k-preserved : goal.loop-k-preserved
loop-k-preserved c = (
  length-set c.loop-k.told c.loop-k.k _ ∙ c.loop-k.invariant.0,
  λ f ts basis low. told_on basis c.loop-k.k (omega arith) c.loop-k.told c.loop-k.invariant.0 (c.loop-k.invariant.1 f ts basis low) _ c.lowest_at.ensures,
)

pub offset_bounds-told-e : goal.offset_bounds-told-e
offset_bounds-told-e c = record { fits = omega (arith, few_entries c.requires.2 _ c.requires.3) }

pub bounds-told-e : goal.bounds-told-e
bounds-told-e c = few_entries c.requires.2 _ c.requires.3

pub returns : goal.returns
returns c f ts basis low = c.loop-k.invariant.1 f ts basis low _ (omega arith)
