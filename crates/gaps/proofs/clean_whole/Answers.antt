-- The fixed part and the tail are swept one after the other, and then what is left up to the extent: the whole cleaned (proofs/CleanType).
-- Assumes nothing.
use mathlib.Core.Path.{ap}
use native.Mathlib.Omega.{arith}
use Rattle.wgsl.specs.Place.{shape_of, word_count}
use Rattle.wgsl.specs.Clean.{CleanDone, done_from}
use Rattle.said.specs.Answer.{gaps_is}
use Rattle.walk_decide.proofs.Whole.{fixed_room, rest_room}
use Rattle.gaps_sweep.specs.Sweep.{swept_of}
use Rattle.gaps_sweep.proofs.Sweep.{keeps_both, sweep_keeps, keeps_countable, start_countable}
use Rattle.gaps.proofs.CleanType.{kept_whole, few_told, swept_whole}
use Rattle.gaps.proofs.clean_whole.Goals as goal

pub sweep_entry-fixed-requires : goal.sweep_entry-fixed-requires
sweep_entry-fixed-requires c =
    let (t, n, w, is) = c.requires.0 in
    ((shape_of 0 t, 0, word_count n t, w.tree, fixed_room w (omega (arith, is, c.requires.1)) (omega arith)), start_countable _ _ _)

pub sweep_many-all-requires : goal.sweep_many-all-requires
sweep_many-all-requires c =
    let (t, n, w, is) = c.requires.0 in
    let keeps = sweep_keeps _ (c.sweep_entry-fixed.ensures _ w.tree) in (
      (w.rest, _, word_count n t, w.many, rest_room w (omega (arith, is, c.requires.1, keeps.long)) (omega arith)),
      keeps_countable keeps (start_countable _ _ _),
    )

pub sweep_to-r-requires : goal.sweep_to-r-requires
sweep_to-r-requires c =
    let w = c.requires.0.2 in
    let keeps = keeps_both (sweep_keeps _ (c.sweep_entry-fixed.ensures _ w.tree)) (sweep_keeps _ (c.sweep_many-all.ensures _ w.many)) in
    (omega (arith, c.requires.1, keeps.long), keeps_countable keeps (start_countable _ _ _))

pub overflow_cast-result : goal.overflow_cast-result
overflow_cast-result c =
    let w = c.requires.0.2 in
    let keeps = kept_whole w _ (c.sweep_entry-fixed.ensures _ w.tree) (c.sweep_many-all.ensures _ w.many) c.sweep_to-r.ensures in
    omega (arith, (few_told _ _ keeps c.requires.1 c.requires.2).0)

pub overflow_cast-result-2 : goal.overflow_cast-result-2
overflow_cast-result-2 c =
    let w = c.requires.0.2 in
    let keeps = kept_whole w _ (c.sweep_entry-fixed.ensures _ w.tree) (c.sweep_many-all.ensures _ w.many) c.sweep_to-r.ensures in
    omega (arith, (few_told _ _ keeps c.requires.1 c.requires.2).1)

pub returns : goal.returns
unfolding done_from
returns c t n w extent o =
    let is = rw (c.sweep_many-all.ensures w.rest w.many, c.sweep_entry-fixed.ensures _ w.tree, extent) at c.sweep_to-r.ensures in
    let done = swept_whole w o c.args.buf.now (omega (arith, c.requires.1, extent)) (swept_of c.sweep_to-r.new.buf c.sweep_to-r.result) is in
    (ap gaps_is done, ap (λ (d : CleanDone). d.contents) done)
