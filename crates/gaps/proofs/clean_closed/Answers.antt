-- By what is found (proofs/CleanType). Assumes nothing.
use mathlib.Core.Path.{sym, ◌∙◌}
use Rattle.wgsl.specs.Clean.{done_from}
use Rattle.wgsl.proofs.Tail.{closed_extent}
use Rattle.said.proofs.Answered.{cleaned_refused, cleaned_done}
use Rattle.walk_decide.proofs.Whole.{ready_ordered, closed_whole}
use Rattle.walk_decide.proofs.ReadyBounds.{size_is}
use Rattle.gaps.proofs.CleanType.{few_bytes, all_cleaned}
use Rattle.gaps.proofs.clean_closed.Goals as goal

pub returns-then-buf-extent : goal.returns-then-buf-extent
returns-then-buf-extent c t r o = cleaned_refused _ (few_bytes r o _ c.if-buf-extent.true)

pub clean_whole-requires : goal.clean_whole-requires
clean_whole-requires c =
    let (t, r, o) = c.requires.0 in
    ((t, 0, rw c.closed_rest.ensures (closed_whole r), size_is r ∙ sym (closed_extent 0 t o)), c.if-buf-extent.false, c.requires.1)

pub returns : goal.returns
unfolding done_from
returns c t r o =
    let done = c.clean_whole.ensures t 0 (rw c.closed_rest.ensures (closed_whole r)) (size_is r ∙ sym (closed_extent 0 t o)) (ready_ordered r 0) in
    cleaned_done _ (all_cleaned r o _ c.if-buf-extent.false) done.0 done.1
