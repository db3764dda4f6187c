-- By what is found (proofs/ReadType). Assumes nothing.
use mathlib.Core.Path.{sym, ◌∙◌}
use native.Mathlib.Omega.{arith}
use Rattle.said.proofs.Answered.{answered_refused, answered_done}
use Rattle.wgsl.proofs.Tail.{closed_extent}
use Rattle.walk_decide.proofs.Whole.{ready_words, closed_whole}
use Rattle.walk_decide.proofs.ReadyBounds.{size_is}
use Rattle.words.proofs.ReadType.{few_bytes, few_words, all_read}
use Rattle.words.proofs.reading.read_closed.Goals as goal

pub returns-then-buf-l : goal.returns-then-buf-l
returns-then-buf-l c t r o = answered_refused _ (few_bytes r o _ _ c.if-buf-l.true)

pub returns-then-words : goal.returns-then-words
returns-then-words c t r o = answered_refused _ (few_words r o _ _ c.if-buf-l.false (rw c.words.ensures at c.if-words.true))

pub load-requires : goal.load-requires
load-requires c =
    let (t, r, o) = c.requires in (
      t,
      0,
      rw c.closed_rest.ensures (closed_whole r),
      omega (arith, ready_words r, rw c.words.ensures at c.if-words.false),
      omega (arith, closed_extent 0 t o, size_is r, c.if-buf-l.false),
    )

pub returns : goal.returns
returns c t r o =
    let there = rw c.words.ensures at c.if-words.false in
    answered_done _ (all_read r o _ _ c.if-buf-l.false there) (c.words-2.ensures ∙ sym (ready_words r))
    (c.load.ensures t 0 (rw c.closed_rest.ensures (closed_whole r)) (omega (arith, ready_words r, there)))
