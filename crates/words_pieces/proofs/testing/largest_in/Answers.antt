-- Words pass that fit (`run_passes`, crates/runs, proofs/RunPlaces), and a word of four bytes always does.
-- Assumes nothing.
use Prim.Native.Nat.{◌+◌}
use mathlib.Core.Path.{sym}
use native.Mathlib.Omega.{arith}
use Rattle.runs.proofs.RunPlaces.{width_four, run_passes}
use Rattle.words_pieces.proofs.testing.largest_in.Goals as goal

pub returns-then-p-eq2 : goal.returns-then-p-eq2
returns-then-p-eq2 c =
    let a = c.args in
    let each = c.largest.ensures.1 in (
      c.largest.ensures.0,
      λ low at. rw c.if-p-eq2.true (sym (run_passes a.words.now a.p.words 2 at a.k (λ i h. omega (arith, each i h)))),
    )

pub returns : goal.returns
returns c =
    let known = c in
    let a = known.args in (
      omega arith,
      λ low at. rw (width_four known.requires.0 c.if-p-eq2.false) (sym (run_passes a.words.now a.p.words 4 at a.k (λ i h. omega (arith, known.shared_slice_known-1.given (a.k + i))))),
    )
