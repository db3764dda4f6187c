-- Each turn of the loop passes one piece (`Passed`, crates/walk_pieces, proofs/Pass). Its words are there whether they fit or not: that is
-- the pass that does nothing.
-- Assumes nothing.
use mathlib.Core.Path.{refl}
use native.Mathlib.Omega.{arith}
use lib.ListN.{length}
use Rattle.runs.specs.Fold.{over_places}
use Rattle.walk_pieces.proofs.Pass.{pass_start, PieceRoom, piece_room, pass_next}
use Rattle.words_pieces.proofs.testing.largest_of.Goals.{After-piece_at-p}
use Rattle.words_pieces.proofs.testing.largest_of.Goals as goal

-- the piece whose turn it is
here : (c : After-piece_at-p) → PieceRoom c.piece_at-p.result c.requires.1 c.requires.2 c.loop-j.next (length c.args.words.now)
here c = piece_room (c.loop-j.invariant.0 c.requires.1) c.requires.3 c.loop-j-test.true c.piece_at-p.ensures

pub loop-j-init : goal.loop-j-init
loop-j-init c = (λ at. pass_start _ _ _ _ _ _, λ low at. pass_start _ _ _ _ _ _)

pub largest_in-most-requires : goal.largest_in-most-requires
largest_in-most-requires c = ((here c).width, (here c).words_there)

pub overflow_add-next : goal.overflow_add-next
overflow_add-next c = record { fits = omega (arith, (here (goal.at.overflow_add-next c).After-piece_at-p).words_there, c.well_formed.1.1.0.0) }

pub loop-j-preserved : goal.loop-j-preserved
unfolding over_places
loop-j-preserved c =
    let call = c.largest_in-most.ensures in
    let l = c.loop-j in (
      λ at. pass_next (l.invariant.0 at) c.loop-j-test.true c.piece_at-p.ensures refl,
      λ low at. pass_next (l.invariant.1 (omega (arith, call.0)) at) c.loop-j-test.true c.piece_at-p.ensures (call.1 low _),
    )
