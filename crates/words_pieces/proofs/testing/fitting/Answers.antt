-- Each turn of the loop passes one element more (`each_more`, crates/walk_pieces, proofs/Pass).
-- Assumes nothing.
use Prim.Native.Nat.{◌+◌, ◌*◌}
use mathlib.Core.Path.{◌≡◌, refl}
use native.Mathlib.Omega.{arith}
use lib.ListN.{length}
use Rattle.wgsl.specs.Said.{good}
use Rattle.wgsl.specs.Place.{repeated}
use Rattle.runs.specs.Fold.{over_places, testing}
use Rattle.walk_pieces.specs.Piece.{PiecesRoom}
use Rattle.walk_pieces.proofs.Pass.{each_more}
use Rattle.words_pieces.proofs.testing.fitting.Goals.{In-loop-i}
use Rattle.words_pieces.proofs.testing.fitting.Goals as goal

-- the element whose turn it is
here : (c : In-loop-i) →
    let a = c.args in
    PiecesRoom a.few a.pieces.now a.unit (c.requires.1 + c.loop-i.i * c.requires.0) c.requires.2 (a.k + c.loop-i.i * a.unit) (length a.words.now)
here c = c.requires.3.room c.loop-i.i c.loop-i-test.true

pub loop-i-init : goal.loop-i-init
unfolding repeated over_places
loop-i-init c stride at = refl

pub largest_of-requires : goal.largest_of-requires
largest_of-requires c = (c.args.unit, c.requires.1 + c.loop-i.i * c.requires.0, c.requires.2, here (goal.at.largest_of-requires c).In-loop-i)

pub loop-i-preserved : goal.loop-i-preserved
loop-i-preserved c stride at =
    each_more (testing _) _ _ c.loop-i.i _ stride at _ (good tt) (here (goal.at.loop-i-preserved c).In-loop-i).unit_is (c.loop-i.invariant stride at)
    (c.largest_of.ensures c.if-largest_of-gt65535.false _)

pub returns : goal.returns
returns c =
    let all : c.args.count ≡ c.loop-i.i = omega arith in
    rw all (omega arith, c.loop-i.invariant)
