-- By pieces, as many as fit; else none (crates/walk_pieces, proofs/Pass).
-- Assumes nothing.
use mathlib.Core.Path.{refl}
use native.Mathlib.Omega.{arith}
use Rattle.wgsl.specs.Place.{repeated, places_of}
use Rattle.runs.specs.Fold.{over_places}
use Rattle.walk_pieces.proofs.Pass.{pieced_each, pieced_parts}
use Rattle.words_test.proofs.fit_at_once.Goals as goal

pub fitting-requires : goal.fitting-requires
fitting-requires c =
    let (y, bytes, tree, low, room) = c.requires in
    (c.args.p.stride, 0, bytes, pieced_each (c.pieces_of-few.ensures c.if-few-le-MOST.true y tree) room)

pub returns-then-few-le-MOST : goal.returns-then-few-le-MOST
returns-then-few-le-MOST c =
    let call = c.fitting.ensures in
    (call.0, λ y u stride. rw (← pieced_parts (c.pieces_of-few.ensures c.if-few-le-MOST.true y u) c.fitting.result stride 0) (call.1 stride 0))

pub returns : goal.returns
unfolding places_of repeated over_places
returns c = (omega arith, λ y u stride. refl)
