use Prim.Native.Nat.{ℕ}
use mathlib.Core.Path.{◌≡◌}
use Rattle.wgsl.specs.Said.{good}
use Rattle.wgsl.specs.Place.{repeated}
use Rattle.runs.specs.Fold.{over_places, testing}
use Rattle.walk_pieces.specs.Piece.{pieces_places}
use Rattle.words_pieces.proofs.testing.fitting.Given as goal

abbrev pub invariant-loop-i : goal.invariant-loop-i
invariant-loop-i l =
    (stride at : ℕ) → good tt ≡ over_places (testing l.words) (repeated l.i stride (λ q. pieces_places l.few l.pieces q) at) l.k (good tt)
