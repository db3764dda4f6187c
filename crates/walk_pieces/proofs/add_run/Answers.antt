-- More words of the last piece, or a piece of its own (proofs/Added). Its numbers fit, since it ends within the limit.
-- Assumes nothing.
use native.Mathlib.Omega.{arith}
use Rattle.walk_pieces.proofs.Added.{piece_stored, words_stored}
use Rattle.walk_pieces.proofs.add_run.Goals as goal

pub returns-then-touches : goal.returns-then-touches
returns-then-touches c few =
    words_stored _ _ _ _ _ c.requires.width_is (c.touches.ensures c.if-touches.true) (omega (arith, c.requires.asks.few))

pub returns : goal.returns
returns c few = piece_stored _ _ _ _ _ c.requires.width_is (omega arith)
