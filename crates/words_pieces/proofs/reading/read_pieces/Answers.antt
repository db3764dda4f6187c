-- Each turn of the loop reads one piece (`Passed`, crates/walk_pieces, proofs/Pass).
-- Assumes nothing.
use native.Mathlib.Omega.{arith}
use lib.ListN.{length}
use Rattle.walk_pieces.proofs.Pass.{pass_start, PieceRoom, piece_room, pass_next}
use Rattle.words_pieces.proofs.reading.read_pieces.Goals.{After-piece_at-p}
use Rattle.words_pieces.proofs.reading.read_pieces.Goals as goal

-- the piece whose turn it is
here : (c : After-piece_at-p) → PieceRoom c.piece_at-p.result c.args.at (length c.args.buf.now) c.loop-j.next (length c.args.words.now)
here c = piece_room c.loop-j.invariant c.requires.1 c.loop-j-test.true c.piece_at-p.ensures

pub loop-j-init : goal.loop-j-init
loop-j-init c = pass_start _ _ _ _ _ _

pub read_run-requires : goal.read_run-requires
read_run-requires c =
    let room = here (goal.at.read_run-requires c).After-piece_at-p in
    (room.width, room.bytes_there, rw c.loop-j.auto.words room.words_there)

pub overflow_add-next : goal.overflow_add-next
overflow_add-next c = record { fits = omega (arith, (here (goal.at.overflow_add-next c).After-piece_at-p).words_there, c.well_formed.1.1.1.1.1.0.0) }

pub loop-j-preserved : goal.loop-j-preserved
loop-j-preserved c = pass_next c.loop-j.invariant c.loop-j-test.true c.piece_at-p.ensures c.read_run.ensures
