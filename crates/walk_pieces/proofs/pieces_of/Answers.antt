-- Pieces added to none.
-- Assumes nothing.
use Rattle.walk_pieces.proofs.Added.{all_pieced}
use Rattle.walk_pieces.proofs.pieces_of.Goals as goal

pub returns : goal.returns
returns c few x t = all_pieced few (c.add_entry.ensures x t few)
