use native.Mathlib.Omega.{arith}
use Rattle.gaps_walk.proofs.Words.{many_room}
use Rattle.gaps_walk.proofs.sweep_many.Goals as goal

pub visit_many-requires : goal.visit_many-requires
visit_many-requires c =
    let r = c.requires.0 in
    ((r.0, r.3, many_room r.3 (omega arith) (omega arith) r.4), record { bytes_low = omega arith; words_low = omega arith })
