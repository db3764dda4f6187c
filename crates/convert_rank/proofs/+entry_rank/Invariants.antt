use Rattle.convert_rank.proofs.+entry_rank.Given as goal

abbrev pub decreases-entry_rank : goal.decreases-entry_rank
decreases-entry_rank l = l.a
