-- Each word passed is at most `largest`: a turn takes it no lower, and no lower than its word.
-- Assumes nothing.
use Prim.Native.Nat.{ℕ, ◌+◌, ◌<◌, ◌≤◌}
use lib.ListN.{get_or}
use Rattle.runs.proofs.testing.largest.Given as goal

abbrev pub invariant-loop-word : goal.invariant-loop-word
invariant-loop-word l = (l.most ≤ l.largest) × ((j : ℕ) → j < l.word-index → get_or l.words (l.k + j) 0 ≤ l.largest)
