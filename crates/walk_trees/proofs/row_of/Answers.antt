-- Runs that fill the stride of what holds them are one row (proofs/Rows).
-- Assumes nothing.
use mathlib.Core.Path.{refl, ◌∙◌}
use Rattle.walk_trees.proofs.Many.{many_runs}
use Rattle.walk_trees.proofs.Rows.{row_runs}
use Rattle.walk_trees.proofs.row_of.Goals as goal

pub returns : goal.returns
returns c =
    λ some ms y m.
    row_runs (many_runs m (λ z. some (c.part_width.ensures ∙ z))) c.if-l-count.false (rw c.part_width.ensures refl)
