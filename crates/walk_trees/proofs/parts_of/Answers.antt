-- Its own parts where they are runs, else those of its elements (proofs/Rows).
-- Assumes nothing.
use mathlib.Core.Path.{sym, ◌∙◌}
use Rattle.walk_trees.proofs.Many.{tree_many, many_each}
use Rattle.walk_trees.proofs.parts_of.Goals as goal

pub returns : goal.returns
returns c =
    let none = sym c.part_width-width.ensures ∙ c.if-width-ne0.false in
    let is = c.value_at-x.ensures in
    record {
      runs = λ some ms x m.
          let each = many_each m none in
          rw each.is (c.row_of.ensures some ms each.part (rw is (tree_many each.tree (rw is at c.if-x-eq-STRUCT.false))));
      none = λ z. none;
    }
