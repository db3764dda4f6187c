-- The marks are those of the entries that were passed (`Named`).
use mathlib.Core.Path.{◌∙◌}
use borrow.Author.Rules.{rules}
use Rattle.layout_strays.proofs.Named.{entry_there, marks_next}
use Rattle.layout_strays.proofs.mark_all.Goals as goal

pub loop-k-preserved : goal.loop-k-preserved
loop-k-preserved c =
    let l = c.loop-k in (
      search rules,
      λ m low. c.mark_entry.ensures m low ∙ marks_next c.args.f.now l.k m (l.invariant.1 m low) (entry_there c.requires.0 l.k c.entry_at.ensures),
    )
