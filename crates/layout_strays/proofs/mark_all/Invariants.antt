use mathlib.Core.Path.{◌≡◌}
use lib.ListN.{length}
use Rattle.layout_strays.specs.Strays.{Marks}
use Rattle.layout_strays.proofs.mark_all.Given as goal

abbrev pub invariant-loop-k : goal.invariant-loop-k
invariant-loop-k l = (length l.named ≡ length l.initial.named) × Marks l.f l.k l.members l.named
