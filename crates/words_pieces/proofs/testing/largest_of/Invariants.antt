use Prim.Native.Nat.{ℕ, ◌≤◌}
use Rattle.wgsl.specs.Said.{good}
use Rattle.wgsl.specs.Place.{Place}
use Rattle.runs.specs.Fold.{testing}
use Rattle.walk_pieces.proofs.Pass.{Passed}
use Rattle.words_pieces.proofs.testing.largest_of.Given as goal

pub idle : Place → ℕ → Unit {0} → Unit {0}
idle p k s = tt

abbrev pub invariant-loop-j : goal.invariant-loop-j
invariant-loop-j l =
    ((at : ℕ) → Passed idle l.fn.few l.pieces at l.fn.k tt l.j l.next tt)
    × (l.most ≤ 65535 → (at : ℕ) → Passed (testing l.words) l.fn.few l.pieces at l.fn.k (good tt) l.j l.next (good tt))
