use Prim.Native.Nat.{◌-◌}
use mathlib.Core.Path.{◌≡◌}
use Rattle.gaps_sweep.specs.Sweep.{swept_of, swept_bytes, swept_to, Countable}
use Rattle.gaps_sweep.proofs.gap.sweep_bytes.Given as goal

abbrev pub invariant-loop-i : goal.invariant-loop-i
invariant-loop-i l =
    (swept_bytes (l.to - l.i) l.i (swept_of l.buf l.r) ≡ swept_to l.to (swept_of l.initial.buf l.initial.r)) × Countable (swept_of l.buf l.r)
