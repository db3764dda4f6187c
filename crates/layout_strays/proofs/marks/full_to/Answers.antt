-- Full words, one after the other (`InWords`).
use Prim.Native.Nat.{◌/◌, ◌<◌, ◌≤◌}
use mathlib.Core.Logic.{⊎_elim}
use mathlib.Core.Path.{◌≡◌}
use native.Mathlib.Omega.{arith}
use Rattle.wgsl.proofs.Bit.{lt_or_le}
use Rattle.layout_strays.proofs.InWords.{full_marked}
use Rattle.layout_strays.proofs.marks.full_to.Goals as goal

pub loop-m-preserved : goal.loop-m-preserved
loop-m-preserved c =
    let l = c in (
      omega arith,
      λ i h.
          ⊎_elim (λ (low : i < l.loop-m.m). l.loop-m.invariant.1 i low)
          (λ (high : l.loop-m.m ≤ i).
          let same : i / 64 ≡ l.loop-m.m / 64 = omega (arith, l.loop-m.invariant.0) in
          full_marked l.args.named.now i (rw same (omega arith)))
          (lt_or_le i l.loop-m.m),
    )
