-- Each answer is a law of `ScalarMade`.
use Prim.Native.Nat.{min}
use mathlib.Core.Path.{◌≡◌, ap, sym, ◌∙◌}
use native.Mathlib.Omega.{arith}
use Rattle.layout_values.proofs.ScalarMade.{stored_bool, stored_number}
use Rattle.layout_values.proofs.scalars.stored_width.Goals as goal

pub returns-then-kind-lt-I32 : goal.returns-then-kind-lt-I32
returns-then-kind-lt-I32 c s e = sym (stored_bool s (omega arith))

pub returns : goal.returns
returns c s e =
    let turned : min c.scalar_size.result 4 ≡ min 4 c.scalar_size.result = omega arith in
    c.min.ensures ∙ turned ∙ ap (min 4) (c.scalar_size.ensures.0 s e) ∙ sym (stored_number s (omega arith))
