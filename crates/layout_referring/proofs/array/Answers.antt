-- The layout is a law of `ArrayMade`, at the element's number.
use Rattle.std.specs.Prelude.{Some}
use mathlib.Core.Bool.{true, false, not}
use mathlib.Core.List.{[], ◌∷◌}
use mathlib.Core.Path.{◌≡◌, ap, sym}
use native.Mathlib.Omega.{arith}
use Rattle.wgsl.specs.Types.{is_open}
use Rattle.wgsl.specs.Rule.{unused}
use Prim.Native.Nat.{◌*◌}
use Rattle.numbers.specs.Limit.{limited}
use Rattle.numbers.proofs.Limited.{limited_some}
use Rattle.layout_values.proofs.Unused.{unused_two, granted}
use Rattle.layout_referring.proofs.ArrayMade.{array_laid}
use Rattle.layout_referring.proofs.array.Goals as goal

pub returns : goal.returns
returns c long t is w =
    let e = c.args.e in
    let free : unused (e.columns ∷ e.rows ∷ []) ≡ true = granted (unused_two _ _ c.zeros.ensures) (ap not c.if-not-zeros.false) in
    let closed : is_open t ≡ false = grind arith in
    let size : limited (e.count * c.own_stride-stride.result) ≡ Some c.in_ok-size.size = grind (arith, limited_some) in
    rw c.words.ensures
    (sym (array_laid _ t long _ free (omega arith) _ is w closed _ (c.own_stride-stride.ensures t is w) _ size))
