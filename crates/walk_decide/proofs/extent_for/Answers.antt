-- Each answer is a law of `ElementsOf`.
use mathlib.Core.Path.{sym}
use native.Mathlib.Omega.{arith}
use Rattle.walk_decide.proofs.ElementsOf.{extent_before, extent_past, extent_inside, extent_right}
use Rattle.walk_decide.proofs.extent_for.Goals as goal

pub returns-then-bytes-first : goal.returns-then-bytes-first
returns-then-bytes-first c =
    let a = c.args in
    sym (extent_before a.bytes a.first a.stride a.n c.requires (omega arith))

pub returns-then-bytes-first-2 : goal.returns-then-bytes-first-2
returns-then-bytes-first-2 c = sym (extent_past _ _ _ _ (omega arith) (omega arith) (omega arith))

pub returns : goal.returns
returns c =
    sym (extent_right _ _ _ _ (omega arith) (extent_inside _ _ _ _ (omega arith) (omega arith) (omega arith)))
