-- Each answer is a law of `ElementsOf`.
use mathlib.Core.Path.{sym}
use native.Mathlib.Omega.{arith}
use Rattle.walk_decide.proofs.ElementsOf.{found_none, found_before, found_some}
use Rattle.walk_decide.proofs.elements_in.Goals as goal

pub returns-then-bytes-first : goal.returns-then-bytes-first
returns-then-bytes-first c =
    let a = c.args in
    sym (found_before a.bytes a.first a.stride c.requires (omega arith))

pub returns-then-n-eq0 : goal.returns-then-n-eq0
returns-then-n-eq0 c =
    (sym (found_none _ _ _ (omega arith)))

pub returns : goal.returns
returns c =
    (sym (found_some _ _ _ (λ e. omega (arith, e))))
