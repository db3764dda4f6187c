-- Each answer is a law of `ElementsOf`.
use mathlib.Core.Path.{sym}
use native.Mathlib.Omega.{arith}
use Rattle.walk_decide.proofs.ElementsOf.{elements_few, elements_right, elements_wrong}
use Rattle.walk_decide.proofs.elements_for.Goals as goal

pub returns-then-words-first : goal.returns-then-words-first
returns-then-words-first c =
    let a = c.args in
    sym (elements_few a.words a.first a.unit c.requires.0 (omega arith))

pub returns-then-first-n : goal.returns-then-first-n
returns-then-first-n c =
    (sym (elements_right _ _ _ (omega arith) (omega arith) (omega arith)))

pub returns : goal.returns
returns c =
    (sym (elements_wrong _ _ _ (omega arith) (λ e. omega (arith, e))))
