-- By the elements that are found (proofs/ReadType). Assumes nothing.
use mathlib.Core.Path.{◌≡◌, sym, ◌∙◌}
use native.Mathlib.Omega.{arith}
use Rattle.std.specs.Prelude.{Err, None, Some}
use Rattle.said.specs.declared.refusal.Refusal.TheVariants.{Buffer}
use Rattle.said.proofs.Answered.{answered_refused, answered_same}
use Rattle.walk_decide.proofs.ReadyBounds.{stride_above}
use Rattle.words.proofs.ReadType.{tailed_by, no_elements, some_elements}
use Rattle.words.proofs.reading.read_open.Goals as goal

pub elements_in-requires : goal.elements_in-requires
elements_in-requires c = rw c.rest_of-x.ensures (stride_above c.requires.1)

pub returns-in_err-n : goal.returns-in_err-n
returns-in_err-n c t x =
    let no : c.elements_in.result ≡ None = grind arith in
    let is : c.from_residual.result ≡ Err Buffer = grind arith in
    rw is (answered_refused _ (no_elements (tailed_by x c.rest_of-x.ensures) _ _ (sym c.elements_in.ensures ∙ no)))

pub read_elements-requires : goal.read_elements-requires
read_elements-requires c =
    let (t, x, few) = c.requires in
    let some : c.elements_in.result ≡ Some c.in_ok-n.n = grind arith in
    let y = tailed_by x c.rest_of-x.ensures in
    (t, y, (some_elements y c.args.buf.now c.args.words.now (sym c.elements_in.ensures ∙ some)).0, few)

pub returns : goal.returns
returns c t x =
    let some : c.elements_in.result ≡ Some c.in_ok-n.n = grind arith in
    let y = tailed_by x c.rest_of-x.ensures in
    answered_same _ (some_elements y _ _ (sym c.elements_in.ensures ∙ some)).1 (c.read_elements.ensures t y)
