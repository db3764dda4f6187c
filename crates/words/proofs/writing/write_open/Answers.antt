-- By the elements that the words fill (proofs/WriteType).
use Rattle.std.specs.Prelude.{◌≡◌, Err, None, Some}
use mathlib.Core.Path.{sym, ◌∙◌}
use native.Mathlib.Omega.{arith}
use Rattle.said.proofs.Answered.{answered_refused, answered_same}
use Rattle.said.specs.declared.refusal.Refusal.TheVariants.{Count}
use Rattle.walk_decide.specs.Whole.{TailedBy}
use Rattle.walk_decide.proofs.ReadyBounds.{fixed_few}
use Rattle.words.proofs.WriteType.{no_elements, some_elements}
use Rattle.words.proofs.writing.write_open.Goals as goal

pub elements_for-requires : goal.elements_for-requires
elements_for-requires c =
    let x = c.requires.1 in
    rw c.rest_of-x.ensures (x.unit_above, fixed_few x)

pub returns-in_err-n : goal.returns-in_err-n
returns-in_err-n c =
    let r : c.from_residual.result ≡ Err Count = grind arith in
    let no : c.elements_for.result ≡ None = grind arith in
    λ t x.
    let y : TailedBy _ _ _ _ t = record { layout = _; tailed = x; tail_is = c.rest_of-x.ensures } in
    rw r (answered_refused _ (no_elements y _ _ (sym c.elements_for.ensures ∙ no)))

pub write_elements-requires : goal.write_elements-requires
write_elements-requires c =
    let (t, x, few) = c.requires in
    let is : c.elements_for.result ≡ Some c.in_ok-n.n = grind arith in
    let y : TailedBy _ _ _ _ t = record { layout = _; tailed = x; tail_is = c.rest_of-x.ensures } in
    (t, y, few, (some_elements y c.args.words.now c.args.buf.now (sym c.elements_for.ensures ∙ is)).0)

pub returns : goal.returns
returns c =
    let is : c.elements_for.result ≡ Some c.in_ok-n.n = grind arith in
    λ t x.
    let y : TailedBy _ _ _ _ t = record { layout = _; tailed = x; tail_is = c.rest_of-x.ensures } in
    let s = some_elements y c.args.words.now c.args.buf.now (sym c.elements_for.ensures ∙ is) in
    answered_same _ s.2 (c.write_elements.ensures t y s.0)
