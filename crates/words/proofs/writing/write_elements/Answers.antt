-- By where the elements end (proofs/WriteType).
use Rattle.std.specs.Prelude.{◌≡◌, Err, None, Some, length}
use mathlib.Core.Path.{sym, ◌∙◌}
use native.Mathlib.Omega.{arith}
use Rattle.said.proofs.Answered.{answered_refused, answered_same}
use Rattle.said.specs.declared.refusal.Refusal.TheVariants.{Buffer}
use Rattle.walk_decide.proofs.Whole.{open_whole}
use Rattle.walk_decide.proofs.ReadyBounds.{stride_above, elements_few}
use Rattle.words.proofs.WriteType.{no_room, room}
use Rattle.words.proofs.writing.write_elements.Goals as goal

pub extent_for-requires : goal.extent_for-requires
extent_for-requires c =
    let y = c.requires.1 in
    rw y.tail_is (stride_above y.tailed)

pub returns-in_err-extent : goal.returns-in_err-extent
returns-in_err-extent c =
    let r : c.from_residual.result ≡ Err Buffer = grind arith in
    let no : c.extent_for.result ≡ None = grind arith in
    λ t y l. rw r (answered_refused _ (no_room y _ _ _ (sym c.extent_for.ensures ∙ no)))

pub overflow_cast-n : goal.overflow_cast-n
overflow_cast-n c =
    let (t, y, few, l) = c.requires in
    let is : c.extent_for.result ≡ Some c.in_ok-extent.extent = grind arith in
    let e = room y c.args.words.now c.args.buf.now c.args.n (sym c.extent_for.ensures ∙ is) in
    omega (arith, elements_few y.tailed c.args.n (length c.args.buf.now) (omega (arith, e.0, e.1)), few)

pub overflow_cast-extent : goal.overflow_cast-extent
overflow_cast-extent c =
    let (t, y, few, l) = c.requires in
    let is : c.extent_for.result ≡ Some c.in_ok-extent.extent = grind arith in
    omega (arith, (room y c.args.words.now c.args.buf.now c.args.n (sym c.extent_for.ensures ∙ is)).1, few)

pub write_whole-requires : goal.write_whole-requires
write_whole-requires c =
    let (t, y, few, l) = c.requires in
    let is : c.extent_for.result ≡ Some c.in_ok-extent.extent = grind arith in
    let e = room y c.args.words.now c.args.buf.now c.args.n (sym c.extent_for.ensures ∙ is) in
    (t, c.args.n, rw (c.open_rest.ensures, y.tail_is) (open_whole y.tailed _), l, e.0, e.1)

pub returns : goal.returns
returns c =
    let is : c.extent_for.result ≡ Some c.in_ok-extent.extent = grind arith in
    λ t y l.
    let e = room y c.args.words.now c.args.buf.now c.args.n (sym c.extent_for.ensures ∙ is) in
    answered_same _ e.2 (c.write_whole.ensures t _ (rw (c.open_rest.ensures, y.tail_is) (open_whole y.tailed _)) l e.0 e.1)
