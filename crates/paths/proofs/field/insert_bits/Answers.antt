-- What `integer_at` finds lies inside the buffer (proofs/IntegerOf); its word gets the field. Assumes nothing.
use Rattle.std.specs.Prelude.{Err}
use mathlib.Core.Path.{◌≡◌, refl, ap, ◌∙◌}
use native.Mathlib.Omega.{arith}
use Rattle.said.specs.Answer.{said}
use Rattle.said.proofs.Answered.{answered_refused, answered_done}
use Rattle.paths.proofs.IntegerOf.{at_offset, integer_there, insert_refused, insert_found}
use Rattle.paths.proofs.field.insert_bits.Goals as goal

pub put_field-requires : goal.put_field-requires
put_field-requires c =
    let x = integer_there _ _ _ _ (rw c.in_ok-target.was at (c.integer_at.ensures c.args.buf.now refl)) in
    (x.0, x.2)

pub returns-in_err-target : goal.returns-in_err-target
returns-in_err-target c =
    let is : c.from_residual.result ≡ Err c.in_err-target.field-0.0 = grind arith in
    let bad = insert_refused _ _ _ _ _ _ _ (rw c.in_err-target.was at (c.integer_at.ensures c.args.buf.now refl)) in
    let both = answered_refused _ bad in
    record { answer = rw is both.0; buffer = both.1 }

pub returns : goal.returns
returns c =
    let x = integer_there _ _ _ _ (rw c.in_ok-target.was at (c.integer_at.ensures c.args.buf.now refl)) in
    let both = answered_done _ (insert_found _ _ _ _ _ _ _ x.1) (at_offset x.2) (c.put_field.ensures.buffer x.0 x.2) in
    record { answer = ap said c.put_field.ensures.answer ∙ both.0; buffer = both.1 }
